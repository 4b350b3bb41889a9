-- Lists of spans: extended at the end, and searched for a place.
use Rattle.std.proofs.Common.{arith, ℕ, suc, ◌<◌, List, [], ◌∷◌, ◌++◌, length, refl, subst, sym}
use Rattle.std.specs.Prelude.{Contains}
use Rattle.std.proofs.lemmas.List.Elements.{All-append, All-cons, All-nil}
use native.Mathlib.Nat.{zero-lt-suc}
use Rattle.exact.specs.Rational.{ℚ}
use Rattle.sgp4_model.specs.Time.{IsWithin}
use Rattle.sgp4_model.proofs.TimeLemmas.{cut}
use Rattle.sgp4_model.specs.Certified.{TrackRecord, Leads, NeighboursDiffer, IsTrueSpan}
use Rattle.sgp4_model.specs.CertifiedLaws.{EndsOtherThan, OnlySinkingTracksDecay, SoundListsExtend, TilesHoldEachPlace}
use Rattle.sgp4_model.specs.declared.span.Span.{Span}

-- a list that leads on, and a span from there
leads_extend : (from : ℕ) (list : List Span) (span : Span) → Leads from list span.from → span.from < span.to → Leads from (list ++ span ∷ []) span.to
leads_extend from [] span h k = (sym h, k, refl)
leads_extend from (first ∷ rest) span h k = (h.0, h.1, leads_extend first.to rest span h.2 k)

-- neighbours still differ where the last one has another mark than the new one
differ_extend : (list : List Span) (span : Span) → NeighboursDiffer list → EndsOtherThan span.mark list → NeighboursDiffer (list ++ span ∷ [])
differ_extend [] span h k = (tt, tt)
differ_extend (last ∷ []) span h k = (k, (tt, tt))
differ_extend (first ∷ second ∷ rest) span h k = (h.0, differ_extend (second ∷ rest) span h.1 k)

pub sound_lists_extend : (track : TrackRecord) → SoundListsExtend track
sound_lists_extend track resolution list span sound other longer true_ = record {
  tiles = leads_extend 0 list span sound.tiles longer;
  differ = differ_extend list span sound.differ other;
  each = All-append (IsTrueSpan track resolution) list (span ∷ []) sound.each
      (All-cons (IsTrueSpan track resolution) span [] true_ (All-nil (IsTrueSpan track resolution)));
}

-- a place that a list of spans leads over lies in the first span, or in one of the rest
held : (from : ℕ) (first : Span) (rest : List Span) (to : ℕ) (place : ℚ) → Leads from (first ∷ rest) to → IsWithin from to place →
    (span : Span) × (Contains (first ∷ rest) span × IsWithin span.from span.to place)
held from first [] to place leads here =
    (first, ((0, zero-lt-suc 0, refl), subst (λ t. IsWithin t first.to place) (sym leads.0) (subst (λ t. IsWithin from t place) (sym leads.2) here)))
held from first (second ∷ rest) to place leads here = cut from first.to to place here
    (λ h. (first, ((0, zero-lt-suc (suc (length rest)), refl), subst (λ t. IsWithin t first.to place) (sym leads.0) h)))
    (λ h. let found = held first.to second rest to place leads.2 h in
    (found.0, ((suc found.1.0.0, after found.1.0.0 (length rest) found.1.0.1, found.1.0.2), found.1.1)))
  where
    after : (m n : ℕ) → m < suc n → suc m < suc (suc n)
    after m n h = omega arith

pub tiles_hold_each_place : TilesHoldEachPlace
tiles_hold_each_place [] to place tiles longer here = absurd (omega arith)
tiles_hold_each_place (first ∷ rest) to place tiles longer here = held 0 first rest to place tiles here

pub only_sinking_tracks_decay : (track : TrackRecord) → OnlySinkingTracksDecay track
only_sinking_tracks_decay track resolution slots used at list h = (h.0.sinks.0, h.0.sinks.1.1)
