-- Laws of lists of spans, as public functions promise them.
use Rattle.std.specs.Prelude.{ℕ, ◌≢◌, ◌<◌, List, [], ◌∷◌, ◌++◌, Contains, ⊤}
use Rattle.exact.specs.Rational.{ℚ}
use Rattle.sgp4_model.specs.Time.{IsWithin}
use Rattle.sgp4_model.specs.Records.{decays}
use Rattle.sgp4_model.specs.Certified.{TrackRecord, Tiles, IsTrueSpan, IsSoundUpTo, IsCertified}
use Rattle.sgp4_model.specs.declared.span.Mark.{Mark}
use Rattle.sgp4_model.specs.declared.span.Span.{Span}

-- the last span, if there is one, has another mark
abbrev pub EndsOtherThan : Mark → List Span → Type 0
EndsOtherThan mark [] = ⊤
EndsOtherThan mark (last ∷ []) = last.mark ≢ mark
EndsOtherThan mark (_ ∷ second ∷ rest) = EndsOtherThan mark (second ∷ rest)

-- the empty list tiles 0 to 0
abbrev pub EmptyListTiles : Type 0
EmptyListTiles = Tiles [] 0

-- a list that is sound up to where a true span of another mark begins, and then this span, is sound up to its end
abbrev pub SoundListsExtend : TrackRecord → Type 0
SoundListsExtend track =
    (resolution : ℕ) (list : List Span) (span : Span) → IsSoundUpTo track resolution list span.from → EndsOtherThan span.mark list →
    span.from < span.to → IsTrueSpan track resolution span → IsSoundUpTo track resolution (list ++ span ∷ []) span.to

-- each place up to a tick after the start lies in some span of a list that tiles 0 to it
abbrev pub TilesHoldEachPlace : Type 0
TilesHoldEachPlace =
    (list : List Span) (to : ℕ) (place : ℚ) → Tiles list to → 0 < to → IsWithin 0 to place →
    (span : Span) × (Contains list span × IsWithin span.from span.to place)

-- a row that decays is certified only where the track sinks at some place
abbrev pub OnlySinkingTracksDecay : TrackRecord → Type 0
OnlySinkingTracksDecay track =
    (resolution slots used at : ℕ) (list : List Span) → IsCertified track resolution slots used (decays at) list → (place : ℚ) × track.sinks place
