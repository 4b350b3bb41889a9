-- The small rows that decay.
use Rattle.std.proofs.Common.{arith, ◌≡◌, ◌<◌, ◌≤◌, ℕ, List, [], ◌∷◌, pos, refl}
use Rattle.std.proofs.lemmas.Int.{ints}
use Rattle.std.proofs.lemmas.List.Elements.{All-nil}
use Rattle.exact.specs.Rational.{ℚ, of_int}
use Rattle.exact.proofs.Integers.{le_of_int, of_int_le}
use Rattle.exact.proofs.Order.{le_trans}
use Rattle.sgp4_model.specs.Time.{IsWithin, Somewhere}
use Rattle.sgp4_model.specs.Certified.{TrackRecord, IsTrueSpan, IsSoundUpTo}
use Rattle.sgp4_model.specs.declared.span.Mark.{Mark}
use Rattle.sgp4_model.specs.declared.span.Mark.TheVariants.{Yes, No, Undecided}
use Rattle.sgp4_model.specs.declared.span.Span.{Span}
use Rattle.sgp4_model.proofs.CertifiedLemmas.{sound_lists_extend}
use Rattle.rows_model.specs.SmallTrack.{sinking_track, sunken_track, yes_span, no_span}
use Rattle.rows_model.specs.Rows.{DecayRows}

-- a tick lies in a cell
within : (from at to : ℕ) → from ≤ at → at ≤ to → IsWithin from to (of_int (pos at))
within from at to l m = record { low = of_int_le (omega (arith, ints, l)); high = of_int_le (omega (arith, ints, m)) }

-- cells with a tick between them have no place in common
apart : (from to from' to' : ℕ) (place : ℚ) → to < from' → IsWithin from to place → IsWithin from' to' place → ⊥
apart from to from' to' place l h k = omega (arith, ints, l, le_of_int (le_trans k.low h.high))

sound_none : (track : TrackRecord) → IsSoundUpTo track 2 [] 0
sound_none track = record { tiles = refl; differ = tt; each = All-nil (IsTrueSpan track 2) }

visible : IsTrueSpan sinking_track 2 (yes_span 0 3)
visible = record { yes = λ _ place h. h; no = λ e. absurd (cc); grazes = λ e. absurd (cc); short = λ e. absurd (cc) }

hidden : IsTrueSpan sinking_track 2 (no_span 3 5)
hidden = record { yes = λ e. absurd (cc); no = λ _ place h. h; grazes = λ e. absurd (cc); short = λ e. absurd (cc) }

shorter : IsTrueSpan sinking_track 2 (no_span 3 4)
shorter = record {
  yes = λ e. absurd (cc);
  no = λ _ place h. record { low = h.low; high = le_trans h.high (of_int_le (omega (arith, ints))) };
  grazes = λ e. absurd (cc);
  short = λ e. absurd (cc);
}

sound_one : IsSoundUpTo sinking_track 2 (yes_span 0 3 ∷ []) 3
sound_one = sound_lists_extend sinking_track 2 [] (yes_span 0 3) (sound_none sinking_track) tt (omega arith) visible

sound_pair : IsSoundUpTo sinking_track 2 (yes_span 0 3 ∷ no_span 3 5 ∷ []) 5
sound_pair = sound_lists_extend sinking_track 2 (yes_span 0 3 ∷ []) (no_span 3 5) sound_one (λ e. cc) (omega arith) hidden

sound_short : IsSoundUpTo sinking_track 2 (yes_span 0 3 ∷ no_span 3 4 ∷ []) 4
sound_short = sound_lists_extend sinking_track 2 (yes_span 0 3 ∷ []) (no_span 3 4) sound_one (λ e. cc) (omega arith) shorter

-- no span is true of the sunken track
no_true_span : (a : Span) → a.from < a.to → ¬ (IsTrueSpan sunken_track 2 a)
no_true_span a l h = of_mark a.mark refl
  where
    here : IsWithin a.from a.to (of_int (pos a.from))
    here = within a.from a.from a.to (omega arith) (omega (arith, l))

    of_mark : (m : Mark) → a.mark ≡ m → ⊥
    of_mark Yes k = h.yes k (of_int (pos a.from)) here
    of_mark No k = h.no k (of_int (pos a.from)) here
    of_mark Undecided k = h.grazes k (of_int (pos a.from)) here

no_sound_list : (list : List Span) → ¬ (IsSoundUpTo sunken_track 2 list 1)
no_sound_list [] s = omega (arith, s.tiles)
no_sound_list (a ∷ rest) s = no_true_span a s.tiles.1 (s.each 0 a (omega arith))

pub decay_rows : DecayRows
decay_rows = record {
  right = (record { list = yes_span 0 3 ∷ no_span 3 5 ∷ []; sound = sound_pair; before_the_end = omega arith; sinks = sinks_5 }, refl);
  no_slot = (record { list = yes_span 0 3 ∷ no_span 3 5 ∷ []; sound = sound_pair; before_the_end = omega arith; sinks = sinks_5 }, refl);
  at_its_end = (record { list = yes_span 0 3 ∷ no_span 3 4 ∷ []; sound = sound_short; before_the_end = omega arith; sinks = sinks_4 }, refl);
  at_once = (record { list = []; sound = sound_none sunken_track; before_the_end = omega arith; sinks = (of_int (pos 0), (within 0 0 1 (omega arith) (omega arith), tt)) }, refl);
  early = λ h. apart 3 4 5 6 h.0.sinks.0 (omega arith) h.0.sinks.1.0 h.0.sinks.1.1;
  calm = λ h. h.0.sinks.1.1;
  at_the_end = λ h. omega (arith, h.0.before_the_end);
  untrue = λ h. no_sound_list h.0.list h.0.sound;
  listed = λ h. cc;
}
  where
    sinks_5 : Somewhere 5 6 (IsWithin 5 6)
    sinks_5 = (of_int (pos 5), (within 5 5 6 (omega arith) (omega arith), within 5 5 6 (omega arith) (omega arith)))

    sinks_4 : Somewhere 4 5 (IsWithin 5 6)
    sinks_4 = (of_int (pos 5), (within 4 5 5 (omega arith) (omega arith), within 5 5 6 (omega arith) (omega arith)))
