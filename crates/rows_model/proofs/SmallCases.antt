-- The small cases, one by one.
use Rattle.std.proofs.Common.{arith, ◌≡◌, ◌∙◌, ◌+◌, ◌<◌, ℕ, List, [], ◌∷◌, length, refl, sym, pos}
use Rattle.std.proofs.lemmas.Int.{ints}
use Rattle.std.proofs.lemmas.List.Elements.{All-nil}
use Rattle.exact.specs.Rational.{◌+ℚ◌, neg_ℚ, at_least_0, ratio, of_int}
use Rattle.exact.proofs.Integers.{of_int_le}
use Rattle.exact.proofs.Order.{le_refl}
use Rattle.sgp4_model.specs.Time.{IsWithin}
use Rattle.sgp4_model.specs.Certified.{Tiles, IsTrueSpan, IsSoundUpTo}
use Rattle.sgp4_model.specs.declared.span.Mark.{Mark}
use Rattle.sgp4_model.specs.declared.span.Mark.TheVariants.{Yes, No, Undecided}
use Rattle.sgp4_model.specs.declared.span.Span.{Span}
use Rattle.sgp4_model.proofs.CertifiedLemmas.{sound_lists_extend}
use Rattle.rows_model.specs.SmallTrack.{small_track, hazy_track, yes_span, no_span, undecided_span, right_list}
use Rattle.rows_model.specs.Tilings.{SmallTruths}
use Rattle.rows_model.specs.Rows.{SpanRows, UnresolvedRows, FullRows}

-- the place 7/2, between two ticks, lies in the cell from 0 to 4 and not in that from 0 to 3
inside_4 : IsWithin 0 4 (ratio (pos 7) 2)
unfolding of_int ratio ◌+ℚ◌ neg_ℚ at_least_0
inside_4 = record { low = record { le = tt }; high = record { le = tt } }

outside_3 : ¬ (IsWithin 0 3 (ratio (pos 7) 2))
unfolding of_int ratio ◌+ℚ◌ neg_ℚ at_least_0
outside_3 h = absurd h.high.le

-- the place 1 lies in the cell from 0 to 2, and neither from 3 to 5 nor from 5 to 7
inside_2 : IsWithin 0 2 (ratio (pos 1) 1)
unfolding of_int ratio ◌+ℚ◌ neg_ℚ at_least_0
inside_2 = record { low = record { le = tt }; high = record { le = tt } }

inside_3 : IsWithin 0 3 (ratio (pos 1) 1)
unfolding of_int ratio ◌+ℚ◌ neg_ℚ at_least_0
inside_3 = record { low = record { le = tt }; high = record { le = tt } }

before_3 : ¬ (IsWithin 3 5 (ratio (pos 1) 1))
unfolding of_int ratio ◌+ℚ◌ neg_ℚ at_least_0
before_3 h = absurd h.low.le

before_5 : ¬ (IsWithin 5 7 (ratio (pos 1) 1))
unfolding of_int ratio ◌+ℚ◌ neg_ℚ at_least_0
before_5 h = absurd h.low.le

-- the place 7/2 lies in the cell from 3 to 5, and not in that from 5 to 7
inside_5 : IsWithin 3 5 (ratio (pos 7) 2)
unfolding of_int ratio ◌+ℚ◌ neg_ℚ at_least_0
inside_5 = record { low = record { le = tt }; high = record { le = tt } }

late_5 : ¬ (IsWithin 5 7 (ratio (pos 7) 2))
unfolding of_int ratio ◌+ℚ◌ neg_ℚ at_least_0
late_5 h = absurd h.low.le

-- the place 1 lies in the cell from 0 to 4
inside_1_of_4 : IsWithin 0 4 (ratio (pos 1) 1)
unfolding of_int ratio ◌+ℚ◌ neg_ℚ at_least_0
inside_1_of_4 = record { low = record { le = tt }; high = record { le = tt } }

visible : (resolution : ℕ) → IsTrueSpan small_track resolution (yes_span 0 3)
visible resolution = record { yes = λ _ place h. h; no = λ e. absurd (cc); grazes = λ e. absurd (cc); short = λ e. absurd (cc) }

hidden : (resolution : ℕ) → IsTrueSpan small_track resolution (no_span 3 5)
hidden resolution = record { yes = λ e. absurd (cc); no = λ _ place h. h; grazes = λ e. absurd (cc); short = λ e. absurd (cc) }

grazing : IsTrueSpan small_track 2 (undecided_span 5 7)
grazing = record { yes = λ e. absurd (cc); no = λ e. absurd (cc); grazes = λ _ place h. h; short = λ _. omega arith }

pub small_truths : SmallTruths
small_truths = record {
  visible = visible 2;
  hidden = hidden 2;
  grazing = grazing;
  too_wide = λ h. outside_3 (h.yes refl (ratio (pos 7) 2) inside_4);
  other_mark = λ h. before_3 (h.no refl (ratio (pos 1) 1) inside_3);
  certain = λ h. late_5 (h.grazes refl (ratio (pos 7) 2) inside_5);
  too_long = λ h. omega (arith, h.short refl);
}

-- the right list, a span at a time
sound_none : (resolution : ℕ) → IsSoundUpTo small_track resolution [] 0
sound_none resolution = record { tiles = refl; differ = tt; each = All-nil (IsTrueSpan small_track resolution) }

sound_one : (resolution : ℕ) → IsSoundUpTo small_track resolution (yes_span 0 3 ∷ []) 3
sound_one resolution =
    sound_lists_extend small_track resolution [] (yes_span 0 3) (sound_none resolution) tt (omega arith) (visible resolution)

sound_pair : (resolution : ℕ) → IsSoundUpTo small_track resolution (yes_span 0 3 ∷ no_span 3 5 ∷ []) 5
sound_pair resolution =
    sound_lists_extend small_track resolution (yes_span 0 3 ∷ []) (no_span 3 5) (sound_one resolution) (λ e. cc) (omega arith) (hidden resolution)

sound_list : IsSoundUpTo small_track 2 right_list 7
sound_list = sound_lists_extend small_track 2 (yes_span 0 3 ∷ no_span 3 5 ∷ []) (undecided_span 5 7) (sound_pair 2) (λ e. cc) (omega arith) grazing

pub span_rows : SpanRows
span_rows = record {
  right = (sound_list, refl);
  miscounted = λ h. omega (arith, h.1);
  gapped = λ h. omega (arith, h.0.tiles.2.0);
  split = λ h. h.0.differ.1.0 refl;
  empty = λ h. omega (arith, h.0.tiles);
  coarse = λ h. omega (arith, (h.0.each 2 (yes_span 0 0) (omega arith)).short refl);
}

-- a true span of the hazy track is undecided
undecided_of : (a : Span) → a.from < a.to → IsTrueSpan hazy_track 1 a → a.mark ≡ Undecided
undecided_of a l h = of_mark a.mark refl
  where
    begins : IsWithin a.from a.to (of_int (pos a.from))
    begins = record { low = le_refl (of_int (pos a.from)); high = of_int_le (omega (arith, ints, l)) }

    of_mark : (m : Mark) → a.mark ≡ m → a.mark ≡ Undecided
    of_mark Yes k = absurd (h.yes k (of_int (pos a.from)) begins)
    of_mark No k = absurd (h.no k (of_int (pos a.from)) begins)
    of_mark Undecided k = k

-- so no list is sound up to 3 at a resolution of one
no_hazy_list : (list : List Span) → ¬ (IsSoundUpTo hazy_track 1 list 3)
no_hazy_list [] s = omega (arith, s.tiles)
no_hazy_list (a ∷ []) s =
    let true_span = s.each 0 a (omega arith) in
    omega (arith, true_span.short (undecided_of a (omega (arith, s.tiles.0, s.tiles.1)) true_span), s.tiles.0, s.tiles.2)
no_hazy_list (a ∷ b ∷ rest) s =
    s.differ.0
    (undecided_of a (omega (arith, s.tiles.0, s.tiles.1)) (s.each 0 a (omega arith))
    ∙ sym (undecided_of b (omega (arith, s.tiles.2.0, s.tiles.2.1)) (s.each 1 b (omega arith))))

pub unresolved_rows : UnresolvedRows
unresolved_rows = record {
  right = (
    record { list = yes_span 0 3 ∷ no_span 3 5 ∷ []; sound = sound_pair 1; longer = refl; inside = omega arith; grazes = λ place h. h },
    refl,
  );
  resolved = λ h. omega (arith, h.0.longer);
  certain = λ h. before_5 (h.0.grazes (ratio (pos 1) 1) inside_2);
  beyond = λ h. omega (arith, h.0.inside);
  listed = λ h. cc;
  first = (
    record {
      list = [];
      sound = record { tiles = refl; differ = tt; each = All-nil (IsTrueSpan hazy_track 1) };
      longer = refl;
      inside = omega arith;
      grazes = λ place h. tt;
    },
    refl,
  );
  later = λ h. no_hazy_list h.0.list h.0.sound;
}

-- no list of one span leads from 0 to 0
no_empty_span : (list : List Span) → length list + 9 ≡ 10 → ¬ (Tiles list 0)
no_empty_span [] e t = omega (arith, e)
no_empty_span (a ∷ []) e t = omega (arith, t.0, t.1, t.2)
no_empty_span (a ∷ b ∷ rest) e t = omega (arith, e)

-- no span from 0 to 4 is true
no_true_span : (a : Span) → a.from ≡ 0 → a.to ≡ 4 → ¬ (IsTrueSpan small_track 2 a)
no_true_span a e f h = of_mark a.mark refl
  where
    of_mark : (m : Mark) → a.mark ≡ m → ⊥
    of_mark Yes k = outside_3 (h.yes k (ratio (pos 7) 2) (rw (e, f) inside_4))
    of_mark No k = before_3 (h.no k (ratio (pos 1) 1) (rw (e, f) inside_1_of_4))
    of_mark Undecided k = before_5 (h.grazes k (ratio (pos 1) 1) (rw (e, f) inside_1_of_4))

-- so no list of one span is sound up to 4
no_sound_list : (list : List Span) → length list + 9 ≡ 10 → ¬ (IsSoundUpTo small_track 2 list 4)
no_sound_list [] e s = omega (arith, e)
no_sound_list (a ∷ []) e s = no_true_span a s.tiles.0 s.tiles.2 (s.each 0 a (omega arith))
no_sound_list (a ∷ b ∷ rest) e s = omega (arith, e)

pub full_rows : FullRows
full_rows = record {
  right = (record { list = yes_span 0 3 ∷ no_span 3 5 ∷ []; sound = sound_pair 2; before_the_end = omega arith; no_slot = refl }, refl);
  first = (record { list = []; sound = sound_none 2; before_the_end = omega arith; no_slot = refl }, refl);
  at_the_end = λ h. omega (arith, h.0.before_the_end);
  overfull = λ h. omega (arith, h.0.no_slot);
  underfull = λ h. no_empty_span h.0.list h.0.no_slot h.0.sound.tiles;
  untrue = λ h. no_sound_list h.0.list h.0.no_slot h.0.sound;
  listed = λ h. cc;
}
