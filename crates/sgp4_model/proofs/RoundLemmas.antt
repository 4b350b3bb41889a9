-- Borders that go round the horizon: each arc of 90 degrees has one, and a direction lies short of one.
use Rattle.std.proofs.Common.{[], ◌∷◌, List, ◌⊎◌, inl, inr, ⊎_elim, subst, T, not, Bool, true, false}
use Rattle.exact.specs.Rational.{ℚ, ◌+ℚ◌, ◌-ℚ◌, ◌*ℚ◌, at_least_0, neg_ℚ, zero_ℚ, ◌≤ℚ◌, ◌<ℚ◌}
use Rattle.exact.proofs.RationalRing.{ring, reads}
use Rattle.exact.proofs.Order.{gap, known, le_by, same_sign, ◌⊕◌, ◌⊗◌}
use Rattle.exact.proofs.Bounds.{le_total}
use Rattle.exact.proofs.Strict.{le_of_lt, not_both, positive_gap}
use Rattle.exact.proofs.Tests.{by_test}
use Rattle.sgp4_model.specs.Angle.{IsPi, IsSinCos, Pair}
use Rattle.sgp4_model.specs.Degrees.{IsPairOfDegrees, radians}
use Rattle.sgp4_model.specs.MaskLaws.{AreRound, GoRound, SomeBorder, SomeSectorHolds}
use Rattle.sgp4_model.specs.Numerals.{whole}
use Rattle.sgp4_model.specs.Records.{SectorRecord}
use Rattle.sgp4_model.specs.Sectors.{AreMaskPairs, SectorPairs, past}
use Rattle.sgp4_model.specs.Sight.{SightRecord}
use Rattle.sgp4_model.proofs.FacingLemmas.{Leans, plus_0, plus_1, plus_2, plus_3, plus_4, minus_0, minus_1, minus_2, minus_3, minus_4}
use Rattle.sgp4_model.proofs.SectorLemmas.{some_sector_holds_between}

by_less : {A : Type 0} (x y : ℚ) → (x ≤ℚ y → A) → (y <ℚ x → A) → A
by_less x y f g = by_test (at_least_0 (y -ℚ x)) (λ t. f (record { le = t })) (λ t. g (record { lt = t }))

clash : {A : Type 0} {x y : ℚ} → x ≤ℚ y → y <ℚ x → A
clash {x = x} {y} h k = absurd (not_both (positive_gap k) (same_sign (ring (x ∷ y ∷ []) (search reads depth 90) tt) (gap h)))

-- the first border is at most 90 degrees
first_low : (first border : ℚ) (sectors : List SectorRecord) → border <ℚ whole 360 → GoRound first border sectors → first ≤ℚ whole 90
first_low first border [] less round = le_by (first ∷ border ∷ []) (gap round.near ⊕ gap (le_of_lt less)) (search reads depth 90) tt
first_low first border (s ∷ sectors) less round = first_low first s.border sectors round.0 round.1.1

-- ---- an arc from t degrees on
module _ (fact : Pair → Type 0) (pi t : ℚ) where
  module _ (good : (z : ℚ) (p : Pair) → IsPairOfDegrees pi z p → t ≤ℚ z → z ≤ℚ t +ℚ whole 90 → fact p) where
    walk : (first border : ℚ) (sectors : List SectorRecord) (pairs : List SectorPairs) → AreMaskPairs pi sectors pairs → GoRound first border sectors →
        border <ℚ t → zero_ℚ ≤ℚ first → t +ℚ whole 90 ≤ℚ whole 360 → SomeBorder fact pairs
    walk first border [] pairs are round less least most =
        clash (le_by (first ∷ border ∷ t ∷ []) (gap round.near ⊕ gap least ⊕ gap most) (search reads depth 90) tt) less
    walk first border (s ∷ sectors) [] are round less least most = absurd are
    walk first border (s ∷ sectors) (p ∷ pairs) are round less least most =
        by_less t s.border
        (λ h. inl (good s.border p.border are.0.0 h (le_by (s.border ∷ border ∷ t ∷ []) (gap round.1.0.near ⊕ gap (le_of_lt less)) (search reads depth 90) tt)))
        (λ h. inr (walk first s.border sectors pairs are.1 round.1.1 h least most))

    -- an arc between 0 and 360 degrees
    in_arc : (sectors : List SectorRecord) (pairs : List SectorPairs) → AreMaskPairs pi sectors pairs → AreRound sectors → zero_ℚ ≤ℚ t → t +ℚ whole 90 ≤ℚ whole 360 → SomeBorder fact pairs
    in_arc [] pairs are round least most = absurd round
    in_arc (s ∷ sectors) [] are round least most = absurd are
    in_arc (s ∷ sectors) (p ∷ pairs) are round least most =
        let low = first_low s.border s.border sectors round.1.0 round.1.1 in
        by_less t s.border
        (λ h. inl (good s.border p.border are.0.0 h (le_by (s.border ∷ t ∷ []) (gap low ⊕ gap least) (search reads depth 90) tt)))
        (λ h. inr (walk s.border s.border sectors pairs are.1 round.1.1 h round.0 most))

  -- an arc across 0 degrees
  module _ (good : (z : ℚ) (p : Pair) → IsPairOfDegrees pi z p → zero_ℚ ≤ℚ z → z ≤ℚ t +ℚ whole 90 → fact p) (good_below : (z : ℚ) (p : Pair) → IsPairOfDegrees pi z p → t +ℚ whole 360 ≤ℚ z → z ≤ℚ whole 360 → fact p) where
    walk_on : (first border : ℚ) (sectors : List SectorRecord) (pairs : List SectorPairs) → AreMaskPairs pi sectors pairs → GoRound first border sectors →
        border <ℚ t +ℚ whole 360 → (first ≤ℚ t +ℚ whole 90) ⊎ SomeBorder fact pairs
    walk_on first border [] pairs are round less = inl (le_by (first ∷ border ∷ t ∷ []) (gap round.near ⊕ gap (le_of_lt less)) (search reads depth 90) tt)
    walk_on first border (s ∷ sectors) [] are round less = absurd are
    walk_on first border (s ∷ sectors) (p ∷ pairs) are round less =
        by_less (t +ℚ whole 360) s.border
        (λ h. inr (inl (good_below s.border p.border are.0.0 h (le_of_lt round.0))))
        (λ h. ⊎_elim (λ l. inl l) (λ r. inr (inr r)) (walk_on first s.border sectors pairs are.1 round.1.1 h))

    across : (sectors : List SectorRecord) (pairs : List SectorPairs) → AreMaskPairs pi sectors pairs → AreRound sectors → SomeBorder fact pairs
    across [] pairs are round = absurd round
    across (s ∷ sectors) [] are round = absurd are
    across (s ∷ sectors) (p ∷ pairs) are round =
        by_less (t +ℚ whole 360) s.border
        (λ h. inl (good_below s.border p.border are.0.0 h (le_of_lt round.1.0)))
        (λ h. ⊎_elim (λ l. inl (good s.border p.border are.0.0 round.0 l)) (λ r. inr r) (walk_on s.border s.border sectors pairs are.1 round.1.1 h))

-- ---- a direction that faces away from a border
less_plus : (e n u w : ℚ) → zero_ℚ ≤ℚ e → e ≤ℚ n → Leans u w → e *ℚ w -ℚ n *ℚ u ≤ℚ zero_ℚ
less_plus e n u w h k l = le_by (e ∷ n ∷ u ∷ w ∷ []) (gap h ⊗ gap l.side ⊕ gap k ⊗ gap l.main) (search reads depth 90) tt

less_minus : (e n u w : ℚ) → e ≤ℚ zero_ℚ → neg_ℚ e ≤ℚ n → Leans u (neg_ℚ w) → e *ℚ w -ℚ n *ℚ u ≤ℚ zero_ℚ
less_minus e n u w h k l = le_by (e ∷ n ∷ u ∷ w ∷ []) (gap h ⊗ gap l.side ⊕ gap k ⊗ gap l.main) (search reads depth 90) tt

moved : {pi : ℚ} {p : Pair} (z q : ℚ) → IsPairOfDegrees pi z p → IsSinCos pi (radians pi (q +ℚ (z -ℚ q))) p.sine p.cosine
moved {pi} {p} z q is = subst (λ x. IsSinCos pi (radians pi x) p.sine p.cosine) (ring (z ∷ q ∷ []) (search reads depth 90) tt) is

abbrev Short : SightRecord → Pair → Type 0
Short v p = past p v ≤ℚ zero_ℚ

module _ (pi : ℚ) (h : IsPi pi) (sectors : List SectorRecord) (pairs : List SectorPairs) (round : AreRound sectors) (are : AreMaskPairs pi sectors pairs) (v : SightRecord) where
  facing_plus_1 : zero_ℚ ≤ℚ v.east → v.east ≤ℚ v.north → SomeBorder (Short v) pairs
  facing_plus_1 side in_front =
      in_arc (Short v) pi (whole 57) (λ z p is l m. subst (λ x. x ≤ℚ zero_ℚ) (ring (v.east ∷ v.north ∷ p.sine ∷ p.cosine ∷ []) (search reads depth 90) tt) (less_plus (v.east) (v.north) (p.sine) (p.cosine) side in_front (plus_1 (z -ℚ whole 90) h (moved z (whole 90) is) (le_by (z ∷ []) (gap l) (search reads depth 90) tt) (le_by (z ∷ []) (gap m) (search reads depth 90) tt))))
      sectors pairs are round (le_by [] (known 57 1) (search reads depth 90) tt) (le_by [] (known 213 1) (search reads depth 90) tt)

  facing_minus_1 : v.east ≤ℚ zero_ℚ → neg_ℚ (v.east) ≤ℚ v.north → SomeBorder (Short v) pairs
  facing_minus_1 side in_front =
      in_arc (Short v) pi (whole 33) (λ z p is l m. subst (λ x. x ≤ℚ zero_ℚ) (ring (v.east ∷ v.north ∷ p.sine ∷ p.cosine ∷ []) (search reads depth 90) tt) (less_minus (v.east) (v.north) (p.sine) (p.cosine) side in_front (minus_1 (z -ℚ whole 90) h (moved z (whole 90) is) (le_by (z ∷ []) (gap l) (search reads depth 90) tt) (le_by (z ∷ []) (gap m) (search reads depth 90) tt))))
      sectors pairs are round (le_by [] (known 33 1) (search reads depth 90) tt) (le_by [] (known 237 1) (search reads depth 90) tt)

  facing_plus_2 : zero_ℚ ≤ℚ neg_ℚ v.north → neg_ℚ v.north ≤ℚ v.east → SomeBorder (Short v) pairs
  facing_plus_2 side in_front =
      in_arc (Short v) pi (whole 147) (λ z p is l m. subst (λ x. x ≤ℚ zero_ℚ) (ring (v.east ∷ v.north ∷ p.sine ∷ p.cosine ∷ []) (search reads depth 90) tt) (less_plus (neg_ℚ v.north) (v.east) (neg_ℚ p.cosine) (p.sine) side in_front (plus_2 (z -ℚ whole 180) h (moved z (whole 180) is) (le_by (z ∷ []) (gap l) (search reads depth 90) tt) (le_by (z ∷ []) (gap m) (search reads depth 90) tt))))
      sectors pairs are round (le_by [] (known 147 1) (search reads depth 90) tt) (le_by [] (known 123 1) (search reads depth 90) tt)

  facing_minus_2 : neg_ℚ v.north ≤ℚ zero_ℚ → neg_ℚ (neg_ℚ v.north) ≤ℚ v.east → SomeBorder (Short v) pairs
  facing_minus_2 side in_front =
      in_arc (Short v) pi (whole 123) (λ z p is l m. subst (λ x. x ≤ℚ zero_ℚ) (ring (v.east ∷ v.north ∷ p.sine ∷ p.cosine ∷ []) (search reads depth 90) tt) (less_minus (neg_ℚ v.north) (v.east) (neg_ℚ p.cosine) (p.sine) side in_front (minus_2 (z -ℚ whole 180) h (moved z (whole 180) is) (le_by (z ∷ []) (gap l) (search reads depth 90) tt) (le_by (z ∷ []) (gap m) (search reads depth 90) tt))))
      sectors pairs are round (le_by [] (known 123 1) (search reads depth 90) tt) (le_by [] (known 147 1) (search reads depth 90) tt)

  facing_plus_3 : zero_ℚ ≤ℚ neg_ℚ v.east → neg_ℚ v.east ≤ℚ neg_ℚ v.north → SomeBorder (Short v) pairs
  facing_plus_3 side in_front =
      in_arc (Short v) pi (whole 237) (λ z p is l m. subst (λ x. x ≤ℚ zero_ℚ) (ring (v.east ∷ v.north ∷ p.sine ∷ p.cosine ∷ []) (search reads depth 90) tt) (less_plus (neg_ℚ v.east) (neg_ℚ v.north) (neg_ℚ p.sine) (neg_ℚ p.cosine) side in_front (plus_3 (z -ℚ whole 270) h (moved z (whole 270) is) (le_by (z ∷ []) (gap l) (search reads depth 90) tt) (le_by (z ∷ []) (gap m) (search reads depth 90) tt))))
      sectors pairs are round (le_by [] (known 237 1) (search reads depth 90) tt) (le_by [] (known 33 1) (search reads depth 90) tt)

  facing_minus_3 : neg_ℚ v.east ≤ℚ zero_ℚ → neg_ℚ (neg_ℚ v.east) ≤ℚ neg_ℚ v.north → SomeBorder (Short v) pairs
  facing_minus_3 side in_front =
      in_arc (Short v) pi (whole 213) (λ z p is l m. subst (λ x. x ≤ℚ zero_ℚ) (ring (v.east ∷ v.north ∷ p.sine ∷ p.cosine ∷ []) (search reads depth 90) tt) (less_minus (neg_ℚ v.east) (neg_ℚ v.north) (neg_ℚ p.sine) (neg_ℚ p.cosine) side in_front (minus_3 (z -ℚ whole 270) h (moved z (whole 270) is) (le_by (z ∷ []) (gap l) (search reads depth 90) tt) (le_by (z ∷ []) (gap m) (search reads depth 90) tt))))
      sectors pairs are round (le_by [] (known 213 1) (search reads depth 90) tt) (le_by [] (known 57 1) (search reads depth 90) tt)

  facing_plus_0 : zero_ℚ ≤ℚ v.north → v.north ≤ℚ neg_ℚ v.east → SomeBorder (Short v) pairs
  facing_plus_0 side in_front =
      across (Short v) pi (neg_ℚ (whole 33)) (λ z p is l m. subst (λ x. x ≤ℚ zero_ℚ) (ring (v.east ∷ v.north ∷ p.sine ∷ p.cosine ∷ []) (search reads depth 90) tt) (less_plus (v.north) (neg_ℚ v.east) (p.cosine) (neg_ℚ p.sine) side in_front (plus_0 (z -ℚ whole 0) h (moved z (whole 0) is) (le_by (z ∷ []) (gap l ⊕ known 33 1) (search reads depth 90) tt) (le_by (z ∷ []) (gap m) (search reads depth 90) tt)))) (λ z p is l m. subst (λ x. x ≤ℚ zero_ℚ) (ring (v.east ∷ v.north ∷ p.sine ∷ p.cosine ∷ []) (search reads depth 90) tt) (less_plus (v.north) (neg_ℚ v.east) (p.cosine) (neg_ℚ p.sine) side in_front (plus_4 (z -ℚ whole 360) h (moved z (whole 360) is) (le_by (z ∷ []) (gap l) (search reads depth 90) tt) (le_by (z ∷ []) (gap m ⊕ known 57 1) (search reads depth 90) tt))))
      sectors pairs are round

  facing_minus_0 : v.north ≤ℚ zero_ℚ → neg_ℚ (v.north) ≤ℚ neg_ℚ v.east → SomeBorder (Short v) pairs
  facing_minus_0 side in_front =
      across (Short v) pi (neg_ℚ (whole 57)) (λ z p is l m. subst (λ x. x ≤ℚ zero_ℚ) (ring (v.east ∷ v.north ∷ p.sine ∷ p.cosine ∷ []) (search reads depth 90) tt) (less_minus (v.north) (neg_ℚ v.east) (p.cosine) (neg_ℚ p.sine) side in_front (minus_0 (z -ℚ whole 0) h (moved z (whole 0) is) (le_by (z ∷ []) (gap l ⊕ known 57 1) (search reads depth 90) tt) (le_by (z ∷ []) (gap m) (search reads depth 90) tt)))) (λ z p is l m. subst (λ x. x ≤ℚ zero_ℚ) (ring (v.east ∷ v.north ∷ p.sine ∷ p.cosine ∷ []) (search reads depth 90) tt) (less_minus (v.north) (neg_ℚ v.east) (p.cosine) (neg_ℚ p.sine) side in_front (minus_4 (z -ℚ whole 360) h (moved z (whole 360) is) (le_by (z ∷ []) (gap l) (search reads depth 90) tt) (le_by (z ∷ []) (gap m ⊕ known 33 1) (search reads depth 90) tt))))
      sectors pairs are round

  -- each direction lies short of some border, or on it
  short_of_some : SomeBorder (Short v) pairs
  short_of_some = ⊎_elim
      (λ a. ⊎_elim
      (λ b. ⊎_elim (λ c. facing_minus_1 c b) (λ c. facing_plus_1 c a) (le_total v.east zero_ℚ))
      (λ b. ⊎_elim (λ c. facing_minus_0 c (le_by (v.east ∷ v.north ∷ []) (gap a) (search reads depth 90) tt)) (λ c. facing_plus_0 c b) (le_total v.north zero_ℚ))
      (le_total (neg_ℚ v.east) v.north))
      (λ a. ⊎_elim
      (λ b. ⊎_elim (λ c. facing_plus_2 (le_by (v.north ∷ []) (gap c) (search reads depth 90) tt) (le_by (v.east ∷ v.north ∷ []) (gap b) (search reads depth 90) tt)) (λ c. facing_minus_2 (le_by (v.north ∷ []) (gap c) (search reads depth 90) tt) (le_by (v.east ∷ v.north ∷ []) (gap a) (search reads depth 90) tt)) (le_total v.north zero_ℚ))
      (λ b. ⊎_elim (λ c. facing_plus_3 (le_by (v.east ∷ []) (gap c) (search reads depth 90) tt) (le_by (v.east ∷ v.north ∷ []) (gap a) (search reads depth 90) tt)) (λ c. facing_minus_3 (le_by (v.east ∷ []) (gap c) (search reads depth 90) tt) (le_by (v.east ∷ v.north ∷ []) (gap b) (search reads depth 90) tt)) (le_total v.east zero_ℚ))
      (le_total (neg_ℚ v.east) v.north))
      (le_total v.east v.north)

opposite : SightRecord → SightRecord
opposite v = record { east = neg_ℚ v.east; north = neg_ℚ v.north; up = v.up }

past_some : (v : SightRecord) (pairs : List SectorPairs) → SomeBorder (Short (opposite v)) pairs → SomeBorder (λ border. zero_ℚ ≤ℚ past border v) pairs
unfolding opposite
past_some v [] some = absurd some
past_some v (p ∷ pairs) (inl s) = inl (by v.east v.north p.border.sine p.border.cosine s)
  where
    by : (e n s c : ℚ) → neg_ℚ e *ℚ c -ℚ neg_ℚ n *ℚ s ≤ℚ zero_ℚ → zero_ℚ ≤ℚ e *ℚ c -ℚ n *ℚ s
    by e n s c h = le_by (e ∷ n ∷ s ∷ c ∷ []) (gap h) (search reads depth 90) tt
past_some v (p ∷ pairs) (inr more) = inr (past_some v pairs more)

pub some_sector_holds : SomeSectorHolds
some_sector_holds pi sectors pairs v h round are =
    some_sector_holds_between pairs v
    (past_some v pairs (short_of_some pi h sectors pairs round are (opposite v)))
    (short_of_some pi h sectors pairs round are v)
