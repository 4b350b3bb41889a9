-- Two pairs of a sine and a cosine, the second on the slopes of the first.
use Rattle.std.proofs.Common.{◌≡◌, subst, ℕ, zero, suc, pos, [], ◌∷◌}
use Rattle.exact.specs.Rational.{ℚ, ◌+ℚ◌, ◌-ℚ◌, ◌*ℚ◌, neg_ℚ, ratio, one_ℚ, zero_ℚ, ◌≤ℚ◌}
use Rattle.exact.proofs.RationalRing.{ring, reads}
use Rattle.exact.proofs.Order.{◌⊕◌, ◌⊗◌, gap, known, le_by}
use Rattle.sgp4_model.specs.Angle.{IsNear, Pair, turned}
use Rattle.sgp4_model.proofs.Near.{near_weaken, near_neg}
use Rattle.sgp4_model.proofs.PairLaws.{IsNearPair}

-- the second pair is what the slopes of the first one give after a step d, up to e
pub record IsOnSlope (e d : ℚ) (p q : Pair) : Type 0 where
  pub sine : IsNear e q.sine (p.sine +ℚ d *ℚ p.cosine)
  pub cosine : IsNear e q.cosine (p.cosine -ℚ d *ℚ p.sine)

-- a larger distance serves
pub slope_weaken : {e f d : ℚ} {p q : Pair} → e ≤ℚ f → IsOnSlope e d p q → IsOnSlope f d p q
slope_weaken l h = record { sine = near_weaken l h.sine; cosine = near_weaken l h.cosine }

-- near the same number, in other words
near_same : {e a b : ℚ} (c : ℚ) → b ≡ c → IsNear e a b → IsNear e a c
near_same {e} {a} c i h = subst (λ t. IsNear e a t) i h

-- quarter turns of both pairs
pub turned_on_slope : {e d : ℚ} {p q : Pair} (n : ℕ) → IsOnSlope e d p q → IsOnSlope e d (turned n p) (turned n q)
unfolding turned
turned_on_slope zero h = h
turned_on_slope {e} {d} {p} {q} (suc zero) h =
    record {
      sine = near_same (p.cosine +ℚ d *ℚ neg_ℚ p.sine) (ring (d ∷ p.sine ∷ p.cosine ∷ []) (search reads depth 90) tt) h.cosine;
      cosine = near_same (neg_ℚ p.sine -ℚ d *ℚ p.cosine) (ring (d ∷ p.sine ∷ p.cosine ∷ []) (search reads depth 90) tt) (near_neg h.sine);
    }
turned_on_slope {e} {d} {p} {q} (suc (suc zero)) h =
    record {
      sine = near_same (neg_ℚ p.sine +ℚ d *ℚ neg_ℚ p.cosine) (ring (d ∷ p.sine ∷ p.cosine ∷ []) (search reads depth 90) tt) (near_neg h.sine);
      cosine = near_same (neg_ℚ p.cosine -ℚ d *ℚ neg_ℚ p.sine) (ring (d ∷ p.sine ∷ p.cosine ∷ []) (search reads depth 90) tt) (near_neg h.cosine);
    }
turned_on_slope {e} {d} {p} {q} (suc (suc (suc n))) h =
    record {
      sine = near_same (neg_ℚ p.cosine +ℚ d *ℚ p.sine) (ring (d ∷ p.sine ∷ p.cosine ∷ []) (search reads depth 90) tt) (near_neg h.cosine);
      cosine = near_same (p.sine -ℚ d *ℚ neg_ℚ p.cosine) (ring (d ∷ p.sine ∷ p.cosine ∷ []) (search reads depth 90) tt) h.sine;
    }

-- pairs that are near such pairs, where the step is at most 1
pub near_on_slope : {e f d : ℚ} {p q u v : Pair} → IsOnSlope e d p q → IsNear one_ℚ d zero_ℚ → IsNearPair f u p → IsNearPair f v q →
    IsOnSlope (e +ℚ ratio (pos 3) 1 *ℚ f) d u v
near_on_slope {e} {f} {d} {p} {q} {u} {v} h l n m =
    record {
      sine = record {
        above = le_by (e ∷ f ∷ d ∷ p.sine ∷ p.cosine ∷ q.sine ∷ u.sine ∷ u.cosine ∷ v.sine ∷ [])
            (gap h.sine.above ⊕ gap m.sine.above ⊕ gap n.sine.below ⊕ known 1 2 ⊗ (gap l.above ⊗ gap n.cosine.above ⊕ gap l.below ⊗ gap n.cosine.below))
            (search reads depth 90) tt;
        below = le_by (e ∷ f ∷ d ∷ p.sine ∷ p.cosine ∷ q.sine ∷ u.sine ∷ u.cosine ∷ v.sine ∷ [])
            (gap h.sine.below ⊕ gap m.sine.below ⊕ gap n.sine.above ⊕ known 1 2 ⊗ (gap l.above ⊗ gap n.cosine.below ⊕ gap l.below ⊗ gap n.cosine.above))
            (search reads depth 90) tt;
      };
      cosine = record {
        above = le_by (e ∷ f ∷ d ∷ p.sine ∷ p.cosine ∷ q.cosine ∷ u.sine ∷ u.cosine ∷ v.cosine ∷ [])
            (gap h.cosine.above ⊕ gap m.cosine.above ⊕ gap n.cosine.below ⊕ known 1 2 ⊗ (gap l.above ⊗ gap n.sine.below ⊕ gap l.below ⊗ gap n.sine.above))
            (search reads depth 90) tt;
        below = le_by (e ∷ f ∷ d ∷ p.sine ∷ p.cosine ∷ q.cosine ∷ u.sine ∷ u.cosine ∷ v.cosine ∷ [])
            (gap h.cosine.below ⊕ gap m.cosine.below ⊕ gap n.cosine.above ⊕ known 1 2 ⊗ (gap l.above ⊗ gap n.sine.above ⊕ gap l.below ⊗ gap n.sine.below))
            (search reads depth 90) tt;
      };
    }
