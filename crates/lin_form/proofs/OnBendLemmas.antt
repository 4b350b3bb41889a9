-- Two pairs of a sine and a cosine, the second on the parabolas of the first.
use Rattle.std.proofs.Common.{◌≡◌, refl, ℕ, zero, suc, pos, [], ◌∷◌}
use Rattle.exact.specs.Rational.{ℚ, ◌+ℚ◌, ◌-ℚ◌, ◌*ℚ◌, neg_ℚ, ratio, one_ℚ, zero_ℚ, ◌≤ℚ◌}
use Rattle.exact.proofs.RationalRing.{ring, reads}
use Rattle.exact.proofs.Order.{NonNeg, ◌⊕◌, ◌⊗◌, gap, known, le_by, not_negative, same_sign}
use Rattle.exact.proofs.Bounds.{square}
use Rattle.sgp4_model.specs.Angle.{IsNear, Pair, turned}
use Rattle.sgp4_model.proofs.Near.{near_positive, near_weaken, near_neg}
use Rattle.sgp4_model.proofs.PairLaws.{IsNearPair}
use Rattle.lin_form.specs.Bend.{ahead}
use Rattle.lin_form.proofs.AheadLemmas.{near_same}

-- the second pair is what the slopes and bends of the first one give after a step d, up to e
pub record IsOnBend (e d : ℚ) (p q : Pair) : Type 0 where
  pub sine : IsNear e q.sine (ahead d p.sine p.cosine)
  pub cosine : IsNear e q.cosine (ahead d p.cosine (neg_ℚ p.sine))

-- a larger distance serves
pub bend_weaken : {e f d : ℚ} {p q : Pair} → e ≤ℚ f → IsOnBend e d p q → IsOnBend f d p q
bend_weaken l h = record { sine = near_weaken l h.sine; cosine = near_weaken l h.cosine }

-- the opposite of what is ahead
opposite : {e t : ℚ} (d v w n m : ℚ) →
    n ≡ neg_ℚ v → m ≡ neg_ℚ w → IsNear e t (ahead d v w) → IsNear e (neg_ℚ t) (ahead d n m)
opposite d v w n m i j h =
    near_same (ahead d n m) (rw (i, j) (ring (d ∷ v ∷ w ∷ []) (search reads depth 90) tt)) (near_neg h)

-- the opposite of the opposite
twice : (x : ℚ) → x ≡ neg_ℚ (neg_ℚ x)
twice x = ring (x ∷ []) (search reads depth 90) tt

-- quarter turns of both pairs
pub turned_on_bend : {e d : ℚ} {p q : Pair} (n : ℕ) → IsOnBend e d p q → IsOnBend e d (turned n p) (turned n q)
unfolding turned
turned_on_bend zero h = h
turned_on_bend {e} {d} {p} {q} (suc zero) h = record {
  sine = h.cosine;
  cosine = opposite d p.sine p.cosine (neg_ℚ p.sine) (neg_ℚ p.cosine) refl refl h.sine;
}
turned_on_bend {e} {d} {p} {q} (suc (suc zero)) h = record {
  sine = opposite d p.sine p.cosine (neg_ℚ p.sine) (neg_ℚ p.cosine) refl refl h.sine;
  cosine = opposite d p.cosine (neg_ℚ p.sine) (neg_ℚ p.cosine) (neg_ℚ (neg_ℚ p.sine)) refl refl h.cosine;
}
turned_on_bend {e} {d} {p} {q} (suc (suc (suc n))) h = record {
  sine = opposite d p.cosine (neg_ℚ p.sine) (neg_ℚ p.cosine) p.sine refl (twice p.sine) h.cosine;
  cosine = near_same (ahead d p.sine (neg_ℚ (neg_ℚ p.cosine))) (rw (← (twice p.cosine)) refl) h.sine;
}

-- a number near one that is ahead of v and w, from numbers near those, where the step is at most 1
near_ahead_of : {e f d t u v w p q : ℚ} →
    IsNear e t (ahead d v w) → IsNear one_ℚ d zero_ℚ → IsNear f u t → IsNear f p v → IsNear f q w →
    IsNear (e +ℚ ratio (pos 7) 2 *ℚ f) u (ahead d p q)
near_ahead_of {e} {f} {d} {t} {u} {v} {w} {p} {q} h l n first second = record {
  above = le_by (e ∷ f ∷ d ∷ t ∷ u ∷ v ∷ w ∷ p ∷ q ∷ [])
      (gap h.above ⊕ gap n.above ⊕ gap first.below
      ⊕ known 1 2 ⊗ (gap l.above ⊗ gap second.above ⊕ gap l.below ⊗ gap second.below)
      ⊕ known 1 2 ⊗ (square d ⊗ gap first.above ⊕ rest)) (search reads depth 90) tt;
  below = le_by (e ∷ f ∷ d ∷ t ∷ u ∷ v ∷ w ∷ p ∷ q ∷ [])
      (gap h.below ⊕ gap n.below ⊕ gap first.above
      ⊕ known 1 2 ⊗ (gap l.above ⊗ gap second.below ⊕ gap l.below ⊗ gap second.above)
      ⊕ known 1 2 ⊗ (square d ⊗ gap first.below ⊕ rest)) (search reads depth 90) tt;
}
  where
    rest : NonNeg ((one_ℚ -ℚ d) *ℚ (d +ℚ one_ℚ) *ℚ f)
    rest =
        same_sign (ring (d ∷ f ∷ []) (search reads depth 90) tt)
        (gap l.above ⊗ gap l.below ⊗ not_negative (near_positive n))

-- pairs that are near such pairs
pub near_on_bend : {e f d : ℚ} {p q u v : Pair} →
    IsOnBend e d p q → IsNear one_ℚ d zero_ℚ → IsNearPair f u p → IsNearPair f v q →
    IsOnBend (e +ℚ ratio (pos 7) 2 *ℚ f) d u v
near_on_bend h l n m = record {
  sine = near_ahead_of h.sine l m.sine n.sine n.cosine;
  cosine = near_ahead_of h.cosine l m.cosine n.cosine (near_neg n.sine);
}
