-- Intervals of pi, of sines and of cosines, and lines, as the plain enclosure makes them.
use Rattle.std.proofs.Common.{◌≡◌, arith, [], ◌∷◌, inl, inr, pos, ◌+ℤ◌}
use Rattle.std.proofs.lemmas.Int.{ints}
use Rattle.exact.specs.Rational.{ℚ, of_int, ◌≤ℚ◌}
use Rattle.exact.proofs.RationalRing.{reads}
use Rattle.exact.proofs.Order.{gap, known, le_by, ◌⊕◌, ◌⊗◌}
use Rattle.fixed_iv.specs.Ends.{in_units}
use Rattle.fixed_iv.specs.Extent.{extent_of}
use Rattle.fixed_iv.specs.Holds.{Holds, IsBounded, IsTightest, InEither}
use Rattle.fixed_iv.specs.Narrow.{IsNarrowPi, IsNarrowTurn}
use Rattle.fixed_iv.specs.Place.{Place, on_line}
use Rattle.fixed_iv.specs.declared.iv.Iv.{Iv}
use Rattle.fixed_iv.proofs.NarrowLemmas.{narrow_by}
use Rattle.fixed_iv.proofs.OuterLemmas.{width_is}
use Rattle.trig_enc.specs.Enclose.{IsAtMostWider, IsWithinLimits}

pub pi_narrow : {v : Iv} → v.hi ≡ v.lo +ℤ pos 1 → IsBounded v → IsNarrowPi (extent_of v)
pi_narrow {v} e b = narrow_by v (λ _ _. b) (λ _ _. omega (arith, ints, e, width_is v))

pub turn_narrow : {a v : Iv} → IsAtMostWider a v → IsWithinLimits v → IsNarrowTurn (extent_of a) (extent_of v)
turn_narrow {a} {v} wider limits =
    narrow_by v (λ _ _. record { low = omega (arith, ints, limits.low); high = omega (arith, ints, limits.high) })
    (λ m _. let w = wider m.bounded in omega (arith, ints, w, width_is a, width_is v))

-- a line lies in the hull of its ends' intervals
pub line_holds : {a b v : Iv} {x y : ℚ} → IsTightest (InEither a b) v → (h : Place) → Holds a x → Holds b y → Holds v (on_line h x y)
line_holds {a} {b} {v} {x} {y} t h p q =
    let k = t.holds x (inl p) in
    let m = t.holds y (inr q) in
    record { low = λ s. low (k.low s) (m.low s); high = λ s. high (k.high s) (m.high s) }
  where
    low : of_int v.lo ≤ℚ in_units x → of_int v.lo ≤ℚ in_units y → of_int v.lo ≤ℚ in_units (on_line h x y)
    low f g = le_by (of_int v.lo ∷ x ∷ y ∷ h.at ∷ []) (known 1 2 ⊗ (gap h.high ⊗ gap f ⊕ gap h.low ⊗ gap g)) (search reads depth 90) tt

    high : in_units x ≤ℚ of_int v.hi → in_units y ≤ℚ of_int v.hi → in_units (on_line h x y) ≤ℚ of_int v.hi
    high f g = le_by (of_int v.hi ∷ x ∷ y ∷ h.at ∷ []) (known 1 2 ⊗ (gap h.high ⊗ gap f ⊕ gap h.low ⊗ gap g)) (search reads depth 90) tt
