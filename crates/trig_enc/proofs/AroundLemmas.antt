-- What the ends about a value hold.
use Rattle.std.proofs.Common.{arith, ℕ, [], ◌∷◌, ◌^◌, ℤ, pos, negsuc, ◌≤ℤ◌, ◌+ℤ◌, ◌-ℤ◌, ◌*ℤ◌}
use Rattle.std.proofs.lemmas.Int.{ints, by_lt_z}
use Rattle.exact.specs.Rational.{ℚ, of_int, ratio, ◌+ℚ◌, ◌*ℚ◌, one_ℚ, zero_ℚ, ◌≤ℚ◌}
use Rattle.exact.proofs.RationalRing.{reads}
use Rattle.exact.proofs.Order.{gap, known, le_by, le_trans, ◌⊕◌, ◌⊗◌}
use Rattle.exact.proofs.Integers.{of_int_add, of_int_mul, of_int_is, of_int_le}
use Rattle.sgp4_model.specs.Angle.{IsNear, part}
use Rattle.fixed_iv.specs.Ends.{in_units}
use Rattle.fixed_iv.specs.declared.iv.Iv.{Iv}
use Rattle.trig_enc.specs.Coded.{IsWholeUnits}
use Rattle.trig_enc.specs.Enclose.{HoldsNear, IsLowAround, IsHighAround}

-- no sine is below the limit
pub above_limit : (t : ℚ) → IsNear (part 60 +ℚ one_ℚ) t zero_ℚ → of_int (negsuc 281474976710656) ≤ℚ in_units t
above_limit t h = rw (of_int_is (negsuc 281474976710656)) (le_by (t ∷ []) (known (2 ^ 48) 1 ⊗ gap h.below ⊕ known 4095 4096) (search reads depth 90) tt)

pub below_limit : (t : ℚ) → IsNear (part 60 +ℚ one_ℚ) t zero_ℚ → in_units t ≤ℚ of_int (pos 281474976710657)
below_limit t h = rw (of_int_is (pos 281474976710657)) (le_by (t ∷ []) (known (2 ^ 48) 1 ⊗ gap h.above ⊕ known 4095 4096) (search reads depth 90) tt)

-- bounds of whole numbers as bounds of rationals
low_sum : (lo units : ℤ) (radius : ℕ) → lo ≤ℤ (units -ℤ pos radius -ℤ pos 1) → of_int lo +ℚ of_int (pos radius) +ℚ one_ℚ ≤ℚ of_int units
low_sum lo units radius h = rw (← of_int_is (pos 1), ← of_int_add, ← of_int_add) (of_int_le (omega (arith, ints, h)))

high_sum : (hi units : ℤ) (radius : ℕ) → (units +ℤ pos radius +ℤ pos 2) ≤ℤ hi → of_int units +ℚ of_int (pos radius) +ℚ ratio (pos 2) 1 ≤ℚ of_int hi
high_sum hi units radius h = rw (← of_int_is (pos 2), ← of_int_add, ← of_int_add) (of_int_le h)

units_under : (value units : ℤ) → (units *ℤ pos 16384) ≤ℤ value → of_int units *ℚ ratio (pos 16384) 1 ≤ℚ of_int value
units_under value units h = rw (← of_int_is (pos 16384), ← of_int_mul) (of_int_le h)

units_over : (value units : ℤ) → value ≤ℤ (units *ℤ pos 16384 +ℤ pos 16384) → of_int value ≤ℚ of_int units *ℚ ratio (pos 16384) 1 +ℚ ratio (pos 16384) 1
units_over value units h = rw (← of_int_is (pos 16384), ← of_int_mul, ← of_int_add) (of_int_le h)

pub around_holds : (value units : ℤ) (radius : ℕ) (v : Iv) → IsWholeUnits value units → IsLowAround units radius v.lo → IsHighAround units radius v.hi → HoldsNear value radius v
around_holds value units radius v w low high t size near = record {
  low = λ b.
      by_lt_z (negsuc 281474976710656) v.lo
      (λ l.
      le_by (of_int v.lo ∷ of_int units ∷ of_int (pos radius) ∷ of_int value ∷ t ∷ [])
      (gap near.below ⊕ known 1 16384 ⊗ gap (units_under value units w.under) ⊕ gap (low_sum v.lo units radius (low.free l))) (search reads depth 90) tt)
      (λ l. le_trans (of_int_le l) (above_limit t size));
  high = λ b.
      by_lt_z v.hi (pos 281474976710657)
      (λ l.
      le_by (of_int v.hi ∷ of_int units ∷ of_int (pos radius) ∷ of_int value ∷ t ∷ [])
      (gap near.above ⊕ known 1 16384 ⊗ gap (units_over value units w.over) ⊕ gap (high_sum v.hi units radius (high.free l))) (search reads depth 90) tt)
      (λ l. le_trans (below_limit t size) (of_int_le l));
}
