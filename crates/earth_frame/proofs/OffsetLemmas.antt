-- Instants of UT1, from whole nanoseconds at a base.
use Rattle.std.proofs.Common.{◌≡◌, arith, [], ◌∷◌, sym, ap, ◌∙◌, ℤ, pos, ◌+ℤ◌, ◌*ℤ◌, to_z, of_z}
use Rattle.std.proofs.lemmas.Int.{ints}
use Rattle.std.specs.Int.{w32, w128}
use Rattle.exact.specs.Rational.{ℚ, ◌+ℚ◌, ◌*ℚ◌, of_int, ratio}
use Rattle.exact.proofs.RationalRing.{ring, reads}
use Rattle.exact.proofs.Integers.{of_int_add, of_int_mul, of_int_is, ratio_is_product}
use Rattle.sgp4_model.specs.Sidereal.{in_ut1}
use Rattle.elements.specs.Offset.{IsOffset}
use Rattle.earth_frame.specs.Offset.{IsNearInstant, ut1_nanos}
use Rattle.earth_frame.specs.Over.{instant_after}

-- the offset goes into the base
pub in_ut1-after : (d b : ℤ) (x : ℚ) → in_ut1 d (instant_after b x) ≡ instant_after (ut1_nanos d b) x
in_ut1-after d b x =
    ap (λ t. t +ℚ x *ℚ ratio (pos 983040) 1 +ℚ ratio d 1000) (ratio_is_product b 1000000000)
    ∙ ap (λ t. of_int b *ℚ ratio (pos 1) 1000000000 +ℚ x *ℚ ratio (pos 983040) 1 +ℚ t) (ratio_is_product d 1000)
    ∙ ring (of_int b ∷ of_int d ∷ x ∷ [])
    {y = (of_int b +ℚ of_int d *ℚ ratio (pos 1000000) 1) *ℚ ratio (pos 1) 1000000000 +ℚ x *ℚ ratio (pos 983040) 1} (search reads depth 90) tt
    ∙ ap (λ t. (of_int b +ℚ of_int d *ℚ t) *ℚ ratio (pos 1) 1000000000 +ℚ x *ℚ ratio (pos 983040) 1) (sym (of_int_is (pos 1000000)))
    ∙ ap (λ t. t *ℚ ratio (pos 1) 1000000000 +ℚ x *ℚ ratio (pos 983040) 1) (sym (of_int_add b (d *ℤ pos 1000000) ∙ ap (λ t. of_int b +ℚ t) (of_int_mul d (pos 1000000))))
    ∙ ap (λ t. t +ℚ x *ℚ ratio (pos 983040) 1) (sym (ratio_is_product (b +ℤ d *ℤ pos 1000000) 1000000000))

-- the types of the code keep an offset, and the nanoseconds of UT1
pub kept_offset : (d : ℤ) → IsOffset d → to_z w32 (of_z w32 d) ≡ d
kept_offset d h = omega (arith, ints, h.low, h.high)

pub kept_base : (b : ℤ) → IsNearInstant b → to_z w128 (of_z w128 b) ≡ b
kept_base b h = omega (arith, ints, h.low, h.high)
