-- Where the sidereal angle stood at a base, from whole numbers.
use Rattle.std.proofs.Common.{◌≡◌, arith, [], ◌∷◌, sym, ap, ◌∙◌, ℤ, pos, ◌+ℤ◌, ◌*ℤ◌, to_z, of_z, subst}
use Rattle.std.proofs.lemmas.Int.{ints}
use Rattle.std.specs.Int.{w128}
use Rattle.exact.specs.Rational.{ℚ, ◌+ℚ◌, ◌*ℚ◌, of_int, ratio}
use Rattle.exact.proofs.RationalRing.{ring, reads}
use Rattle.exact.proofs.Integers.{of_int_add, of_int_mul, of_int_is, ratio_is_product}
use Rattle.fixed_iv.specs.declared.iv.Iv.{Iv}
use Rattle.earth_frame.specs.Offset.{IsNearInstant}
use Rattle.earth_frame.specs.HalfTurns.{HoldsUpToTurns}
use Rattle.earth_frame.specs.SlowTerms.{start_half_turns}

-- the parts of a half turn at the base
pub parts : ℤ → ℤ
parts b = pos 212415936250341600000000000000 +ℤ b *ℤ pos 3164400184812866

pub start_is : (b : ℤ) → ratio (parts b) 136328832000000000000000000000 ≡ start_half_turns b
unfolding parts
start_is b =
    ratio_is_product (parts b) 136328832000000000000000000000
    ∙ ap (λ t. t *ℚ ratio (pos 1) 136328832000000000000000000000) (of_int_add _ _ ∙ ap (λ t. of_int (pos 212415936250341600000000000000) +ℚ t) (of_int_mul b (pos 3164400184812866)))
    ∙ ap (λ t. (t +ℚ of_int b *ℚ of_int (pos 3164400184812866)) *ℚ ratio (pos 1) 136328832000000000000000000000) (of_int_is (pos 212415936250341600000000000000))
    ∙ ap (λ t. (ratio (pos 212415936250341600000000000000) 1 +ℚ of_int b *ℚ t) *ℚ ratio (pos 1) 136328832000000000000000000000) (of_int_is (pos 3164400184812866))
    ∙ ring (of_int b ∷ []) {y = (ratio (pos 6731054841) 100000 +ℚ ratio (pos 3164400184812866) 1000000 *ℚ (of_int b *ℚ ratio (pos 1) 1000000000 *ℚ ratio (pos 1) 3155760000)) *ℚ ratio (pos 1) 43200} (search reads depth 90) tt
    ∙ ap (λ t. (ratio (pos 6731054841) 100000 +ℚ ratio (pos 3164400184812866) 1000000 *ℚ (t *ℚ ratio (pos 1) 3155760000)) *ℚ ratio (pos 1) 43200) (sym (ratio_is_product b 1000000000))

pub up_to_turns : {v : Iv} {x y : ℚ} → x ≡ y → HoldsUpToTurns v x → HoldsUpToTurns v y
up_to_turns {v} e h = subst (HoldsUpToTurns v) e h

-- the code's parts
pub kept_parts : (b : ℤ) → IsNearInstant b →
    to_z w128 (of_z w128 (pos 212415936250341600000000000000 +ℤ to_z w128 (of_z w128 (b *ℤ pos 3164400184812866)))) ≡ parts b
unfolding parts
kept_parts b h = omega (arith, ints, h.low, h.high)
