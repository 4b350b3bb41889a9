-- How far a sine and a cosine lie from their parabolas.
use Rattle.std.specs.Prelude.{pos}
use Rattle.exact.specs.Rational.{ℚ, abs_ℚ, ◌+ℚ◌, ◌-ℚ◌, ◌*ℚ◌, neg_ℚ, ratio, zero_ℚ, one_ℚ, ◌≤ℚ◌}
use Rattle.sgp4_model.specs.Angle.{IsPi, IsNear, IsSinCos, part}

-- half of the square of a number
abbrev pub half_square : ℚ → ℚ
half_square d = ratio (pos 1) 2 *ℚ (d *ℚ d)

-- where a number v with the slope w comes to after a step d, if its bend is its opposite: v + d w - d^2/2 v
abbrev pub ahead : ℚ → ℚ → ℚ → ℚ
ahead d v w = v +ℚ d *ℚ w -ℚ half_square d *ℚ v

-- what is left of a step of at most b: a sixth of its cube, and 2^-54
abbrev pub left_over : ℚ → ℚ
left_over b = ratio (pos 1) 6 *ℚ (b *ℚ b *ℚ b) +ℚ part 54

-- a number of at most what a step of s may leave
abbrev pub IsLeft : ℚ → ℚ → Type 0
IsLeft s e = IsNear (left_over (abs_ℚ s)) e zero_ℚ

-- The sine t and the cosine a of the angle x + d, where d is at most b in size and b at most 1, from those of x.
abbrev pub PairsFollowTheirBend : Type 0
PairsFollowTheirBend =
    (pi x d b s c t a : ℚ) → IsPi pi → IsNear b d zero_ℚ → b ≤ℚ one_ℚ →
    IsSinCos pi x s c → IsSinCos pi (x +ℚ d) t a →
    IsNear (left_over b) t (ahead d s c) × IsNear (left_over b) a (ahead d c (neg_ℚ s))
