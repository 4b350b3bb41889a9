-- The height over the shadow as it is computed, and the spreads of depth and height.
use Rattle.std.proofs.Common.{◌≡◌, arith, ℕ, ◌*◌, ◌^◌, ◌≤◌, [], ◌∷◌, pos}
use Rattle.exact.specs.Rational.{ℚ, ◌-ℚ◌, ◌*ℚ◌, ◌^ℚ◌, neg_ℚ, of_int, one_ℚ, ratio}
use Rattle.exact.proofs.RationalRing.{ring, reads}
use Rattle.exact.proofs.Intervals.{le_on}
use Rattle.fixed_iv.specs.Extent.{Extent}
use Rattle.earth_frame.specs.Spread.{IsSpreadWithin}
use Rattle.earth_frame.proofs.SlimLemmas.{IsLittle}
use Rattle.sun_shade.specs.Shading.{IsSmallAt, IsThinAt}

-- the square of the depth, written out
pub squared : (l p : ℚ) → l -ℚ p *ℚ p -ℚ ratio (pos 1) 1 ≡ l -ℚ p ^ℚ 2 -ℚ one_ℚ
squared l p = ring (l ∷ p ∷ []) (search reads depth 60) tt

-- the radius of the cylinder
pub one_is_little : IsLittle 281474976710656 (ratio (pos 1) 1)
unfolding neg_ℚ of_int
one_is_little = record { low = le_on (10 ^ 30) [] [] tt (search reads depth 90) tt; high = le_on (10 ^ 30) [] [] tt (search reads depth 90) tt }

-- a small enclosure, with its spread in thousandths
pub thousandths : {most w : ℕ} {e : Extent} → IsSmallAt most w e → IsThinAt most (1000 * w) e
thousandths {most} {w} {e} h = record { measured = h.measured; size = h.within; spread = omega (arith, h.narrow) }

-- a spread in units
pub in_units_within : {s k : ℕ} (limit : ℕ) {e : Extent} → k ≤ limit * 1000 → IsThinAt s k e → IsSpreadWithin limit e
in_units_within {s} {k} limit {e} room h = record { measured = h.measured; spread = omega (arith, room, h.spread) }

-- less by a sum of thousandths
pub thinner : {s k l : ℕ} {e : Extent} → k ≤ l → IsThinAt s k e → IsThinAt s l e
thinner {s} {k} {l} {e} room h = record { measured = h.measured; size = h.size; spread = omega (arith, room, h.spread) }
