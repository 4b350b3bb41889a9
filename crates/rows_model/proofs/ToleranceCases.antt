-- Pi, roots and pairs at the ends of their tolerances.
use Rattle.std.proofs.Common.{◌≡◌, [], ◌∷◌, refl, ℤ, pos, negsuc}
use Rattle.exact.specs.Rational.{ℚ, ◌+ℚ◌, ◌-ℚ◌, ◌*ℚ◌, neg_ℚ, at_least_0, ratio, of_int, zero_ℚ, one_ℚ}
use Rattle.exact.proofs.RationalRing.{ring, reads}
use Rattle.sgp4_model.specs.Angle.{IsNear, IsReduced, IsSinCos, Pair, least_pi, part, quadrant, reduced, turned}
use Rattle.sgp4_model.specs.AngleSums.{cosine_sum}
use Rattle.sgp4_model.proofs.Horner.{sine_zero}
use Rattle.rows_model.specs.Tolerances.{CubeRootRows, ModestRows, PairRows, PiRows, SquareRootRows}

pub pi_rows : PiRows
unfolding ratio ◌+ℚ◌ neg_ℚ at_least_0
pi_rows = record {
  low = record { low = record { le = tt }; high = record { le = tt } };
  high = record { low = record { le = tt }; high = record { le = tt } };
  below = λ h. absurd h.low.le;
  above = λ h. absurd h.high.le;
}

pub square_root_rows : SquareRootRows
unfolding ratio ◌+ℚ◌ ◌*ℚ◌ neg_ℚ at_least_0
square_root_rows = record {
  of_four = record { argument = record { le = tt }; root = record { le = tt }; square = record { above = record { le = tt }; below = record { le = tt } } };
  other_sign = λ h. absurd h.root.le;
  at_the_tolerance = record { argument = record { le = tt }; root = record { le = tt }; square = record { above = record { le = tt }; below = record { le = tt } } };
  past_the_tolerance = λ h. absurd h.square.above.le;
  of_a_negative = λ h. absurd h.argument.le;
}

pub cube_root_rows : CubeRootRows
unfolding ratio ◌+ℚ◌ ◌*ℚ◌ neg_ℚ at_least_0
cube_root_rows = record {
  of_eight = record { argument = record { lt = tt }; root = record { lt = tt }; cube = record { above = record { le = tt }; below = record { le = tt } } };
  of_the_number = λ h. absurd h.cube.below.le;
  at_the_tolerance = record { argument = record { lt = tt }; root = record { lt = tt }; cube = record { above = record { le = tt }; below = record { le = tt } } };
  past_the_tolerance = λ h. absurd h.cube.above.le;
  of_zero = λ h. absurd h.argument.lt;
  zero = λ h. absurd h.root.lt;
}

-- the sums at 0
cosine_zero : cosine_sum zero_ℚ ≡ one_ℚ
unfolding cosine_sum
cosine_zero = ring [] (search reads depth 90) tt

-- the angle 0, and pairs within the tolerance of its sums
in_range : IsReduced least_pi zero_ℚ
unfolding ratio ◌+ℚ◌ ◌*ℚ◌ neg_ℚ at_least_0
in_range = record { low = record { le = tt }; high = record { le = tt } }

zero_near : IsNear (part 60) zero_ℚ zero_ℚ
unfolding ratio ◌+ℚ◌ neg_ℚ at_least_0
zero_near = record { above = record { le = tt }; below = record { le = tt } }

one_near : IsNear (part 60) one_ℚ one_ℚ
unfolding ratio ◌+ℚ◌ neg_ℚ at_least_0
one_near = record { above = record { le = tt }; below = record { le = tt } }

part_near : IsNear (part 60) (part 60) zero_ℚ
unfolding ratio ◌+ℚ◌ neg_ℚ at_least_0
part_near = record { above = record { le = tt }; below = record { le = tt } }

less_near : IsNear (part 60) (one_ℚ -ℚ part 60) one_ℚ
unfolding ratio ◌+ℚ◌ neg_ℚ at_least_0
less_near = record { above = record { le = tt }; below = record { le = tt } }

-- a pair near that of 0, turned, is a pair where nothing but quarter turns is left of the angle
from_quarters : (x : ℚ) (k : ℤ) (p : Pair) (s c : ℚ) → reduced least_pi x k ≡ zero_ℚ → IsNear (part 60) p.sine zero_ℚ → IsNear (part 60) p.cosine one_ℚ →
    s ≡ (turned (quadrant k) p).sine → c ≡ (turned (quadrant k) p).cosine → IsSinCos least_pi x s c
from_quarters x k p s c e near_sine near_cosine f g = record {
  quarters = k;
  inner = p;
  in_range = rw e in_range;
  sine_near = rw (e, sine_zero) near_sine;
  cosine_near = rw (e, cosine_zero) near_cosine;
  sine_is = f;
  cosine_is = g;
}

abbrev level : Pair
level = record { sine = zero_ℚ; cosine = one_ℚ }

-- the opposite of 0
no_sign : zero_ℚ ≡ neg_ℚ zero_ℚ
no_sign = ring [] (search reads depth 20) tt

pub pair_rows : PairRows
unfolding quadrant turned ratio ◌+ℚ◌ neg_ℚ ◌*ℚ◌ of_int
pair_rows = record {
  none = from_quarters zero_ℚ (pos 0) level zero_ℚ one_ℚ (ring (least_pi ∷ []) (search reads depth 90) tt) zero_near one_near refl refl;
  quarter = from_quarters (ratio (pos 1) 2 *ℚ least_pi) (pos 1) level one_ℚ zero_ℚ (ring (least_pi ∷ []) (search reads depth 90) tt) zero_near one_near refl no_sign;
  half = from_quarters least_pi (pos 2) level zero_ℚ (neg_ℚ one_ℚ) (ring (least_pi ∷ []) (search reads depth 90) tt) zero_near one_near no_sign refl;
  quarter_back = from_quarters (neg_ℚ (ratio (pos 1) 2 *ℚ least_pi)) (negsuc 0) level (neg_ℚ one_ℚ) zero_ℚ (ring (least_pi ∷ []) (search reads depth 90) tt) zero_near one_near refl refl;
  at_the_tolerance = from_quarters zero_ℚ (pos 0) (record { sine = part 60; cosine = one_ℚ -ℚ part 60 }) (part 60) (one_ℚ -ℚ part 60) (ring (least_pi ∷ []) (search reads depth 90) tt) part_near less_near refl refl;
}

pub modest_rows : ModestRows
unfolding ratio ◌+ℚ◌ neg_ℚ at_least_0
modest_rows = record {
  least = record { low = record { le = tt }; high = record { le = tt } };
  most = record { low = record { le = tt }; high = record { le = tt } };
}
