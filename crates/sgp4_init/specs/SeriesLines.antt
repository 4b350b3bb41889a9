-- The lines of the drag terms of higher order, each in any arithmetic (Spacetrack Report No. 3, 1980, SGP4;
-- AIAA 2006-6753, appendix).
use Rattle.std.specs.Prelude.{ℕ, ℤ, pos}
use Rattle.fixed_iv.specs.Arithmetic.{Arithmetic}
use Rattle.sgp4_init.specs.Ratios.{ratio as ratio_in, whole as whole_in}

module _ (N : Arithmetic) where
  open N use {Number, ◌+◌, ◌*◌}

  abbrev ratio : ℤ → ℕ → Number
  ratio = ratio_in N

  abbrev whole : ℕ → Number
  whole = whole_in N

  -- a xi, which is 1 + s xi
  abbrev pub axis_times_xi : (xi : Number) → Number
  axis_times_xi xi = whole 1 + ratio (pos 6456135) 6378135 * xi

  -- D2: 4 a xi C1^2
  abbrev pub second_term : (axi c1 : Number) → Number
  second_term axi c1 = whole 4 * axi * (c1 * c1)

  -- the common factor of D3 and D4: D2 xi C1 / 3
  abbrev pub common_factor : (d2 xi c1 : Number) → Number
  common_factor d2 xi c1 = d2 * xi * (ratio (pos 1) 3 * c1)

  -- D3: (17 a + s) w
  abbrev pub third_term : (a w : Number) → Number
  third_term a w = (whole 17 * a + ratio (pos 6456135) 6378135) * w

  -- D4: 0.5 w a xi (221 a + 31 s) C1
  abbrev pub fourth_term : (w axi a c1 : Number) → Number
  fourth_term w axi a c1 = ratio (pos 1) 2 * w * axi * ((whole 221 * a + ratio (pos 200140185) 6378135) * c1)

  -- t3cof: D2 + 2 C1^2
  abbrev pub longitude_cube : (d2 c1 : Number) → Number
  longitude_cube d2 c1 = d2 + (c1 * c1 + c1 * c1)

  -- t4cof: 0.25 (3 D3 + C1 (12 D2 + 10 C1^2))
  abbrev pub longitude_fourth : (d2 d3 c1 : Number) → Number
  longitude_fourth d2 d3 c1 = ratio (pos 1) 4 * (whole 3 * d3 + c1 * (whole 12 * d2 + whole 10 * (c1 * c1)))

  -- t5cof: 0.2 (3 D4 + 12 C1 D3 + 6 D2^2 + 15 C1^2 (2 D2 + C1^2))
  abbrev pub longitude_fifth : (d2 d3 d4 c1 : Number) → Number
  longitude_fifth d2 d3 d4 c1 =
      ratio (pos 1) 5
      * (whole 3 * d4 + whole 12 * (c1 * d3) + whole 6 * (d2 * d2) + whole 15 * (c1 * c1) * (d2 + d2 + c1 * c1))
