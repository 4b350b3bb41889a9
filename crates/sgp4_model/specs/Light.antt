-- Whether a satellite is sunlit: the shadow is a cylinder of one Earth radius behind the Earth.
use Rattle.std.specs.Prelude.{◌⊎◌}
use Rattle.exact.specs.Rational.{ℚ, ◌-ℚ◌, ◌^ℚ◌, zero_ℚ, one_ℚ, ◌<ℚ◌}
use Rattle.sgp4_model.specs.Angle.{IsNear, part}
use Rattle.sgp4_model.specs.Numerals.{decimal}
use Rattle.sgp4_model.specs.Vector.{Vector, inner_product}

-- the depth p along the Sun's direction, and the height g over the shadow's cylinder
pub record ShadowRecord : Type 0 where
  pub p : ℚ
  pub g : ℚ

-- of a position in Earth radii and the Sun's direction: p = r . sun, g = r . r - p^2 - 1
abbrev pub shadow_of : Vector → Vector → ShadowRecord
shadow_of r sun = record { p = inner_product r sun; g = inner_product r r -ℚ inner_product r sun ^ℚ 2 -ℚ one_ℚ }

-- sunlit: before the Earth's centre, or outside the cylinder
abbrev pub IsSunlit : ShadowRecord → Type 0
IsSunlit v = (zero_ℚ <ℚ v.p) ⊎ (zero_ℚ <ℚ v.g)

-- dark: behind the centre, and inside the cylinder
pub record IsDark (v : ShadowRecord) : Type 0 where
  pub behind : v.p <ℚ zero_ℚ
  pub inside : v.g <ℚ zero_ℚ

-- the height over the cylinder is at most b to either side of 0
abbrev pub GrazesShadowBy : ℚ → ShadowRecord → Type 0
GrazesShadowBy b v = IsNear b v.g zero_ℚ

-- grazes the shadow: behind the centre, and by 0.001 and by 2^-13
pub record GrazesShadow (v : ShadowRecord) : Type 0 where
  pub behind : v.p <ℚ zero_ℚ
  pub given : GrazesShadowBy (decimal 1 3) v
  pub sharp : GrazesShadowBy (part 13) v
