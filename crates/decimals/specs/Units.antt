-- Decimals on the scale of their finest place.
use Rattle.std.specs.Prelude.{◌-◌, ◌^◌, ℤ, pos, ◌*ℤ◌}
use Rattle.decimals.specs.Decimal.{DecimalRecord}

-- how many times 10^-18 the number is
unfoldable pub units : DecimalRecord → ℤ
units d = d.digits *ℤ pos (10 ^ (18 - d.places))
