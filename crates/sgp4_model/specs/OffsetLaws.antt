-- A law of the offset of UT1, as a public function promises it.
use Rattle.std.specs.Prelude.{◌↔◌, ℤ, pos}
use Rattle.exact.specs.Rational.{ℚ, ◌+ℚ◌, ratio}
use Rattle.sgp4_model.specs.Angle.{Pair}
use Rattle.sgp4_model.specs.Sidereal.{IsSiderealPair}

-- an offset of d milliseconds shifts the sidereal pairs by d/1000 seconds
abbrev pub OffsetShiftsTheSiderealPair : Type 0
OffsetShiftsTheSiderealPair =
    (pi x : ℚ) (d : ℤ) (turn : Pair) → IsSiderealPair pi x d turn ↔ IsSiderealPair pi (x +ℚ ratio d 1000) (pos 0) turn
