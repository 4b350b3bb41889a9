-- Enclosures of the sidereal turn over a cell of time.
use Rattle.std.specs.Prelude.{ℤ}
use Rattle.exact.specs.Rational.{ℚ}
use Rattle.fixed_iv.specs.Place.{Place}
use Rattle.fixed_iv.specs.declared.enc.Enc.{Ghosts}
use Rattle.sgp4_model.specs.Angle.{IsPi, Pair}
use Rattle.sgp4_model.specs.Sidereal.{IsSiderealPair}
use Rattle.earth_frame.specs.Over.{instant_after}

-- each pair of the sidereal angle at the instant is covered, where UT1 is so many milliseconds more than UTC
abbrev pub CoversEachSiderealPair : {A : Type 0} → Ghosts A → ℤ → ℤ → A → A → A → Type 0
CoversEachSiderealPair E base dut1 t sin cos =
    (h : Place) (pi x : ℚ) (turn : Pair) → IsPi pi → E.covers t h x → IsSiderealPair pi (instant_after base x) dut1 turn →
    E.covers sin h turn.sine × E.covers cos h turn.cosine
