-- Enclosures of angles that grow steadily over a cell of time.
use Rattle.exact.specs.Rational.{ℚ, ◌+ℚ◌, ◌*ℚ◌}
use Rattle.fixed_iv.specs.Holds.{Holds}
use Rattle.fixed_iv.specs.Place.{Place}
use Rattle.fixed_iv.specs.declared.enc.Enc.{Ghosts}
use Rattle.fixed_iv.specs.declared.iv.Iv.{Iv}
use Rattle.sgp4_model.specs.Angle.{IsPi}
use Rattle.earth_frame.specs.Angles.{IsSlimBy}
use Rattle.earth_frame.specs.Covered.{CoversAngle}
use Rattle.earth_frame.specs.HalfTurns.{HoldsUpToTurns, IsWithinTurn}
use Rattle.earth_frame.specs.Slim.{IsSlim}

-- the angle that stands at a half turns and grows by r half turns in a unit of time is covered, less some whole turns
abbrev pub CoversSteadyAngle : {A : Type 0} → Ghosts A → Iv → Iv → A → A → Type 0
CoversSteadyAngle E start rate t result =
    (h : Place) (pi x a r : ℚ) → IsPi pi → E.covers t h x → HoldsUpToTurns start a → Holds rate r →
    CoversAngle E.covers result h pi (pi *ℚ (a +ℚ r *ℚ x))

-- it is narrow where its start and its rate are
abbrev pub IsNarrowSteadyAngle : {A : Type 0} → Ghosts A → Iv → Iv → A → A → Type 0
IsNarrowSteadyAngle E start rate t result =
    (a r : ℚ) → HoldsUpToTurns start a → Holds rate r → IsWithinTurn start → IsSlim (E.extent t).spread 17536637089814 2000 0 rate →
    IsSlimBy E 2044328789998351 20630 196 t result
