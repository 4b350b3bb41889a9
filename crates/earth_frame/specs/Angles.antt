-- Enclosures of angles over a cell of time. The time is counted from a base in units of 16,384 minutes, and the base in
-- nanoseconds from 2000-01-01T12:00:00.
use Rattle.std.specs.Prelude.{ℕ, ℤ, T, ◌+◌, ◌*◌}
use Rattle.exact.specs.Rational.{ℚ}
use Rattle.fixed_iv.specs.Place.{Place}
use Rattle.fixed_iv.specs.declared.enc.Enc.{Ghosts}
use Rattle.sgp4_model.specs.Angle.{IsPi}
use Rattle.earth_frame.specs.Covered.{CoversAngle}
use Rattle.earth_frame.specs.Over.{instant_after}
use Rattle.earth_frame.specs.Slim.{IsSlimAt}
use Rattle.earth_frame.specs.Spread.{IsSpreadWithin, IsWithinOne}

-- the angle that goes with pi and the instant is covered, less some whole turns
abbrev pub CoversAngleAfter : {A : Type 0} → Ghosts A → ℤ → A → A → (ℚ → ℚ → ℚ) → Type 0
CoversAngleAfter E base t result angle =
    (h : Place) (pi x : ℚ) → IsPi pi → E.covers t h x → CoversAngle E.covers result h pi (angle pi (instant_after base x))

-- a fact, where the time is covered, and its spread told, and its bounds lie between -1 and 1
abbrev pub WhereWithinOne : {A : Type 0} → Ghosts A → A → Type 0 → Type 0
WhereWithinOne E t fact = (h : Place) (x : ℚ) → E.covers t h x → T E.tells → IsWithinOne (E.extent t) → fact

-- where the time has a spread of w units there, the result has one of at most factor * w + fixed
abbrev pub IsSpreadBy : {A : Type 0} → Ghosts A → ℕ → ℕ → A → A → Type 0
IsSpreadBy E factor fixed t result =
    WhereWithinOne E t (IsSpreadWithin (factor * (E.extent t).spread + fixed) (E.extent result))

-- the same in thousandths, with the greatest size in units
abbrev pub IsSlimBy : {A : Type 0} → Ghosts A → ℕ → ℕ → ℕ → A → A → Type 0
IsSlimBy E most k d t result = WhereWithinOne E t (IsSlimAt (E.extent t).spread most k d (E.extent result))
