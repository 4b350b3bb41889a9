-- The period of an orbit over 16,384 minutes.
use Rattle.std.specs.Prelude.{◌≡◌}
use Rattle.exact.specs.Rational.{ℚ, zero_ℚ, ◌/ℚ◌}
use Rattle.fixed_iv.specs.Arithmetic.{exact, numerals}
use Rattle.fixed_iv.specs.Follows.{Encloses}
use Rattle.fixed_iv.specs.Place.{Place}
use Rattle.fixed_iv.specs.Reach.{Reach, pi_reach, ◌/ᴿ◌}
use Rattle.fixed_iv.specs.declared.enc.Enc.{Ghosts}
use Rattle.sgp4_model.specs.Angle.{IsPi}
use Rattle.sgp4_motion.specs.Lines.{period}

-- the result encloses the period of a mean motion, by each pi of the bracket
pub record IsPeriod {A : Type 0} (E : Ghosts A) (n0 result : A) : Type 0 where
  pub gives : {h : Place} {pi x : ℚ} {r : Reach} → IsPi pi → ¬ (x ≡ zero_ℚ) → Encloses E n0 h x r →
      Encloses E result h ((period exact pi x).0 /ℚ (period exact pi x).1) ((period numerals pi_reach r).0 /ᴿ (period numerals pi_reach r).1)
