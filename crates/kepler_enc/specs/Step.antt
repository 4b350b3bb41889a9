-- A step of Newton's rule in enclosures, from a point that is tried.
use Rattle.std.specs.Prelude.{◌≡◌}
use Rattle.exact.specs.Interval.{Inside, Interval}
use Rattle.exact.specs.Rational.{ℚ, zero_ℚ}
use Rattle.fixed_iv.specs.Arithmetic.{exact, numerals}
use Rattle.fixed_iv.specs.Follows.{Encloses}
use Rattle.fixed_iv.specs.Place.{Place}
use Rattle.fixed_iv.specs.Reach.{Reach, given, turned}
use Rattle.fixed_iv.specs.declared.enc.Enc.{Ghosts}
use Rattle.fixed_iv.specs.declared.iv.Iv.{Iv}
use Rattle.sgp4_model.specs.Angle.{IsPi, IsSinCos}
use Rattle.kepler_enc.specs.Lines.{residual, stepped}
use Rattle.kepler_enc.specs.Point.{at}

-- the result encloses where a step leads, with the rest of the way, wherever what is left does rise
pub record IsStepped {A : Type 0} (E : Ghosts A) (angle residual rise rest result : A) : Type 0 where
  pub gives : {h : Place} {x y z u : ℚ} {p q r k : Reach} → ¬ (z ≡ zero_ℚ) →
      Encloses E angle h x p → Encloses E residual h y q → Encloses E rise h z r → Encloses E rest h u k →
      Encloses E result h (stepped exact x y z u) (stepped numerals p q r k)

-- the four results enclose the angle at the point, its sine, its cosine, and what it leaves of the equation, with
-- numerals of a point in any range that holds it
abbrev pub IsTried : {A : Type 0} → Ghosts A → Iv → A → A → A → A × A × A × A → Type 0
IsTried E point u ax ay result =
    (h : Place) (pi s c x_u x_ax x_ay : ℚ) (i : Interval) (r_u r_ax r_ay : Reach) →
    IsPi pi → IsSinCos pi (at point.lo) s c → Inside i (at point.lo) →
    Encloses E u h x_u r_u → Encloses E ax h x_ax r_ax → Encloses E ay h x_ay r_ay →
    Encloses E result.0 h (at point.lo) (given i 0) ×
    Encloses E result.1 h s (turned (given i 0)) ×
    Encloses E result.2 h c (turned (given i 0)) ×
    Encloses E result.3 h (residual exact x_u x_ax x_ay (at point.lo) s c)
    (residual numerals r_u r_ax r_ay (given i 0) (turned (given i 0)) (turned (given i 0)))
