-- The eccentricity, raised to its least value.
use Rattle.std.specs.Prelude.{pos}
use Rattle.exact.specs.Rational.{ℚ}
use Rattle.fixed_iv.specs.Common.{IsGreater}
use Rattle.fixed_iv.specs.Follows.{Encloses}
use Rattle.fixed_iv.specs.Place.{Place}
use Rattle.fixed_iv.specs.Reach.{Reach, from_to, greater_of}
use Rattle.fixed_iv.specs.declared.enc.Enc.{Ghosts}
use Rattle.sgp4_model.specs.MeanElements.{least_ecc}

-- numerals of the least eccentricity
abbrev pub least_eccentricity : Reach
least_eccentricity = from_to (pos 1) (pos 1) 1000000 1

-- the result encloses the greater of the eccentricity and the least one
pub record IsRaised {A : Type 0} (E : Ghosts A) (ecc result : A) : Type 0 where
  pub gives : {h : Place} {x z : ℚ} {r : Reach} →
      IsGreater x least_ecc z → Encloses E ecc h x r →
      Encloses E result h z (greater_of r least_eccentricity)
