-- Enclosures of the inner and the outer product of the eccentricity vector with a pair.
use Rattle.std.specs.Prelude.{Bool, ℕ, T}
use Rattle.exact.specs.Rational.{ℚ}
use Rattle.fixed_iv.specs.Arithmetic.{exact}
use Rattle.fixed_iv.specs.Follows.{Encloses}
use Rattle.fixed_iv.specs.Place.{Place}
use Rattle.fixed_iv.specs.Reach.{Reach}
use Rattle.fixed_iv.specs.declared.enc.Enc.{Ghosts}
use Rattle.kepler_enc.specs.Guess.{AreSized}
use Rattle.sgp4_periodic.specs.Lines.{cosine_part, sine_part}
use Rattle.sgp4_periodic.specs.Pairs.{inner_of, outer_of}

module _ {A : Type 0} (E : Ghosts A) (ax ay sine cosine result : A) where
  -- the result encloses the inner product, as narrow as the sizes of ax and ay together make it, if those are known
  pub record IsCosinePart : Type 0 where
    pub gives : {h : Place} {x y s c : ℚ} {p q r k : Reach} (known : Bool) (sum : ℕ) → (T known → AreSized sum x y) →
        Encloses E ax h x p → Encloses E ay h y q → Encloses E sine h s r → Encloses E cosine h c k →
        Encloses E result h (cosine_part exact x y s c) (inner_of known sum p q k r)

  -- the result encloses the outer product, in the same way
  pub record IsSinePart : Type 0 where
    pub gives : {h : Place} {x y s c : ℚ} {p q r k : Reach} (known : Bool) (sum : ℕ) → (T known → AreSized sum x y) →
        Encloses E ax h x p → Encloses E ay h y q → Encloses E sine h s r → Encloses E cosine h c k →
        Encloses E result h (sine_part exact x y s c) (outer_of known sum p q r k)
