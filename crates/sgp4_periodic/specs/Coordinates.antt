-- Enclosures of the coordinates along the first two axes.
use Rattle.std.specs.Prelude.{true}
use Rattle.exact.specs.Rational.{ℚ}
use Rattle.fixed_iv.specs.Arithmetic.{exact}
use Rattle.fixed_iv.specs.Follows.{Encloses}
use Rattle.fixed_iv.specs.Place.{Place}
use Rattle.fixed_iv.specs.Reach.{Reach, ◌*ᴿ◌}
use Rattle.fixed_iv.specs.declared.enc.Enc.{Ghosts}
use Rattle.kepler_enc.specs.Guess.{AreSized}
use Rattle.sgp4_periodic.specs.Lines.{first_coordinate, second_coordinate}
use Rattle.sgp4_periodic.specs.Pairs.{inner_of, most_pair, outer_of}

module _ {A : Type 0} (E : Ghosts A) (mrt sine cosine tilted cw result : A) where
  -- the result encloses the coordinate along the first axis, as narrow as the sizes of a pair allow
  pub record IsFirstCoordinate : Type 0 where
    pub gives : {h : Place} {x s c t w : ℚ} {p q r k l : Reach} → AreSized most_pair c s →
        Encloses E mrt h x p → Encloses E sine h s q → Encloses E cosine h c r → Encloses E tilted h t k →
        Encloses E cw h w l →
        Encloses E result h (first_coordinate exact x s c t w) (p *ᴿ outer_of true most_pair r q l k)

  -- the result encloses the one along the second axis, in the same way
  pub record IsSecondCoordinate : Type 0 where
    pub gives : {h : Place} {x s c t w : ℚ} {p q r k l : Reach} → AreSized most_pair c s →
        Encloses E mrt h x p → Encloses E sine h s q → Encloses E cosine h c r → Encloses E tilted h t k →
        Encloses E cw h w l →
        Encloses E result h (second_coordinate exact x s c t w) (p *ᴿ inner_of true most_pair r q k l)
