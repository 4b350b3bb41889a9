-- What the rounds of the guess come to, for numerals of u, ax and ay and a bound on the sizes of ax and ay together.
use Rattle.std.specs.Prelude.{ℕ, T}
use Rattle.exact.specs.Rational.{ℚ}
use Rattle.fixed_iv.specs.Reach.{Reach}
use Rattle.fixed_iv.specs.declared.iv.Iv.{Iv}
use Rattle.sgp4_model.specs.Angle.{IsPi, IsSinCos}
use Rattle.kepler_enc.specs.Guess.{AreSized, AreSizedIn, IsGoodGuess, IsNarrowAbout, IsWithin, LeavesAtMost, LiesWithin, newton_angle}
use Rattle.kepler_enc.specs.Point.{at}
use Rattle.kepler_enc.specs.Spread.{betters, guesses, left_last, next_left, spread_of}

module _ (u ax ay : Iv) where
  -- the point leaves as little as three rounds give, wherever numerals say that they do
  abbrev pub GuessesWell : Iv → Type 0
  GuessesWell point =
      (pi : ℚ) (r_u r_ax r_ay : Reach) (sum : ℕ) → IsPi pi →
      LiesWithin r_u u → LiesWithin r_ax ax → LiesWithin r_ay ay → AreSizedIn sum ax ay →
      T (guesses r_u r_ax r_ay sum) → IsGoodGuess (left_last r_u r_ax r_ay sum) pi u ax ay point

  -- of points: the next angle leaves as little as a round gives, if this one leaves at most n units
  abbrev pub BettersAngle : Iv → Iv → Type 0
  BettersAngle angle next =
      (pi : ℚ) (r_u r_ax r_ay : Reach) (sum n : ℕ) → IsPi pi →
      IsWithin r_u u → IsWithin r_ax ax → IsWithin r_ay ay → AreSized sum (at ax.lo) (at ay.lo) →
      T (betters r_u r_ax r_ay sum n) → LeavesAtMost n pi (at u.lo) (at ax.lo) (at ay.lo) (at angle.lo) →
      LeavesAtMost (next_left r_u r_ax r_ay sum n) pi (at u.lo) (at ax.lo) (at ay.lo) (at next.lo)

  -- of points: the result is a narrow interval about where Newton's rule leads with any pair of the angle, if the angle
  -- leaves at most n units
  abbrev pub StepsNarrowly : Iv → Iv → Type 0
  StepsNarrowly angle result =
      (pi s c : ℚ) (r_u r_ax r_ay : Reach) (sum n : ℕ) → IsPi pi →
      IsWithin r_u u → IsWithin r_ax ax → IsWithin r_ay ay → AreSized sum (at ax.lo) (at ay.lo) →
      T (betters r_u r_ax r_ay sum n) → LeavesAtMost n pi (at u.lo) (at ax.lo) (at ay.lo) (at angle.lo) →
      IsSinCos pi (at angle.lo) s c →
      IsNarrowAbout (spread_of r_u r_ax r_ay sum n) result
      (newton_angle (at u.lo) (at ax.lo) (at ay.lo) (at angle.lo) s c)
