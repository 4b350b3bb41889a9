-- What is said of an enclosure of the roots of Kepler's equation.
use Rattle.std.specs.Prelude.{ℕ, ◌≤◌, T}
use Rattle.exact.specs.Rational.{ℚ}
use Rattle.fixed_iv.specs.Follows.{Encloses}
use Rattle.fixed_iv.specs.Place.{Place}
use Rattle.fixed_iv.specs.Reach.{Reach}
use Rattle.fixed_iv.specs.declared.enc.Enc.{Ghosts}
use Rattle.fixed_iv.specs.declared.iv.Iv.{Iv}
use Rattle.sgp4_model.specs.Angle.{IsPi}
use Rattle.sgp4_model.specs.Kepler.{IsKepler}
use Rattle.kepler_enc.specs.Guess.{AreSized, LeavesAtMost}
use Rattle.kepler_enc.specs.Point.{at}
use Rattle.kepler_enc.specs.Spread.{reach_root, root_from}

module _ {A : Type 0} (E : Ghosts A) (u ax ay : A) where
  -- it covers, at every place, each angle that solves the equation for covered arguments and some pi of the bracket
  abbrev pub CoversRoots : A → Type 0
  CoversRoots root =
      (h : Place) (pi x_u x_ax x_ay angle : ℚ) → IsPi pi →
      E.covers u h x_u → E.covers ax h x_ax → E.covers ay h x_ay →
      IsKepler pi x_u x_ax x_ay angle → E.covers root h angle

  -- numerals for it follow from those of the arguments and from how large the exact ax and ay are together
  abbrev pub HoldsRoots : A → Type 0
  HoldsRoots root =
      (h : Place) (pi x_u x_ax x_ay angle : ℚ) (r_u r_ax r_ay : Reach) (sum : ℕ) → IsPi pi →
      Encloses E u h x_u r_u → Encloses E ax h x_ax r_ax → Encloses E ay h x_ay r_ay →
      AreSized sum x_ax x_ay → IsKepler pi x_u x_ax x_ay angle →
      Encloses E root h angle (reach_root r_u r_ax r_ay sum)

  -- it covers the roots whatever the point; and numerals for it follow where the point leaves at most n units of the
  -- equation, and the sizes of ax and ay add up to `sum` units, at most `most`
  abbrev pub HoldsRootsNear : Iv → ℕ → A → Type 0
  HoldsRootsNear point sum root =
      (h : Place) (pi x_u x_ax x_ay angle : ℚ) (r_u r_ax r_ay : Reach) (most n : ℕ) → IsPi pi →
      Encloses E u h x_u r_u → Encloses E ax h x_ax r_ax → Encloses E ay h x_ay r_ay →
      IsKepler pi x_u x_ax x_ay angle →
      (T E.tells → T (root_from r_u r_ax r_ay most n).ok →
      LeavesAtMost n pi x_u x_ax x_ay (at point.lo) × (sum ≤ most)) →
      Encloses E root h angle (root_from r_u r_ax r_ay most n)
