-- The boxes are fit: computed.
use Rattle.std.proofs.Common.{arith, T, ◌≤◌, ℕ, pos, ◌-ℤ◌}
use Rattle.std.proofs.lemmas.Int.{ints}
use lib.Signed.{non_neg}
use Rattle.fixed_iv.specs.Reach.{given, greater_of, outer_size, turned, ◌+ᴿ◌, ◌-ᴿ◌, ◌*ᴿ◌, ◌/ᴿ◌}
use Rattle.fixed_iv.specs.ReachRoots.{root_least, root_range, rooted}
use Rattle.kepler_enc.specs.Spread.{ball_of, bettered, betters, guesses, left_first, left_last, left_over, moved, next_left, rest_of, root_from, root_of, spread_of, stepped_to, steps}
use Rattle.sgp4_init.specs.ReachConsts.{reach_consts}
use Rattle.sgp4_periodic.specs.Pairs.{inner_of, outer_of}
use Rattle.orbit_sight.specs.Box.{IsCertifying, IsClosedMean, IsClosedPosition, IsFit}
use Rattle.orbit_sight.specs.TakenBoxes.{cell_box, instant_box}

of_test : (n m : ℕ) → T (non_neg (pos m -ℤ pos n)) → n ≤ m
of_test n m t = omega (arith, ints, t)

-- ---- an instant
instant_mean : IsClosedMean reach_consts instant_box
unfolding ◌+ᴿ◌ ◌-ᴿ◌ ◌*ᴿ◌ turned greater_of
instant_mean = record { eccentricity = tt; am = tt; em = tt; ml = tt; wm = tt; om = tt }

instant_position : IsClosedPosition reach_consts instant_box
unfolding ball_of bettered betters guesses inner_of left_first left_last left_over moved next_left outer_of rest_of root_from root_of root_least root_range rooted spread_of stepped_to steps ◌+ᴿ◌ ◌-ᴿ◌ ◌*ᴿ◌ ◌/ᴿ◌ given turned
instant_position = record { first = tt; second = tt; rectum = tt; distance = tt; x = tt; y = tt; z = tt }

instant_certifies : IsCertifying instant_box
instant_certifies = record {
  eccentricity_ok = tt;
  eccentricity_low = tt;
  eccentricity_high = tt;
  axis_ok = tt;
  axis_high = tt;
  component_ok = tt;
  component_small = of_test (outer_size instant_box.component) 60000000000000 tt;
  rectum_ok = tt;
  rectum_high = tt;
  distance_ok = tt;
  distance_high = tt;
  coordinate_ok = tt;
}

pub instant_fits : IsFit reach_consts instant_box
instant_fits = record { mean = instant_mean; position = instant_position; certifies = instant_certifies }

-- ---- a least cell
cell_mean : IsClosedMean reach_consts cell_box
unfolding ◌+ᴿ◌ ◌-ᴿ◌ ◌*ᴿ◌ turned greater_of
cell_mean = record { eccentricity = tt; am = tt; em = tt; ml = tt; wm = tt; om = tt }

cell_position : IsClosedPosition reach_consts cell_box
unfolding ball_of bettered betters guesses inner_of left_first left_last left_over moved next_left outer_of rest_of root_from root_of root_least root_range rooted spread_of stepped_to steps ◌+ᴿ◌ ◌-ᴿ◌ ◌*ᴿ◌ ◌/ᴿ◌ given turned
cell_position = record { first = tt; second = tt; rectum = tt; distance = tt; x = tt; y = tt; z = tt }

cell_certifies : IsCertifying cell_box
cell_certifies = record {
  eccentricity_ok = tt;
  eccentricity_low = tt;
  eccentricity_high = tt;
  axis_ok = tt;
  axis_high = tt;
  component_ok = tt;
  component_small = of_test (outer_size cell_box.component) 60000000000000 tt;
  rectum_ok = tt;
  rectum_high = tt;
  distance_ok = tt;
  distance_high = tt;
  coordinate_ok = tt;
}

pub cell_fits : IsFit reach_consts cell_box
cell_fits = record { mean = cell_mean; position = cell_position; certifies = cell_certifies }
