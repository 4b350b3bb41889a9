-- How wide mean elements and positions are at an instant within seven days of the epoch, for the numerals of every set that
-- is taken. The numerals are not empty: each row says that they hold.
use Rattle.std.proofs.Common.{pos, negsuc, true}
use Rattle.exact.specs.Interval.{between}
use Rattle.fixed_iv.specs.Reach.{Reach, Reaches, from_to, given, greater_of, turned, ◌+ᴿ◌, ◌-ᴿ◌, ◌*ᴿ◌, ◌/ᴿ◌}
use Rattle.fixed_iv.specs.ReachRoots.{rooted}
use Rattle.kepler_enc.specs.Spread.{ball_of, bettered, betters, guesses, left_first, left_last, left_over, moved, next_left, reach_root, rest_of, root_from, root_of, spread_of, stepped_to, steps}
use Rattle.sgp4_shape.specs.Expected.{DragBox}
use Rattle.sgp4_shape.specs.HeldMean.{MeanReach}
use Rattle.sgp4_init.specs.ReachConsts.{reach_consts}
use Rattle.sgp4_drag.specs.Secular.{reach_ecc, reach_mean}
use Rattle.sgp4_periodic.specs.Box.{PositionBox}
use Rattle.sgp4_periodic.specs.Corrected.{reach_corrected}
use Rattle.sgp4_periodic.specs.Ellipse.{EllipseReach, reach_ellipse}
use Rattle.sgp4_periodic.specs.Pairs.{inner_of, outer_of}

-- minutes from the epoch over 16,384, at most 10,080 of them
abbrev week : Reach
week = from_to (negsuc 10079) (pos 10080) 16384 1

-- what is known by other means: the drag term of the mean anomaly times the eccentricity that drag sees; the eccentricity vector,
-- its inner product with the pair of the root, the argument of latitude and its change
abbrev drag_box : DragBox
drag_box = record { known = true; bend = between (negsuc 85) 10000 (pos 86) 10000 }

abbrev position_box : PositionBox
position_box = record {
  known = true;
  vector = 80304810855556;
  inner = between (negsuc 2022) 10000 (pos 2023) 10000;
  latitude = between (negsuc 100) 100 (pos 101) 100;
  change = between (negsuc 2) 1000 (pos 3) 1000;
}

-- the eccentricity before it is raised is inside its guard
eccentricity : Reaches (reach_ecc reach_consts week drag_box) (from_to (negsuc 668) (pos 200669) 1000000 9216)
unfolding turned ◌+ᴿ◌ ◌-ᴿ◌ ◌*ᴿ◌
eccentricity = tt

abbrev taken_mean : MeanReach
taken_mean = record {
  am = from_to (pos 10441) (pos 19266) 10000 29184;
  em = from_to (pos 1) (pos 200669) 1000000 9216;
  ml = from_to (negsuc 726) (pos 727) 1 12300000;
  wm = from_to (negsuc 26) (pos 27) 1 5000000;
  om = from_to (negsuc 7) (pos 8) 1 32768;
}

record IsWithinMean (found wanted : MeanReach) : Type 0 where
  am : Reaches found.am wanted.am
  em : Reaches found.em wanted.em
  ml : Reaches found.ml wanted.ml
  wm : Reaches found.wm wanted.wm
  om : Reaches found.om wanted.om

mean_elements : IsWithinMean (reach_mean reach_consts week drag_box) taken_mean
unfolding greater_of turned ◌+ᴿ◌ ◌-ᴿ◌ ◌*ᴿ◌
mean_elements = record { am = tt; em = tt; ml = tt; wm = tt; om = tt }

abbrev taken_ellipse : EllipseReach
taken_ellipse = record {
  ax = from_to (negsuc 200671) (pos 200672) 1000000 1015808;
  ay = from_to (negsuc 201841) (pos 201842) 1000000 1015808;
  u = from_to (negsuc 754) (pos 755) 1 17500000;
  rest = from_to (pos 918991) (pos 1081009) 1000000 820000;
  pl = from_to (pos 95951) (pos 208268) 100000 1610000;
}

record IsWithinEllipse (found wanted : EllipseReach) : Type 0 where
  ax : Reaches found.ax wanted.ax
  ay : Reaches found.ay wanted.ay
  u : Reaches found.u wanted.u
  rest : Reaches found.rest wanted.rest
  pl : Reaches found.pl wanted.pl

-- the semilatus rectum is above 0, and Kepler's equation has but one root
ellipse : IsWithinEllipse (reach_ellipse reach_consts taken_mean) taken_ellipse
unfolding turned ◌+ᴿ◌ ◌-ᴿ◌ ◌*ᴿ◌ ◌/ᴿ◌
ellipse = record { ax = tt; ay = tt; u = tt; rest = tt; pl = tt }

abbrev taken_root : Reach
taken_root = from_to (negsuc 760) (pos 761) 1 27400000

-- ax and ay are together at most 0.2853 in size
root : Reaches (reach_root taken_ellipse.u taken_ellipse.ax taken_ellipse.ay 80304810855556) taken_root
unfolding ball_of bettered betters guesses left_first left_last left_over moved next_left rest_of root_from root_of spread_of stepped_to steps ◌+ᴿ◌ ◌-ᴿ◌ ◌*ᴿ◌ ◌/ᴿ◌ given turned
root = tt

-- the distance is enclosed to 19,200,000 units of 2^-48
distance : Reaches (reach_corrected reach_consts taken_mean taken_ellipse taken_root position_box).mrt (from_to (pos 830) (pos 2321) 1000 19200000)
unfolding inner_of outer_of rooted turned ◌+ᴿ◌ ◌-ᴿ◌ ◌*ᴿ◌ ◌/ᴿ◌
distance = tt
