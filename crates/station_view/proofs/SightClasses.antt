-- Each class of ranges for directions: by 0.002 from 0.0183 Earth radii, and by 0.001 from 0.0325.
use Rattle.std.proofs.Common.{refl}
use Rattle.fixed_iv.specs.Reach.{◌+ᴿ◌, ◌-ᴿ◌, ◌*ᴿ◌, ◌/ᴿ◌}
use Rattle.fixed_iv.specs.ReachRoots.{root_least, root_range, rooted}
use Rattle.sgp4_periodic.specs.Pairs.{inner_of, outer_of}
use Rattle.station_view.proofs.ClassReach.{IsSightClass}

pub near_183 : IsSightClass 562949953421 183 214
unfolding inner_of outer_of root_least root_range rooted ◌+ᴿ◌ ◌-ᴿ◌ ◌*ᴿ◌ ◌/ᴿ◌
near_183 = record { length = tt; past = tt; short = tt; up = refl; past_least = refl; short_least = refl }

pub near_214 : IsSightClass 562949953421 214 282
unfolding inner_of outer_of root_least root_range rooted ◌+ᴿ◌ ◌-ᴿ◌ ◌*ᴿ◌ ◌/ᴿ◌
near_214 = record { length = tt; past = tt; short = tt; up = refl; past_least = refl; short_least = refl }

pub near_282 : IsSightClass 562949953421 282 451
unfolding inner_of outer_of root_least root_range rooted ◌+ᴿ◌ ◌-ᴿ◌ ◌*ᴿ◌ ◌/ᴿ◌
near_282 = record { length = tt; past = tt; short = tt; up = refl; past_least = refl; short_least = refl }

pub near_451 : IsSightClass 562949953421 451 902
unfolding inner_of outer_of root_least root_range rooted ◌+ᴿ◌ ◌-ᴿ◌ ◌*ᴿ◌ ◌/ᴿ◌
near_451 = record { length = tt; past = tt; short = tt; up = refl; past_least = refl; short_least = refl }

pub near_902 : IsSightClass 562949953421 902 1804
unfolding inner_of outer_of root_least root_range rooted ◌+ᴿ◌ ◌-ᴿ◌ ◌*ᴿ◌ ◌/ᴿ◌
near_902 = record { length = tt; past = tt; short = tt; up = refl; past_least = refl; short_least = refl }

pub near_1804 : IsSightClass 562949953421 1804 3608
unfolding inner_of outer_of root_least root_range rooted ◌+ᴿ◌ ◌-ᴿ◌ ◌*ᴿ◌ ◌/ᴿ◌
near_1804 = record { length = tt; past = tt; short = tt; up = refl; past_least = refl; short_least = refl }

pub near_3608 : IsSightClass 562949953421 3608 7216
unfolding inner_of outer_of root_least root_range rooted ◌+ᴿ◌ ◌-ᴿ◌ ◌*ᴿ◌ ◌/ᴿ◌
near_3608 = record { length = tt; past = tt; short = tt; up = refl; past_least = refl; short_least = refl }

pub near_7216 : IsSightClass 562949953421 7216 14432
unfolding inner_of outer_of root_least root_range rooted ◌+ᴿ◌ ◌-ᴿ◌ ◌*ᴿ◌ ◌/ᴿ◌
near_7216 = record { length = tt; past = tt; short = tt; up = refl; past_least = refl; short_least = refl }

pub near_14432 : IsSightClass 562949953421 14432 28864
unfolding inner_of outer_of root_least root_range rooted ◌+ᴿ◌ ◌-ᴿ◌ ◌*ᴿ◌ ◌/ᴿ◌
near_14432 = record { length = tt; past = tt; short = tt; up = refl; past_least = refl; short_least = refl }

pub near_28864 : IsSightClass 562949953421 28864 57728
unfolding inner_of outer_of root_least root_range rooted ◌+ᴿ◌ ◌-ᴿ◌ ◌*ᴿ◌ ◌/ᴿ◌
near_28864 = record { length = tt; past = tt; short = tt; up = refl; past_least = refl; short_least = refl }

pub near_57728 : IsSightClass 562949953421 57728 100000
unfolding inner_of outer_of root_least root_range rooted ◌+ᴿ◌ ◌-ᴿ◌ ◌*ᴿ◌ ◌/ᴿ◌
near_57728 = record { length = tt; past = tt; short = tt; up = refl; past_least = refl; short_least = refl }

pub far_325 : IsSightClass 281474976710 325 346
unfolding inner_of outer_of root_least root_range rooted ◌+ᴿ◌ ◌-ᴿ◌ ◌*ᴿ◌ ◌/ᴿ◌
far_325 = record { length = tt; past = tt; short = tt; up = refl; past_least = refl; short_least = refl }

pub far_346 : IsSightClass 281474976710 346 388
unfolding inner_of outer_of root_least root_range rooted ◌+ᴿ◌ ◌-ᴿ◌ ◌*ᴿ◌ ◌/ᴿ◌
far_346 = record { length = tt; past = tt; short = tt; up = refl; past_least = refl; short_least = refl }

pub far_388 : IsSightClass 281474976710 388 477
unfolding inner_of outer_of root_least root_range rooted ◌+ᴿ◌ ◌-ᴿ◌ ◌*ᴿ◌ ◌/ᴿ◌
far_388 = record { length = tt; past = tt; short = tt; up = refl; past_least = refl; short_least = refl }

pub far_477 : IsSightClass 281474976710 477 681
unfolding inner_of outer_of root_least root_range rooted ◌+ᴿ◌ ◌-ᴿ◌ ◌*ᴿ◌ ◌/ᴿ◌
far_477 = record { length = tt; past = tt; short = tt; up = refl; past_least = refl; short_least = refl }

pub far_681 : IsSightClass 281474976710 681 1229
unfolding inner_of outer_of root_least root_range rooted ◌+ᴿ◌ ◌-ᴿ◌ ◌*ᴿ◌ ◌/ᴿ◌
far_681 = record { length = tt; past = tt; short = tt; up = refl; past_least = refl; short_least = refl }

pub far_1229 : IsSightClass 281474976710 1229 2458
unfolding inner_of outer_of root_least root_range rooted ◌+ᴿ◌ ◌-ᴿ◌ ◌*ᴿ◌ ◌/ᴿ◌
far_1229 = record { length = tt; past = tt; short = tt; up = refl; past_least = refl; short_least = refl }

pub far_2458 : IsSightClass 281474976710 2458 4916
unfolding inner_of outer_of root_least root_range rooted ◌+ᴿ◌ ◌-ᴿ◌ ◌*ᴿ◌ ◌/ᴿ◌
far_2458 = record { length = tt; past = tt; short = tt; up = refl; past_least = refl; short_least = refl }

pub far_4916 : IsSightClass 281474976710 4916 9832
unfolding inner_of outer_of root_least root_range rooted ◌+ᴿ◌ ◌-ᴿ◌ ◌*ᴿ◌ ◌/ᴿ◌
far_4916 = record { length = tt; past = tt; short = tt; up = refl; past_least = refl; short_least = refl }

pub far_9832 : IsSightClass 281474976710 9832 19664
unfolding inner_of outer_of root_least root_range rooted ◌+ᴿ◌ ◌-ᴿ◌ ◌*ᴿ◌ ◌/ᴿ◌
far_9832 = record { length = tt; past = tt; short = tt; up = refl; past_least = refl; short_least = refl }

pub far_19664 : IsSightClass 281474976710 19664 39328
unfolding inner_of outer_of root_least root_range rooted ◌+ᴿ◌ ◌-ᴿ◌ ◌*ᴿ◌ ◌/ᴿ◌
far_19664 = record { length = tt; past = tt; short = tt; up = refl; past_least = refl; short_least = refl }

pub far_39328 : IsSightClass 281474976710 39328 78656
unfolding inner_of outer_of root_least root_range rooted ◌+ᴿ◌ ◌-ᴿ◌ ◌*ᴿ◌ ◌/ᴿ◌
far_39328 = record { length = tt; past = tt; short = tt; up = refl; past_least = refl; short_least = refl }

pub far_78656 : IsSightClass 281474976710 78656 100000
unfolding inner_of outer_of root_least root_range rooted ◌+ᴿ◌ ◌-ᴿ◌ ◌*ᴿ◌ ◌/ᴿ◌
far_78656 = record { length = tt; past = tt; short = tt; up = refl; past_least = refl; short_least = refl }
