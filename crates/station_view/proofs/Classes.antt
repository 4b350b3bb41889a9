-- Each class of ranges, from 0.0183 to 10 Earth radii.
use Rattle.std.proofs.Common.{refl}
use Rattle.fixed_iv.specs.Reach.{Reaches, negative, ◌+ᴿ◌, ◌-ᴿ◌, ◌*ᴿ◌}
use Rattle.fixed_iv.specs.ReachRoots.{root_least, root_range, rooted}
use Rattle.sgp4_periodic.specs.Pairs.{inner_of, outer_of}
use Rattle.station_view.specs.SightReach.{toward_reach}
use Rattle.station_view.proofs.ClassReach.{IsClass, axial, level, position_reach, turn_number}

pub level_x : Reaches (toward_reach turn_number turn_number position_reach).x level
unfolding negative ◌+ᴿ◌ ◌-ᴿ◌ ◌*ᴿ◌
level_x = tt

pub level_y : Reaches (toward_reach turn_number turn_number position_reach).y level
unfolding negative ◌+ᴿ◌ ◌-ᴿ◌ ◌*ᴿ◌
level_y = tt

pub axial_z : Reaches (toward_reach turn_number turn_number position_reach).z axial
unfolding negative ◌+ᴿ◌ ◌-ᴿ◌ ◌*ᴿ◌
axial_z = tt

pub from_183 : IsClass 183 258
unfolding inner_of outer_of root_least root_range rooted ◌+ᴿ◌ ◌-ᴿ◌ ◌*ᴿ◌
from_183 = record { length = tt; floor = tt; past = tt; short = tt; up = refl; past_least = refl; short_least = refl }

pub from_258 : IsClass 258 364
unfolding inner_of outer_of root_least root_range rooted ◌+ᴿ◌ ◌-ᴿ◌ ◌*ᴿ◌
from_258 = record { length = tt; floor = tt; past = tt; short = tt; up = refl; past_least = refl; short_least = refl }

pub from_364 : IsClass 364 514
unfolding inner_of outer_of root_least root_range rooted ◌+ᴿ◌ ◌-ᴿ◌ ◌*ᴿ◌
from_364 = record { length = tt; floor = tt; past = tt; short = tt; up = refl; past_least = refl; short_least = refl }

pub from_514 : IsClass 514 726
unfolding inner_of outer_of root_least root_range rooted ◌+ᴿ◌ ◌-ᴿ◌ ◌*ᴿ◌
from_514 = record { length = tt; floor = tt; past = tt; short = tt; up = refl; past_least = refl; short_least = refl }

pub from_726 : IsClass 726 1026
unfolding inner_of outer_of root_least root_range rooted ◌+ᴿ◌ ◌-ᴿ◌ ◌*ᴿ◌
from_726 = record { length = tt; floor = tt; past = tt; short = tt; up = refl; past_least = refl; short_least = refl }

pub from_1026 : IsClass 1026 1450
unfolding inner_of outer_of root_least root_range rooted ◌+ᴿ◌ ◌-ᴿ◌ ◌*ᴿ◌
from_1026 = record { length = tt; floor = tt; past = tt; short = tt; up = refl; past_least = refl; short_least = refl }

pub from_1450 : IsClass 1450 2050
unfolding inner_of outer_of root_least root_range rooted ◌+ᴿ◌ ◌-ᴿ◌ ◌*ᴿ◌
from_1450 = record { length = tt; floor = tt; past = tt; short = tt; up = refl; past_least = refl; short_least = refl }

pub from_2050 : IsClass 2050 2899
unfolding inner_of outer_of root_least root_range rooted ◌+ᴿ◌ ◌-ᴿ◌ ◌*ᴿ◌
from_2050 = record { length = tt; floor = tt; past = tt; short = tt; up = refl; past_least = refl; short_least = refl }

pub from_2899 : IsClass 2899 4099
unfolding inner_of outer_of root_least root_range rooted ◌+ᴿ◌ ◌-ᴿ◌ ◌*ᴿ◌
from_2899 = record { length = tt; floor = tt; past = tt; short = tt; up = refl; past_least = refl; short_least = refl }

pub from_4099 : IsClass 4099 5796
unfolding inner_of outer_of root_least root_range rooted ◌+ᴿ◌ ◌-ᴿ◌ ◌*ᴿ◌
from_4099 = record { length = tt; floor = tt; past = tt; short = tt; up = refl; past_least = refl; short_least = refl }

pub from_5796 : IsClass 5796 8196
unfolding inner_of outer_of root_least root_range rooted ◌+ᴿ◌ ◌-ᴿ◌ ◌*ᴿ◌
from_5796 = record { length = tt; floor = tt; past = tt; short = tt; up = refl; past_least = refl; short_least = refl }

pub from_8196 : IsClass 8196 11590
unfolding inner_of outer_of root_least root_range rooted ◌+ᴿ◌ ◌-ᴿ◌ ◌*ᴿ◌
from_8196 = record { length = tt; floor = tt; past = tt; short = tt; up = refl; past_least = refl; short_least = refl }

pub from_11590 : IsClass 11590 16390
unfolding inner_of outer_of root_least root_range rooted ◌+ᴿ◌ ◌-ᴿ◌ ◌*ᴿ◌
from_11590 = record { length = tt; floor = tt; past = tt; short = tt; up = refl; past_least = refl; short_least = refl }

pub from_16390 : IsClass 16390 23178
unfolding inner_of outer_of root_least root_range rooted ◌+ᴿ◌ ◌-ᴿ◌ ◌*ᴿ◌
from_16390 = record { length = tt; floor = tt; past = tt; short = tt; up = refl; past_least = refl; short_least = refl }

pub from_23178 : IsClass 23178 32778
unfolding inner_of outer_of root_least root_range rooted ◌+ᴿ◌ ◌-ᴿ◌ ◌*ᴿ◌
from_23178 = record { length = tt; floor = tt; past = tt; short = tt; up = refl; past_least = refl; short_least = refl }

pub from_32778 : IsClass 32778 46354
unfolding inner_of outer_of root_least root_range rooted ◌+ᴿ◌ ◌-ᴿ◌ ◌*ᴿ◌
from_32778 = record { length = tt; floor = tt; past = tt; short = tt; up = refl; past_least = refl; short_least = refl }

pub from_46354 : IsClass 46354 65553
unfolding inner_of outer_of root_least root_range rooted ◌+ᴿ◌ ◌-ᴿ◌ ◌*ᴿ◌
from_46354 = record { length = tt; floor = tt; past = tt; short = tt; up = refl; past_least = refl; short_least = refl }

pub from_65553 : IsClass 65553 92705
unfolding inner_of outer_of root_least root_range rooted ◌+ᴿ◌ ◌-ᴿ◌ ◌*ᴿ◌
from_65553 = record { length = tt; floor = tt; past = tt; short = tt; up = refl; past_least = refl; short_least = refl }

pub from_92705 : IsClass 92705 100000
unfolding inner_of outer_of root_least root_range rooted ◌+ᴿ◌ ◌-ᴿ◌ ◌*ᴿ◌
from_92705 = record { length = tt; floor = tt; past = tt; short = tt; up = refl; past_least = refl; short_least = refl }
