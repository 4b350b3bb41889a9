use Rattle.std.proofs.Common.{pos}
use Rattle.fixed_iv.specs.Reach.{given}
use Rattle.fixed_iv.proofs.Held.{constant_held, within}
use Rattle.fixed_iv.proofs.HeldGiven.{ratio_given}
use Rattle.station_view.specs.PlaceReach.{equator_reach}
use Rattle.station_view.proofs.place.equator_km.Goals as goal

pub returns : goal.returns
unfolding given
returns g c h = within equator_reach (constant_held c.constant.ensures.covers c.constant.ensures.narrow (ratio_given (pos 6378137) 999 1 c.from_ratio.ensures tt tt)) tt
