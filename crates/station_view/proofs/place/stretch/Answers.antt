use Rattle.std.proofs.Common.{pos}
use Rattle.exact.specs.Interval.{between}
use Rattle.fixed_iv.specs.Reach.{given, ◌+ᴿ◌, ◌*ᴿ◌, ◌/ᴿ◌}
use Rattle.fixed_iv.specs.ReachRoots.{rooted}
use Rattle.fixed_iv.proofs.Held.{claim_held, constant_held, plus_held, times_held, within}
use Rattle.fixed_iv.proofs.HeldGiven.{ratio_given}
use Rattle.fixed_iv.proofs.HeldQuotient.{divided_held}
use Rattle.fixed_iv.proofs.HeldRoot.{sqrt_held}
use Rattle.station_view.specs.PlaceReach.{stretch_reach}
use Rattle.station_view.proofs.PlaceLemmas.{slim_cosine, slim_sine, under_root}
use Rattle.station_view.proofs.place.stretch.Goals as goal

pub returns : goal.returns
unfolding given ◌+ᴿ◌ ◌*ᴿ◌ ◌/ᴿ◌ rooted
returns g c h p root lat lon are is_root divides =
    let law = g.met.E.Enc.contained in
    let spot = c.args.spot.now in
    let sine = constant_held c.constant-sine.ensures.covers c.constant-sine.ensures.narrow (slim_sine spot.of_lat spot.lat_slim are.is_pi are.is_latitude) in
    let cosine = constant_held c.constant-cosine.ensures.covers c.constant-cosine.ensures.narrow (slim_cosine spot.of_lat spot.lat_slim are.is_pi are.is_latitude) in
    let cosines = times_held law c.times.ensures.covers c.times.ensures.narrow cosine cosine in
    let sines = times_held law c.times-2.ensures.covers c.times-2.ensures.narrow sine sine in
    let flat = times_held law c.times-3.ensures.covers c.times-3.ensures.narrow (c.axes_squared.ensures h) sines in
    let square = claim_held (between (pos 993) 1000 (pos 1001) 1000) (plus_held law c.plus-square.ensures.covers c.plus-square.ensures.narrow cosines flat) (under_root _ lat are.is_pi are.is_latitude) in
    let one = constant_held c.constant.ensures.covers c.constant.ensures.narrow (ratio_given (pos 1) 0 0 c.from_ratio.ensures tt tt) in
    let rooted = sqrt_held law c.sqrt.ensures.covers c.sqrt.ensures.narrow is_root square in
    within stretch_reach (divided_held law c.divided.ensures.covers c.divided.ensures.narrow divides one rooted) tt
