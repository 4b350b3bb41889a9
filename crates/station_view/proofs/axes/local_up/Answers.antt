use Rattle.std.proofs.Common.{◌^◌, pos, negsuc}
use Rattle.fixed_iv.specs.Reach.{from_to, given, ◌*ᴿ◌}
use Rattle.fixed_iv.proofs.Held.{constant_held, times_held, within}
use Rattle.station_view.proofs.PlaceLemmas.{slim_cosine, slim_sine}
use Rattle.station_view.proofs.axes.local_up.Goals as goal

pub returns : goal.returns
unfolding given ◌*ᴿ◌
returns g c h p lat lon are =
    let law = g.met.E.Enc.contained in
    let spot = c.args.spot.now in
    let level = constant_held c.constant-level.ensures.covers c.constant-level.ensures.narrow (slim_cosine spot.of_lat spot.lat_slim are.is_pi are.is_latitude) in
    let cos_lon = constant_held c.constant.ensures.covers c.constant.ensures.narrow (slim_cosine spot.of_lon spot.lon_slim are.is_pi are.is_longitude) in
    let sin_lon = constant_held c.constant-2.ensures.covers c.constant-2.ensures.narrow (slim_sine spot.of_lon spot.lon_slim are.is_pi are.is_longitude) in
    let sin_lat = constant_held c.constant-3.ensures.covers c.constant-3.ensures.narrow (slim_sine spot.of_lat spot.lat_slim are.is_pi are.is_latitude) in
    record {
      x = within (from_to (negsuc 1000) (pos 1001) 1000 (2 ^ 8)) (times_held law c.times.ensures.covers c.times.ensures.narrow level cos_lon) tt;
      y = within (from_to (negsuc 1000) (pos 1001) 1000 (2 ^ 8)) (times_held law c.times-2.ensures.covers c.times-2.ensures.narrow level sin_lon) tt;
      z = within (from_to (negsuc 1000) (pos 1001) 1000 (2 ^ 8)) sin_lat tt;
    }
