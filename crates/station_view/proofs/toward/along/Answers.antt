use Rattle.fixed_iv.proofs.Held.{held_at}
use Rattle.sgp4_periodic.proofs.PairLemmas.{pair_sized}
use Rattle.station_view.proofs.AlongLemmas.{east_is, north_is, up_is}
use Rattle.station_view.proofs.PlaceLemmas.{slim_cosine, slim_sine}
use Rattle.station_view.proofs.toward.along.Goals as goal

pub returns : goal.returns
returns g c h pi x lat lon d n r are toward range =
    let spot = c.args.spot.now in
    let by_lon = c.turned-out.ensures h lon.sine lon.cosine d.x d.y n.x n.y (slim_sine spot.of_lon spot.lon_slim are.is_pi are.is_longitude) (slim_cosine spot.of_lon spot.lon_slim are.is_pi are.is_longitude)
    (pair_sized _ _ _ _ are.is_pi are.is_longitude) toward.x toward.y in
    let by_lat = c.turned-up.ensures h lat.sine lat.cosine _ d.z _ n.z (slim_sine spot.of_lat spot.lat_slim are.is_pi are.is_latitude) (slim_cosine spot.of_lat spot.lat_slim are.is_pi are.is_latitude)
    (pair_sized _ _ _ _ are.is_pi are.is_latitude) by_lon.0 toward.z in
    record { east = held_at (east_is lon d) by_lon.1; north = held_at (north_is lat lon d) by_lat.1; up = held_at (up_is lat lon d) by_lat.0; range = range }
