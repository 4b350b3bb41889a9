use Rattle.station_view.proofs.DegreeLemmas.{lat_within, lon_within}
use Rattle.station_view.proofs.spot.Spot.fix.Goals as goal

pub pair_of-requires : goal.pair_of-requires
pair_of-requires c = lat_within c.requires.lat_range

pub pair_of-requires-2 : goal.pair_of-requires-2
pair_of-requires-2 c = lon_within c.requires.lon_range
