use Rattle.station_view.proofs.DegreeLemmas.{azimuth_within, lat_within}
use Rattle.station_view.proofs.sector.enclose.Goals as goal

pub pair_of-requires : goal.pair_of-requires
pair_of-requires c = azimuth_within c.requires.border

pub pair_of-requires-2 : goal.pair_of-requires-2
pair_of-requires-2 c = azimuth_within c.requires.end

pub pair_of-requires-3 : goal.pair_of-requires-3
pair_of-requires-3 c = lat_within c.requires.floor

pub invariant_of-result : goal.invariant_of-result
invariant_of-result c = record {
  from = c.pair_of.ensures.pair;
  to = c.pair_of-2.ensures.pair;
  floor = record { hold = λ pi pair is_pi is. (c.pair_of-3.ensures.pair.hold pi pair is_pi is).0; narrow = c.pair_of-3.ensures.pair.narrow_sines };
}
