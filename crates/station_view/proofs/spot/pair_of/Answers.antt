use Rattle.station_view.proofs.DegreeLemmas.{pair_enclosed, pair_slim}
use Rattle.station_view.proofs.spot.pair_of.Goals as goal

pub returns-clause-pair : goal.returns-clause-pair
returns-clause-pair c =
    pair_enclosed c.requires c.half_turns.ensures c.pi.ensures.holds c.pi.ensures.width c.pi.ensures.bounded c.mul.ensures
    c.sincos.ensures.holds c.sincos.ensures.sines_wider c.sincos.ensures.cosines_wider c.sincos.ensures.sines_bounded c.sincos.ensures.cosines_bounded

pub returns-clause-slim : goal.returns-clause-slim
returns-clause-slim c =
    pair_slim c.requires c.half_turns.ensures c.pi.ensures.holds c.pi.ensures.width c.pi.ensures.bounded c.mul.ensures
    c.sincos.ensures.sines_wider c.sincos.ensures.cosines_wider
