use Rattle.station_view.proofs.DegreeLemmas.{degree_ratio, positive_scale, tightest_of_degrees}
use Rattle.station_view.proofs.spot.half_turns.Goals as goal

pub from_ratio-requires : goal.from_ratio-requires
from_ratio-requires c =
    let scale = rw (c.from.ensures, c.places.ensures.value) at c.pow-scale.ensures in
    let is = degree_ratio c.args.degrees c.from-2.result c.from-3.result c.pow-scale.result c.digits.ensures.decimal (rw c.digits.ensures.value at c.from-2.ensures) c.from-3.ensures scale in
    rw is.divisor (positive_scale c.args.degrees)

pub returns : goal.returns
returns c =
    let scale = rw (c.from.ensures, c.places.ensures.value) at c.pow-scale.ensures in
    let is = degree_ratio c.args.degrees c.from-2.result c.from-3.result c.pow-scale.result c.digits.ensures.decimal (rw c.digits.ensures.value at c.from-2.ensures) c.from-3.ensures scale in
    tightest_of_degrees c.args.degrees is.digits is.divisor c.from_ratio.ensures
