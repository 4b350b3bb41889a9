use Rattle.station_view.proofs.HeightLemmas.{km_ratio, positive_km_scale, tightest_of_km}
use Rattle.station_view.proofs.place.in_km.Goals as goal

pub from_ratio-requires : goal.from_ratio-requires
from_ratio-requires c =
    let scale = rw (c.from.ensures, c.places.ensures.value) at c.pow-scale.ensures in
    let is = km_ratio c.args.height c.from-2.result c.from-3.result c.pow-scale.result c.digits.ensures.decimal (rw c.digits.ensures.value at c.from-2.ensures) c.from-3.ensures scale in
    rw is.divisor (positive_km_scale c.args.height)

pub returns : goal.returns
returns c =
    let scale = rw (c.from.ensures, c.places.ensures.value) at c.pow-scale.ensures in
    let is = km_ratio c.args.height c.from-2.result c.from-3.result c.pow-scale.result c.digits.ensures.decimal (rw c.digits.ensures.value at c.from-2.ensures) c.from-3.ensures scale in
    tightest_of_km c.args.height is.digits is.divisor c.from_ratio.ensures
