use Rattle.fixed_iv.proofs.Held.{plus_held, times_held}
use Rattle.station_view.proofs.axes.inner_product.Goals as goal

pub returns : goal.returns
returns g c h u v p q a b =
    let law = g.met.E.Enc.contained in
    let x = times_held law c.times.ensures.covers c.times.ensures.narrow a.x b.x in
    let y = times_held law c.times-2.ensures.covers c.times-2.ensures.narrow a.y b.y in
    let z = times_held law c.times-3.ensures.covers c.times-3.ensures.narrow a.z b.z in
    plus_held law c.plus-2.ensures.covers c.plus-2.ensures.narrow (plus_held law c.plus.ensures.covers c.plus.ensures.narrow x y) z
