use Rattle.fixed_iv.proofs.Held.{negate_held, plus_held, times_held}
use Rattle.earth_frame.proofs.rotation.to_earth.Goals as goal

pub returns-clause-held : goal.returns-clause-held
returns-clause-held g c h _ _ _ _ _ s k v =
    let law = g.met.E.Enc.contained in
    let first = times_held law c.times.ensures.covers c.times.ensures.narrow v.x k in
    let second = times_held law c.times-2.ensures.covers c.times-2.ensures.narrow v.y s in
    let opposite = negate_held law c.negate.ensures.covers c.negate.ensures.narrow v.x in
    let third = times_held law c.times-3.ensures.covers c.times-3.ensures.narrow opposite s in
    let fourth = times_held law c.times-4.ensures.covers c.times-4.ensures.narrow v.y k in
    record {
      x = plus_held law c.plus.ensures.covers c.plus.ensures.narrow first second;
      y = plus_held law c.plus-2.ensures.covers c.plus-2.ensures.narrow third fourth;
      z = v.z;
    }
