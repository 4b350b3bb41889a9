use Rattle.std.proofs.Common.{arith, ◌+◌, ◌*◌}
use Rattle.fixed_iv.proofs.Promises.{product, sum}
use Rattle.earth_frame.proofs.SpreadLemmas.{product_slim, sum_slim}
use Rattle.sun_shade.proofs.ShadowLemmas.{thinner, thousandths}
use Rattle.sun_shade.proofs.shadow.depth.Goals as goal

pub returns-clause-follows : goal.returns-clause-follows
returns-clause-follows g c = record {
  gives = λ x y z a b d.
      let law = g.met.E.Enc.contained in
      let along = sum law c.plus-along.ensures (product law c.times.ensures x a) (product law c.times-2.ensures y b) in
      sum law c.plus.ensures along (product law c.times-3.ensures z d);
}

pub returns-clause-thin : goal.returns-clause-thin
returns-clause-thin g c h r s v z small =
    let law = g.met.E.Enc.contained in
    let told = small.told in
    let v_most = small.narrow_pos in
    let z_most = small.narrow_sun in
    let at = small.position in
    let toward = small.direction in
    let at_x = c.times.ensures.covers h _ _ at.x toward.x in
    let at_y = c.times-2.ensures.covers h _ _ at.y toward.y in
    let at_z = c.times-3.ensures.covers h _ _ at.z toward.z in
    let at_along = c.plus-along.ensures.covers h _ _ at_x at_y in
    let in_x = law c.times.result h _ at_x in
    let in_y = law c.times-2.result h _ at_y in
    let in_z = law c.times-3.result h _ at_z in
    let in_along = law c.plus-along.result h _ at_along in
    let in_all = law c.plus.result h _ (c.plus.ensures.covers h _ _ at_along at_z) in
    let x = product_slim 1137158905911048 (1010 * v + 4000 * z + 2000) 0 6442450944 (c.times.ensures.narrow told) (thousandths small.near.x) (thousandths small.unit.x) (law c.args.pos.now.x h _ at.x) (law c.args.sun.now.x h _ toward.x) in_x (omega arith) (omega arith) (omega arith) (omega arith) (omega arith) (omega (arith, v_most, z_most)) in
    let y = product_slim 1137158905911048 (1010 * v + 4000 * z + 2000) 0 6442450944 (c.times-2.ensures.narrow told) (thousandths small.near.y) (thousandths small.unit.y) (law c.args.pos.now.y h _ at.y) (law c.args.sun.now.y h _ toward.y) in_y (omega arith) (omega arith) (omega arith) (omega arith) (omega arith) (omega (arith, v_most, z_most)) in
    let d = product_slim 1137158905911048 (1010 * v + 4000 * z + 2000) 0 6442450944 (c.times-3.ensures.narrow told) (thousandths small.near.z) (thousandths small.unit.z) (law c.args.pos.now.z h _ at.z) (law c.args.sun.now.z h _ toward.z) in_z (omega arith) (omega arith) (omega arith) (omega arith) (omega arith) (omega (arith, v_most, z_most)) in
    let along = sum_slim 12884901888 (c.plus-along.ensures.narrow told) x y in_x in_y in_along (omega arith) (omega arith) (omega (arith, v_most, z_most)) in
    thinner (omega arith) (sum_slim 19327352832 (c.plus.ensures.narrow told) along d in_along in_z in_all (omega arith) (omega arith) (omega (arith, v_most, z_most)))
