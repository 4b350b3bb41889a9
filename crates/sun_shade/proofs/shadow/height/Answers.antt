use Rattle.std.proofs.Common.{arith, refl, pos, ◌+◌, ◌*◌}
use Rattle.exact.specs.Rational.{ratio}
use Rattle.fixed_iv.proofs.Promises.{difference, number, product, sum}
use Rattle.earth_frame.proofs.SlimLemmas.{slim_number}
use Rattle.earth_frame.proofs.SpreadLemmas.{constant_slim, difference_slim, product_slim, sum_slim}
use Rattle.sun_shade.proofs.ShadowLemmas.{in_units_within, one_is_little, thousandths}
use Rattle.sun_shade.proofs.shadow.height.Goals as goal

pub returns-clause-follows : goal.returns-clause-follows
returns-clause-follows g c = record {
  gives = λ x y z p.
      let law = g.met.E.Enc.contained in
      let level = sum law c.plus-level.ensures (product law c.times.ensures x x) (product law c.times-2.ensures y y) in
      let square = sum law c.plus-square.ensures level (product law c.times-3.ensures z z) in
      let one = number (pos 1) 0 0 c.constant-one.ensures c.from_ratio.ensures tt tt tt in
      difference law c.minus-2.ensures (difference law c.minus.ensures square (product law c.times-4.ensures p p)) one;
}

pub returns-clause-thin : goal.returns-clause-thin
returns-clause-thin g c h r x v z told at at_p near v_most z_most thin =
    let law = g.met.E.Enc.contained in
    let at_x = c.times.ensures.covers h _ _ at.x at.x in
    let at_y = c.times-2.ensures.covers h _ _ at.y at.y in
    let at_z = c.times-3.ensures.covers h _ _ at.z at.z in
    let at_level = c.plus-level.ensures.covers h _ _ at_x at_y in
    let at_square = c.plus-square.ensures.covers h _ _ at_level at_z in
    let at_pp = c.times-4.ensures.covers h _ _ at_p at_p in
    let at_rest = c.minus.ensures.covers h _ _ at_square at_pp in
    let hold_1 = c.from_ratio.ensures.holds (ratio (pos 1) 1) refl in
    let at_1 = c.constant-one.ensures.covers h _ hold_1 in
    let in_x = law c.times.result h _ at_x in
    let in_y = law c.times-2.result h _ at_y in
    let in_z = law c.times-3.result h _ at_z in
    let in_level = law c.plus-level.result h _ at_level in
    let in_square = law c.plus-square.result h _ at_square in
    let in_p = law c.args.p h _ at_p in
    let in_pp = law c.times-4.result h _ at_pp in
    let in_rest = law c.minus.result h _ at_rest in
    let in_1 = law c.constant-one.result h _ at_1 in
    let in_all = law c.minus-2.result h _ (c.minus-2.ensures.covers h _ _ at_rest at_1) in
    let pos_x = law c.args.pos.now.x h _ at.x in
    let pos_y = law c.args.pos.now.y h _ at.y in
    let pos_z = law c.args.pos.now.z h _ at.z in
    let xx = product_slim 4503599627370496 (8000 * v + 2000) 0 9663676416 (c.times.ensures.narrow told) (thousandths near.x) (thousandths near.x) pos_x pos_x in_x (omega arith) (omega arith) (omega arith) (omega arith) (omega arith) (omega (arith, v_most, z_most)) in
    let yy = product_slim 4503599627370496 (8000 * v + 2000) 0 9663676416 (c.times-2.ensures.narrow told) (thousandths near.y) (thousandths near.y) pos_y pos_y in_y (omega arith) (omega arith) (omega arith) (omega arith) (omega arith) (omega (arith, v_most, z_most)) in
    let zz = product_slim 4503599627370496 (8000 * v + 2000) 0 9663676416 (c.times-3.ensures.narrow told) (thousandths near.z) (thousandths near.z) pos_z pos_z in_z (omega arith) (omega arith) (omega arith) (omega arith) (omega arith) (omega (arith, v_most, z_most)) in
    let level = sum_slim 19327352832 (c.plus-level.ensures.narrow told) xx yy in_x in_y in_level (omega arith) (omega arith) (omega (arith, v_most)) in
    let square = sum_slim 28991029248 (c.plus-square.ensures.narrow told) level zz in_level in_z in_square (omega arith) (omega arith) (omega (arith, v_most)) in
    let pp = product_slim 41348347148449869 (73449 * v + 290885 * z + 147443) 0 391200653853 (c.times-4.ensures.narrow told) thin thin in_p in_p in_pp (omega arith) (omega arith) (omega arith) (omega arith) (omega arith) (omega (arith, v_most, z_most)) in
    let rest = difference_slim 416970457635 (c.minus.ensures.narrow told) square pp in_square in_pp in_rest (omega arith) (omega arith) (omega (arith, v_most, z_most)) in
    let one = constant_slim 2 (c.constant-one.ensures.narrow told) (slim_number (ratio (pos 1) 1) c.from_ratio.ensures (omega arith) one_is_little) (omega arith) hold_1 in_1 (omega arith) (omega arith) in
    in_units_within _ (omega arith) (difference_slim 416970457637 (c.minus-2.ensures.narrow told) rest one in_rest in_1 in_all (omega arith) (omega arith) (omega (arith, v_most, z_most)))
