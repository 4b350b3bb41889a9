use Rattle.std.proofs.Common.{◌∙◌, sym}
use Rattle.fixed_iv.proofs.Held.{held_at, times_held, turn_held}
use Rattle.sgp4_shape.proofs.ExpectedHeld.{expected_held}
use Rattle.sgp4_periodic.proofs.EquationLemmas.{first_is, second_is}
use Rattle.sgp4_periodic.proofs.PairLemmas.{pair_sized}
use Rattle.sgp4_periodic.proofs.position.position.Goals as goal

pub returns : goal.returns
returns g c h pi k m q v r b is_pi at latitude vector in_box =
    let law = g.met.E.Enc.contained in
    let change = turn_held c.sincos-change_sine.ensures.covers c.sincos-change_sine.ensures.narrow is_pi latitude.du_pair at.du in
    let small = expected_held b.known b.change change.0 (λ t. (in_box t).change) in
    let sw = held_at (sym latitude.sw_is) (c.sine_of_sum-sw.ensures.gives at.su at.cu small change.1) in
    let cw = held_at (sym latitude.cw_is) (c.cosine_of_sum-cw.ensures.gives at.su at.cu small change.1) in
    let node = turn_held c.sincos-node_sine.ensures.covers c.sincos-node_sine.ensures.narrow is_pi vector.xnode_pair at.xnode in
    let tilt = turn_held c.sincos-tilt_sine.ensures.covers c.sincos-tilt_sine.ensures.narrow is_pi vector.xinc_pair at.xinc in
    let tilted = times_held law c.times-tilted.ensures.covers c.times-tilted.ensures.narrow tilt.1 sw in
    let sized = pair_sized pi q.xnode _ _ is_pi vector.xnode_pair in
    let x = c.first_coordinate.ensures.gives sized at.mrt node.0 node.1 tilted cw in
    let y = c.second_coordinate.ensures.gives sized at.mrt node.0 node.1 tilted cw in
    let height = times_held law c.times.ensures.covers c.times.ensures.narrow at.mrt tilt.0 in
    let z = times_held law c.times-2.ensures.covers c.times-2.ensures.narrow height sw in
    record {
      x = held_at (first_is _ _ _ _ _ _ ∙ sym vector.x_is) x;
      y = held_at (second_is _ _ _ _ _ _ ∙ sym vector.y_is) y;
      z = held_at (sym vector.z_is) z;
    }
