use Rattle.exact.proofs.Strict.{not_zero}
use Rattle.fixed_iv.specs.Reach.{given, ◌/ᴿ◌}
use Rattle.fixed_iv.proofs.Held.{constant_held, held_at, within}
use Rattle.fixed_iv.proofs.HeldGiven.{pi_held}
use Rattle.fixed_iv.proofs.Promises.{quotient}
use Rattle.sgp4_motion.specs.Numerals.{given_axis}
use Rattle.sgp4_motion.proofs.GivenLemmas.{one_number}
use Rattle.sgp4_motion.proofs.InputLemmas.{above_zero, axis_inside, axis_is, motion_positive, pi_positive}
use Rattle.sgp4_motion.proofs.inputs.axis_power.Goals as goal

pub over-requires-clause-positive : goal.over-requires-clause-positive
over-requires-clause-positive g c = above_zero c.requires.least

pub returns : goal.returns
unfolding given ◌/ᴿ◌
returns g c h pi is_pi =
    let law = g.met.E.Enc.contained in
    let part = constant_held c.constant.ensures.covers c.constant.ensures.narrow (one_number _ c.over.ensures (axis_inside c.requires.least c.requires.most) tt) in
    let half_turn = pi_held c.pi.ensures.covers c.pi.ensures.narrow is_pi in
    let axis = quotient law c.divided.ensures (not_zero (pi_positive is_pi)) part half_turn in
    within given_axis (held_at (axis_is (pi_positive is_pi) (motion_positive c.requires.least)) axis) tt
