use Rattle.fixed_iv.specs.Reach.{given, ◌*ᴿ◌}
use Rattle.fixed_iv.proofs.Held.{constant_held, held_at, within}
use Rattle.fixed_iv.proofs.HeldGiven.{pi_held}
use Rattle.fixed_iv.proofs.Promises.{product}
use Rattle.sgp4_motion.proofs.GivenLemmas.{one_number}
use Rattle.sgp4_init.specs.Numerals.{given_angle}
use Rattle.sgp4_init.proofs.GivenLemmas.{angle_is, half_turns_inside}
use Rattle.sgp4_init.proofs.given.radians.Goals as goal

pub returns : goal.returns
unfolding given ◌*ᴿ◌
returns g c h pi is_pi =
    let law = g.met.E.Enc.contained in
    let half_turns = constant_held c.constant.ensures.covers c.constant.ensures.narrow (one_number _ c.scaled.ensures (half_turns_inside c.requires) tt) in
    let half_turn = pi_held c.pi.ensures.covers c.pi.ensures.narrow is_pi in
    let angle = product law c.times.ensures half_turns half_turn in
    within given_angle (held_at (angle_is pi _) angle) tt
