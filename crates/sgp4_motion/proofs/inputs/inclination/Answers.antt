use Rattle.fixed_iv.specs.Reach.{given, ◌*ᴿ◌}
use Rattle.fixed_iv.proofs.Held.{constant_held, held_at, within}
use Rattle.fixed_iv.proofs.HeldGiven.{pi_held}
use Rattle.fixed_iv.proofs.Promises.{product}
use Rattle.sgp4_motion.specs.Numerals.{given_inclination}
use Rattle.sgp4_motion.proofs.GivenLemmas.{one_number}
use Rattle.sgp4_motion.proofs.InputLemmas.{inclination_inside, inclination_is}
use Rattle.sgp4_motion.proofs.inputs.inclination.Goals as goal

pub returns : goal.returns
unfolding given ◌*ᴿ◌
returns g c h pi is_pi =
    let law = g.met.E.Enc.contained in
    let half_turns = constant_held c.constant.ensures.covers c.constant.ensures.narrow (one_number _ c.scaled.ensures (inclination_inside c.requires.least c.requires.most) tt) in
    let half_turn = pi_held c.pi.ensures.covers c.pi.ensures.narrow is_pi in
    let angle = product law c.times.ensures half_turns half_turn in
    within given_inclination (held_at (inclination_is pi _) angle) tt
