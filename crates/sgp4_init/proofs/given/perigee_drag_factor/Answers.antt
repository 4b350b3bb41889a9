use Rattle.fixed_iv.specs.Reach.{given}
use Rattle.fixed_iv.proofs.Held.{constant_held, within}
use Rattle.sgp4_motion.proofs.GivenLemmas.{one_number}
use Rattle.sgp4_init.specs.Numerals.{given_perigee_drag}
use Rattle.sgp4_init.proofs.GivenLemmas.{perigee_drag_inside}
use Rattle.sgp4_init.proofs.given.perigee_drag_factor.Goals as goal

pub returns : goal.returns
unfolding given
returns g c h =
    let number = one_number _ c.scaled.ensures (perigee_drag_inside _ c.requires) tt in
    within given_perigee_drag (constant_held c.constant.ensures.covers c.constant.ensures.narrow number) tt
