use Rattle.fixed_iv.specs.Reach.{given}
use Rattle.fixed_iv.proofs.Held.{constant_held, held_at, within}
use Rattle.sgp4_motion.proofs.GivenLemmas.{one_number}
use Rattle.sgp4_init.specs.Numerals.{given_drag}
use Rattle.sgp4_init.proofs.GivenLemmas.{drag_inside, once_is}
use Rattle.sgp4_init.proofs.given.drag_term.Goals as goal

pub returns : goal.returns
unfolding given
returns g c h =
    let number = one_number _ c.scaled.ensures (drag_inside _ c.requires) tt in
    within given_drag (held_at (once_is _) (constant_held c.constant.ensures.covers c.constant.ensures.narrow number)) tt
