use Rattle.fixed_iv.specs.Reach.{given}
use Rattle.fixed_iv.proofs.Held.{constant_held, within}
use Rattle.sgp4_motion.proofs.GivenLemmas.{one_number}
use Rattle.sgp4_init.specs.Numerals.{given_drag_over_eccentricity}
use Rattle.sgp4_init.proofs.GivenLemmas.{eccentric_above, ratio_inside}
use Rattle.sgp4_init.proofs.given.drag_over_eccentricity.Goals as goal

pub over-requires : goal.over-requires
over-requires g c = eccentric_above c.requires.eccentric

pub returns : goal.returns
unfolding given
returns g c h =
    let number = one_number _ c.over.ensures (ratio_inside _ c.requires.drag c.requires.eccentric) tt in
    within given_drag_over_eccentricity (constant_held c.constant.ensures.covers c.constant.ensures.narrow number) tt
