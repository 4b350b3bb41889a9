use Rattle.fixed_iv.specs.Reach.{given}
use Rattle.fixed_iv.proofs.Held.{constant_held, held_at, within}
use Rattle.sgp4_motion.specs.Numerals.{given_eccentricity}
use Rattle.sgp4_motion.proofs.GivenLemmas.{one_number}
use Rattle.sgp4_motion.proofs.InputLemmas.{eccentricity_inside, eccentricity_is}
use Rattle.sgp4_motion.proofs.inputs.eccentricity.Goals as goal

pub returns : goal.returns
unfolding given
returns g c h =
    let number = one_number _ c.scaled.ensures (eccentricity_inside c.requires.least c.requires.most) tt in
    within given_eccentricity (held_at (eccentricity_is _) (constant_held c.constant.ensures.covers c.constant.ensures.narrow number)) tt
