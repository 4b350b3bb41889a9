use Rattle.sgp4_motion.proofs.FateLemmas.{one_form}
use Rattle.sgp4_motion.proofs.FaultLemmas.{le_of_not_lt}
use Rattle.sgp4_init.proofs.InitialLemmas.{covers_of_held, taken_motion}
use Rattle.sgp4_init.proofs.initial.prepare.Goals as goal

pub initial_constants-requires : goal.initial_constants-requires
initial_constants-requires g c = c.in_ok-motion.ensures.ordinary.0.not_dragged

pub returns-clause-held : goal.returns-clause-held
returns-clause-held g c h pi k is_pi consts =
    let v = consts.quantities in
    let i = consts.initialised in
    let told = c.requires.told in
    let motion = c.in_ok-motion.ensures.held h pi v.motion is_pi i.recovered in
    let taken = taken_motion pi _ v.motion is_pi i.recovered.i_is i.recovered.i_pair
    (le_of_not_lt c.in_ok-motion.ensures.ordinary.0.not_inclined) (c.in_ok-motion.ensures.near_earth.perigee pi v.motion is_pi i.recovered)
    (motion.i.known told tt).inside (motion.e.known told tt).inside (motion.a.known told tt).inside in
    rw consts.kept (c.initial_constants.ensures.gives h pi v is_pi i taken (c.in_ok-motion.ensures.form pi v.motion is_pi i.recovered) motion)

pub returns-clause-covers : goal.returns-clause-covers
returns-clause-covers g c pi k is_pi consts = covers_of_held (λ h. returns-clause-held g c h pi k is_pi consts)

pub returns-clause-of_one_form : goal.returns-clause-of_one_form
returns-clause-of_one_form g c = one_form _ c.in_ok-motion.ensures.form
