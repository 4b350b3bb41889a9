use Rattle.lin_form.proofs.BandLemmas.{tolerance_held}
use Rattle.lin_form.proofs.bands.tolerance.Goals as goal

pub returns : goal.returns
returns c e near = tolerance_held e c.from_ends.ensures.low c.from_ends.ensures.high near
