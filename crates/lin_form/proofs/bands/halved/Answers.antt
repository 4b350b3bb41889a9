use Rattle.fixed_iv.proofs.HeldLemmas.{holds_product}
use Rattle.lin_form.proofs.BandLemmas.{half_held}
use Rattle.lin_form.proofs.bands.halved.Goals as goal

pub returns : goal.returns
returns c x k = holds_product c.mul.ensures (half_held c.from_ends.ensures.low c.from_ends.ensures.high) k
