use Rattle.std.proofs.Common.{arith}
use Rattle.std.proofs.lemmas.Int.{to_z-of_z}
use Rattle.lin_form.proofs.BandLemmas.{positive_held}
use Rattle.lin_form.proofs.bands.is_positive.Goals as goal

pub returns : goal.returns
returns c t x k = positive_held (grind (arith, to_z-of_z, t)) k
