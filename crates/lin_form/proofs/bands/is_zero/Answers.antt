use Rattle.std.proofs.Common.{arith}
use Rattle.std.proofs.lemmas.Int.{to_z-of_z}
use Rattle.lin_form.proofs.BandLemmas.{zero_held}
use Rattle.lin_form.proofs.bands.is_zero.Goals as goal

pub returns-then-v-eq0 : goal.returns-then-v-eq0
returns-then-v-eq0 c t x k = zero_held (grind (arith, to_z-of_z, c.if-v-eq0.true)) (grind (arith, to_z-of_z, t)) k
