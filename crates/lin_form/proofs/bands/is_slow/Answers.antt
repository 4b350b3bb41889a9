use Rattle.std.proofs.Common.{arith}
use Rattle.std.proofs.lemmas.Int.{to_z-of_z}
use Rattle.lin_form.proofs.BandLemmas.{slow_held}
use Rattle.lin_form.proofs.bands.is_slow.Goals as goal

pub returns-then-slope : goal.returns-then-slope
returns-then-slope c t h s k = slow_held h s (grind (arith, to_z-of_z, c.if-slope.true)) (grind (arith, to_z-of_z, t)) k
