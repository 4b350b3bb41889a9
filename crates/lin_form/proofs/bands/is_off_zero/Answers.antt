use Rattle.std.proofs.Common.{arith, subst}
use Rattle.std.proofs.lemmas.Int.{to_z-of_z}
use Rattle.fixed_iv.specs.Holds.{Holds}
use Rattle.fixed_iv.proofs.QuotientResultLemmas.{zero_not_above, zero_not_below}
use Rattle.lin_form.proofs.bands.is_off_zero.Goals as goal

pub returns-then-v-gt0 : goal.returns-then-v-gt0
returns-then-v-gt0 c t x k e = zero_not_above (c.is_bounded.ensures.0 c.if-is_bounded.true) (grind (arith, to_z-of_z, t)) (subst (Holds c.args.v) e k)

pub returns-else-v-gt0 : goal.returns-else-v-gt0
returns-else-v-gt0 c t x k e = zero_not_below (c.is_bounded.ensures.0 c.if-is_bounded.true) (grind (arith, to_z-of_z, t)) (subst (Holds c.args.v) e k)
