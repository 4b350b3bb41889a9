use Rattle.fixed_iv.proofs.HeldLemmas.{holds_sum}
use Rattle.fixed_iv.proofs.NarrowLemmas.{sum_narrow}
use Rattle.enc_plain.proofs.plain.PlainEnc.plus.Goals as goal

pub returns-clause-covers : goal.returns-clause-covers
returns-clause-covers c _ _ _ h k = holds_sum c.add.ensures h k

pub returns-clause-narrow : goal.returns-clause-narrow
returns-clause-narrow c _ = sum_narrow c.add.ensures
