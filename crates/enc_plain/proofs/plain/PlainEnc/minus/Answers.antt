use Rattle.fixed_iv.proofs.HeldLemmas.{holds_difference}
use Rattle.fixed_iv.proofs.NarrowLemmas.{difference_narrow}
use Rattle.enc_plain.proofs.plain.PlainEnc.minus.Goals as goal

pub returns-clause-covers : goal.returns-clause-covers
returns-clause-covers c _ _ _ h k = holds_difference c.sub.ensures h k

pub returns-clause-narrow : goal.returns-clause-narrow
returns-clause-narrow c _ = difference_narrow c.sub.ensures
