use Rattle.fixed_iv.proofs.HeldLemmas.{holds_negative}
use Rattle.fixed_iv.proofs.NarrowLemmas.{negative_narrow}
use Rattle.enc_plain.proofs.plain.PlainEnc.negate.Goals as goal

pub returns-clause-covers : goal.returns-clause-covers
returns-clause-covers c _ _ h = holds_negative c.neg.ensures h

pub returns-clause-narrow : goal.returns-clause-narrow
returns-clause-narrow c _ = negative_narrow c.neg.ensures
