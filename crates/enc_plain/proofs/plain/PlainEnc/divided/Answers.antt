use Rattle.fixed_iv.proofs.HeldLemmas.{holds_quotient}
use Rattle.fixed_iv.proofs.QuotientWidthLemmas.{quotient_narrow}
use Rattle.enc_plain.proofs.plain.PlainEnc.divided.Goals as goal

pub returns-clause-covers : goal.returns-clause-covers
returns-clause-covers c _ _ _ h k _ = holds_quotient c.div.ensures h k

pub returns-clause-narrow : goal.returns-clause-narrow
returns-clause-narrow c _ = quotient_narrow c.div.ensures
