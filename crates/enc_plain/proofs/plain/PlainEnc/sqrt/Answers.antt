use Rattle.enc_plain.proofs.RootLemmas.{sqrt_narrow}
use Rattle.enc_plain.proofs.plain.PlainEnc.sqrt.Goals as goal

pub returns-clause-covers : goal.returns-clause-covers
returns-clause-covers c _ x r root h = c.sqrt.ensures.holds x r h root

pub returns-clause-narrow : goal.returns-clause-narrow
returns-clause-narrow c _ = sqrt_narrow c.sqrt.ensures.near
