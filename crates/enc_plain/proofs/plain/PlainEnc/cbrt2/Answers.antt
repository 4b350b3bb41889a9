use Rattle.enc_plain.proofs.CubeLemmas.{cbrt2_narrow}
use Rattle.enc_plain.proofs.plain.PlainEnc.cbrt2.Goals as goal

pub returns-clause-covers : goal.returns-clause-covers
returns-clause-covers c _ x r root h = c.cbrt2.ensures.holds x r h root

pub returns-clause-narrow : goal.returns-clause-narrow
returns-clause-narrow c _ = cbrt2_narrow c.cbrt2.ensures.near
