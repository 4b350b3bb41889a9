use Rattle.fixed_iv.proofs.NarrowLemmas.{line_narrow}
use Rattle.enc_plain.proofs.TurnLemmas.{line_holds}
use Rattle.enc_plain.proofs.plain.PlainEnc.line.Goals as goal

pub returns-clause-covers : goal.returns-clause-covers
returns-clause-covers c h _ _ p q = line_holds c.hull.ensures h p q

pub returns-clause-narrow : goal.returns-clause-narrow
returns-clause-narrow c _ = line_narrow c.hull.ensures
