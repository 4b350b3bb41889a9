use Rattle.enc_plain.proofs.TurnLemmas.{pi_narrow}
use Rattle.enc_plain.proofs.plain.PlainEnc.pi.Goals as goal

pub returns-clause-covers : goal.returns-clause-covers
returns-clause-covers c _ p h = c.pi.ensures.holds p h

pub returns-clause-narrow : goal.returns-clause-narrow
returns-clause-narrow c _ = pi_narrow c.pi.ensures.width c.pi.ensures.bounded
