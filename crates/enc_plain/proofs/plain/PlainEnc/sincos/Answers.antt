use Rattle.enc_plain.proofs.TurnLemmas.{turn_narrow}
use Rattle.enc_plain.proofs.plain.PlainEnc.sincos.Goals as goal

pub returns-clause-covers : goal.returns-clause-covers
returns-clause-covers c _ p x s k pi pair h = c.sincos.ensures.holds p x s k pi h pair

pub returns-clause-narrow : goal.returns-clause-narrow
returns-clause-narrow c _ = (turn_narrow c.sincos.ensures.sines_wider c.sincos.ensures.sines_bounded, turn_narrow c.sincos.ensures.cosines_wider c.sincos.ensures.cosines_bounded)
