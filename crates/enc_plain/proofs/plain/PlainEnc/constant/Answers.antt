use Rattle.fixed_iv.proofs.NarrowLemmas.{constant_narrow}
use Rattle.enc_plain.proofs.plain.PlainEnc.constant.Goals as goal

pub returns-clause-covers : goal.returns-clause-covers
returns-clause-covers c _ _ h = h

pub returns-clause-narrow : goal.returns-clause-narrow
returns-clause-narrow c _ = constant_narrow c.args.value
