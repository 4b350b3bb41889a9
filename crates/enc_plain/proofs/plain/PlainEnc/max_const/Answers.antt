use Rattle.fixed_iv.proofs.NarrowLemmas.{greater_narrow}
use Rattle.enc_plain.proofs.plain.PlainEnc.max_const.Goals as goal

pub returns-clause-covers : goal.returns-clause-covers
returns-clause-covers c _ x m z h k g = c.max_const.ensures.holds z (record { left = x; right = m; of_left = h; of_right = k; is = g })

pub returns-clause-narrow : goal.returns-clause-narrow
returns-clause-narrow c _ = greater_narrow c.max_const.ensures
