use Rattle.fixed_iv.proofs.HeldLemmas.{holds_product}
use Rattle.fixed_iv.proofs.NarrowLemmas.{product_narrow}
use Rattle.enc_plain.proofs.plain.PlainEnc.times.Goals as goal

pub returns-clause-covers : goal.returns-clause-covers
returns-clause-covers c _ _ _ h k = holds_product c.mul.ensures h k

pub returns-clause-narrow : goal.returns-clause-narrow
returns-clause-narrow c _ = product_narrow c.mul.ensures
