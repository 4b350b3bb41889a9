use Rattle.fixed_iv.proofs.Promises.{product}
use Rattle.sgp4_init.proofs.terms.along_perigee.Goals as goal

pub returns : goal.returns
returns g c = record {
  gives = λ coef xi n0 si.
      let law = g.met.E.Enc.contained in
      product law c.times-3.ensures (product law c.times.ensures coef xi) (product law c.times-2.ensures n0 si);
}
