use Rattle.fixed_iv.proofs.Promises.{product}
use Rattle.sgp4_drag.proofs.factors.semimajor_axis.Goals as goal

pub returns : goal.returns
returns g c = record {
  gives = λ a tempa.
      let law = g.met.E.Enc.contained in
      product law c.times-2.ensures a (product law c.times.ensures tempa tempa);
}
