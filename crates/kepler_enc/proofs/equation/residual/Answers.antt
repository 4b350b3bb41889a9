use Rattle.fixed_iv.proofs.Promises.{difference, product, sum}
use Rattle.kepler_enc.proofs.equation.residual.Goals as goal

pub returns : goal.returns
returns g c = record {
  gives = λ u ax ay angle sine cosine.
      let law = g.met.E.Enc.contained in
      let with_cosine = sum law c.plus.ensures angle (product law c.times.ensures ay cosine) in
      let with_both = difference law c.minus.ensures with_cosine (product law c.times-2.ensures ax sine) in
      difference law c.minus-2.ensures with_both u;
}
