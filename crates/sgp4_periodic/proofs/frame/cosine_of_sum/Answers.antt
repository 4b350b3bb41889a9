use Rattle.fixed_iv.proofs.Promises.{difference, product}
use Rattle.sgp4_periodic.proofs.frame.cosine_of_sum.Goals as goal

pub returns : goal.returns
returns g c = record {
  gives = λ su cu sine cosine.
      let law = g.met.E.Enc.contained in
      difference law c.minus.ensures (product law c.times.ensures cu cosine) (product law c.times-2.ensures su sine);
}
