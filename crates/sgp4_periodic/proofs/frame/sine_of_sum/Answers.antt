use Rattle.fixed_iv.proofs.Promises.{product, sum}
use Rattle.sgp4_periodic.proofs.frame.sine_of_sum.Goals as goal

pub returns : goal.returns
returns g c = record {
  gives = λ su cu sine cosine.
      let law = g.met.E.Enc.contained in
      sum law c.plus.ensures (product law c.times.ensures su cosine) (product law c.times-2.ensures cu sine);
}
