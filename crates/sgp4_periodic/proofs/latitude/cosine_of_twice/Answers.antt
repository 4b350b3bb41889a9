use Rattle.fixed_iv.proofs.Promises.{difference, product, sum}
use Rattle.sgp4_periodic.proofs.latitude.cosine_of_twice.Goals as goal

pub returns : goal.returns
returns g c = record {
  gives = λ su.
      let law = g.met.E.Enc.contained in
      let square = product law c.times-square.ensures su su in
      difference law c.minus.ensures (c.one.ensures _) (sum law c.plus.ensures square square);
}
