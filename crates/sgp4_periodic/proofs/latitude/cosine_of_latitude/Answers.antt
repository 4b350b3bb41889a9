use Rattle.fixed_iv.proofs.Promises.{difference, product, quotient, sum}
use Rattle.sgp4_periodic.proofs.latitude.cosine_of_latitude.Goals as goal

pub returns : goal.returns
returns g c = record {
  gives = λ divides cosine ax ay f near.
      let law = g.met.E.Enc.contained in
      let first = difference law c.minus.ensures cosine ax in
      quotient law c.divided.ensures divides (sum law c.plus.ensures first (product law c.times.ensures ay f)) near;
}
