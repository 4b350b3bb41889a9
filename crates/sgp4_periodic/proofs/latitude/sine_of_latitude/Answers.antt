use Rattle.fixed_iv.proofs.Promises.{difference, product, quotient}
use Rattle.sgp4_periodic.proofs.latitude.sine_of_latitude.Goals as goal

pub returns : goal.returns
returns g c = record {
  gives = λ divides sine ax ay f near.
      let law = g.met.E.Enc.contained in
      let first = difference law c.minus.ensures sine ay in
      quotient law c.divided.ensures divides (difference law c.minus-2.ensures first (product law c.times.ensures ax f)) near;
}
