use Rattle.fixed_iv.proofs.Promises.{product, sum}
use Rattle.sgp4_periodic.proofs.short_period.inclination.Goals as goal

pub returns : goal.returns
returns g c = record {
  gives = λ i k ci si c2.
      let law = g.met.E.Enc.contained in
      let tilt = product law c.times-2.ensures (product law c.times.ensures k ci) si in
      sum law c.plus.ensures i (product law c.times-3.ensures tilt c2);
}
