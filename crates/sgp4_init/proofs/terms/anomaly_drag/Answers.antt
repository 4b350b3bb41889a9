use Rattle.fixed_iv.proofs.Promises.{product, quotient}
use Rattle.sgp4_init.proofs.terms.anomaly_drag.Goals as goal

pub returns : goal.returns
returns g c = record {
  gives = λ divides share xi factor e.
      let law = g.met.E.Enc.contained in
      let scaled = product law c.times-scaled.ensures (c.number.ensures _) xi in
      let cube = product law c.times-cube.ensures (product law c.times.ensures scaled scaled) scaled in
      let with_factor = product law c.times-3.ensures (product law c.times-2.ensures share cube) factor in
      quotient law c.divided.ensures divides with_factor e;
}
