use Rattle.fixed_iv.proofs.Promises.{product, quotient}
use Rattle.sgp4_init.proofs.terms.perigee_drag.Goals as goal

pub returns : goal.returns
returns g c = record {
  gives = λ divides along factor e.
      let law = g.met.E.Enc.contained in
      quotient law c.divided.ensures divides (product law c.times.ensures along factor) e;
}
