use Rattle.fixed_iv.proofs.Promises.{product, quotient}
use Rattle.sgp4_init.proofs.rates.inverse_square.Goals as goal

pub returns : goal.returns
returns g c = record {
  gives = λ divides p.
      let law = g.met.E.Enc.contained in
      quotient law c.divided.ensures divides (c.number.ensures _) (product law c.times.ensures p p);
}
