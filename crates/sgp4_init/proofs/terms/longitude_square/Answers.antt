use Rattle.fixed_iv.proofs.Promises.{product}
use Rattle.sgp4_init.proofs.terms.longitude_square.Goals as goal

pub returns : goal.returns
returns g c = record {
  gives = λ c1.
      let law = g.met.E.Enc.contained in
      let number_1 = c.number.ensures _ in
      product law c.times.ensures number_1 c1;
}
