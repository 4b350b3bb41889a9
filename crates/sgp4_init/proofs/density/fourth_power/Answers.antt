use Rattle.fixed_iv.proofs.Promises.{product}
use Rattle.sgp4_init.proofs.density.fourth_power.Goals as goal

pub returns : goal.returns
returns g c = record {
  gives = λ x.
      let law = g.met.E.Enc.contained in
      let number_1 = c.number.ensures _ in
      let scaled = product law c.times-scaled.ensures number_1 x in
      let square = product law c.times-square.ensures scaled scaled in
      product law c.times.ensures square square;
}
