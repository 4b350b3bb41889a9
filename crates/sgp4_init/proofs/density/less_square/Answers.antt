use Rattle.fixed_iv.proofs.Promises.{difference, product}
use Rattle.sgp4_init.proofs.density.less_square.Goals as goal

pub returns : goal.returns
returns g c = record {
  gives = λ eta.
      let law = g.met.E.Enc.contained in
      let number_1 = c.number.ensures _ in
      let times_1 = product law c.times.ensures eta eta in
      difference law c.minus.ensures number_1 times_1;
}
