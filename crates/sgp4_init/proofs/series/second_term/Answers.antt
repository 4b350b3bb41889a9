use Rattle.fixed_iv.proofs.Promises.{product}
use Rattle.sgp4_init.proofs.series.second_term.Goals as goal

pub returns : goal.returns
returns g c = record {
  gives = λ axi c1.
      let law = g.met.E.Enc.contained in
      let number_1 = c.number.ensures _ in
      let times_1 = product law c.times.ensures number_1 axi in
      let times_2 = product law c.times-2.ensures c1 c1 in
      product law c.times-3.ensures times_1 times_2;
}
