use Rattle.fixed_iv.proofs.Promises.{product, sum}
use Rattle.sgp4_init.proofs.series.fourth_term.Goals as goal

pub returns : goal.returns
returns g c = record {
  gives = λ w axi a c1.
      let law = g.met.E.Enc.contained in
      let number_1 = c.number.ensures _ in
      let times_1 = product law c.times.ensures number_1 a in
      let number_2 = c.number-2.ensures _ in
      let total = sum law c.plus-sum.ensures times_1 number_2 in
      let number_3 = c.number-3.ensures _ in
      let times_2 = product law c.times-2.ensures number_3 w in
      let times_3 = product law c.times-3.ensures times_2 axi in
      let times_4 = product law c.times-4.ensures total c1 in
      product law c.times-5.ensures times_3 times_4;
}
