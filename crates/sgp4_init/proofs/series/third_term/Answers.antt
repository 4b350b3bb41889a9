use Rattle.fixed_iv.proofs.Promises.{product, sum}
use Rattle.sgp4_init.proofs.series.third_term.Goals as goal

pub returns : goal.returns
returns g c = record {
  gives = λ a w.
      let law = g.met.E.Enc.contained in
      let number_1 = c.number.ensures _ in
      let times_1 = product law c.times.ensures number_1 a in
      let number_2 = c.number-2.ensures _ in
      let plus_1 = sum law c.plus.ensures times_1 number_2 in
      product law c.times-2.ensures plus_1 w;
}
