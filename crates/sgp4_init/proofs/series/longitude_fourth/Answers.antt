use Rattle.fixed_iv.proofs.Promises.{product, sum}
use Rattle.sgp4_init.proofs.series.longitude_fourth.Goals as goal

pub returns : goal.returns
returns g c = record {
  gives = λ d2 d3 c1.
      let law = g.met.E.Enc.contained in
      let number_1 = c.number.ensures _ in
      let times_1 = product law c.times.ensures number_1 d2 in
      let number_2 = c.number-2.ensures _ in
      let times_2 = product law c.times-2.ensures c1 c1 in
      let times_3 = product law c.times-3.ensures number_2 times_2 in
      let inner = sum law c.plus-inner.ensures times_1 times_3 in
      let number_3 = c.number-3.ensures _ in
      let number_4 = c.number-4.ensures _ in
      let times_4 = product law c.times-4.ensures number_4 d3 in
      let times_5 = product law c.times-5.ensures c1 inner in
      let plus_1 = sum law c.plus.ensures times_4 times_5 in
      product law c.times-6.ensures number_3 plus_1;
}
