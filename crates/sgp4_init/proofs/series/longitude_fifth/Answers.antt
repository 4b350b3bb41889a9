use Rattle.fixed_iv.proofs.Promises.{product, sum}
use Rattle.sgp4_init.proofs.series.longitude_fifth.Goals as goal

pub returns : goal.returns
returns g c = record {
  gives = λ d2 d3 d4 c1.
      let law = g.met.E.Enc.contained in
      let square = product law c.times-square.ensures c1 c1 in
      let number_1 = c.number.ensures _ in
      let times_1 = product law c.times.ensures number_1 d4 in
      let number_2 = c.number-2.ensures _ in
      let times_2 = product law c.times-2.ensures c1 d3 in
      let times_3 = product law c.times-3.ensures number_2 times_2 in
      let first = sum law c.plus-first.ensures times_1 times_3 in
      let number_3 = c.number-3.ensures _ in
      let times_4 = product law c.times-4.ensures d2 d2 in
      let second = product law c.times-second.ensures number_3 times_4 in
      let number_4 = c.number-4.ensures _ in
      let times_5 = product law c.times-5.ensures number_4 square in
      let plus_1 = sum law c.plus.ensures d2 d2 in
      let plus_2 = sum law c.plus-2.ensures plus_1 square in
      let third = product law c.times-third.ensures times_5 plus_2 in
      let number_5 = c.number-5.ensures _ in
      let plus_3 = sum law c.plus-3.ensures first second in
      let plus_4 = sum law c.plus-4.ensures plus_3 third in
      product law c.times-6.ensures number_5 plus_4;
}
