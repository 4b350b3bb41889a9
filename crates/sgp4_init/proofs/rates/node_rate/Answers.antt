use Rattle.fixed_iv.proofs.Promises.{difference, product, sum}
use Rattle.sgp4_init.proofs.rates.node_rate.Goals as goal

pub returns : goal.returns
returns g c = record {
  gives = λ w1 w2 w3 of_c c2.
      let law = g.met.E.Enc.contained in
      let number_1 = c.number.ensures _ in
      let times_1 = product law c.times.ensures number_1 w2 in
      let number_2 = c.number-2.ensures _ in
      let number_3 = c.number-3.ensures _ in
      let times_2 = product law c.times-2.ensures number_3 c2 in
      let minus_1 = difference law c.minus.ensures number_2 times_2 in
      let second = product law c.times-second.ensures times_1 minus_1 in
      let plus_1 = sum law c.plus.ensures w3 w3 in
      let number_4 = c.number-4.ensures _ in
      let number_5 = c.number-5.ensures _ in
      let times_3 = product law c.times-3.ensures number_5 c2 in
      let minus_2 = difference law c.minus-2.ensures number_4 times_3 in
      let third = product law c.times-third.ensures plus_1 minus_2 in
      let plus_2 = sum law c.plus-2.ensures second third in
      let times_4 = product law c.times-4.ensures plus_2 of_c in
      let times_5 = product law c.times-5.ensures w1 of_c in
      difference law c.minus-3.ensures times_4 times_5;
}
