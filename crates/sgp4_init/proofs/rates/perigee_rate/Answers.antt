use Rattle.fixed_iv.proofs.Promises.{product, sum}
use Rattle.sgp4_init.proofs.rates.perigee_rate.Goals as goal

pub returns : goal.returns
returns g c = record {
  gives = λ w1 w2 w3 con42 second third.
      let law = g.met.E.Enc.contained in
      let number_1 = c.number.ensures _ in
      let times_1 = product law c.times.ensures number_1 w1 in
      let first = product law c.times-first.ensures times_1 con42 in
      let number_2 = c.number-2.ensures _ in
      let times_2 = product law c.times-2.ensures number_2 w2 in
      let times_3 = product law c.times-3.ensures times_2 second in
      let plus_1 = sum law c.plus.ensures first times_3 in
      let times_4 = product law c.times-4.ensures w3 third in
      sum law c.plus-2.ensures plus_1 times_4;
}
