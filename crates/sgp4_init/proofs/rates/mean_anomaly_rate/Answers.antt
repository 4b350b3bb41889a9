use Rattle.fixed_iv.proofs.Promises.{product, sum}
use Rattle.sgp4_init.proofs.rates.mean_anomaly_rate.Goals as goal

pub returns : goal.returns
returns g c = record {
  gives = λ n0 w1 w2 b0 con41 shape.
      let law = g.met.E.Enc.contained in
      let number_1 = c.number.ensures _ in
      let times_1 = product law c.times.ensures number_1 w1 in
      let times_2 = product law c.times-2.ensures times_1 b0 in
      let first = product law c.times-first.ensures times_2 con41 in
      let number_2 = c.number-2.ensures _ in
      let times_3 = product law c.times-3.ensures number_2 w2 in
      let times_4 = product law c.times-4.ensures times_3 b0 in
      let second = product law c.times-second.ensures times_4 shape in
      let plus_1 = sum law c.plus.ensures n0 first in
      sum law c.plus-2.ensures plus_1 second;
}
