use Rattle.fixed_iv.proofs.Promises.{product, sum}
use Rattle.sgp4_init.proofs.brackets.along_orbit.Goals as goal

pub returns : goal.returns
returns g c = record {
  gives = λ a et2 eeta.
      let law = g.met.E.Enc.contained in
      let number_1 = c.number.ensures _ in
      let number_2 = c.number-2.ensures _ in
      let times_1 = product law c.times.ensures number_2 et2 in
      let plus_1 = sum law c.plus.ensures number_1 times_1 in
      let number_3 = c.number-3.ensures _ in
      let plus_2 = sum law c.plus-2.ensures number_3 et2 in
      let times_2 = product law c.times-2.ensures eeta plus_2 in
      let total = sum law c.plus-sum.ensures plus_1 times_2 in
      product law c.times-3.ensures a total;
}
