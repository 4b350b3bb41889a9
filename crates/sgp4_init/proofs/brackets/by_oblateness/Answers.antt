use Rattle.fixed_iv.proofs.Promises.{product, sum}
use Rattle.sgp4_init.proofs.brackets.by_oblateness.Goals as goal

pub returns : goal.returns
returns g c = record {
  gives = λ xp con41 et2.
      let law = g.met.E.Enc.contained in
      let number_1 = c.number.ensures _ in
      let number_2 = c.number-2.ensures _ in
      let times_1 = product law c.times.ensures number_2 et2 in
      let number_3 = c.number-3.ensures _ in
      let plus_1 = sum law c.plus.ensures number_3 et2 in
      let times_2 = product law c.times-2.ensures times_1 plus_1 in
      let shape = sum law c.plus-shape.ensures number_1 times_2 in
      let number_4 = c.number-4.ensures _ in
      let times_3 = product law c.times-3.ensures number_4 xp in
      let times_4 = product law c.times-4.ensures times_3 con41 in
      product law c.times-5.ensures times_4 shape;
}
