use Rattle.fixed_iv.proofs.Promises.{difference, product, sum}
use Rattle.sgp4_init.proofs.brackets.steady_shape.Goals as goal

pub returns : goal.returns
returns g c = record {
  gives = λ con41 et2 eeta.
      let law = g.met.E.Enc.contained in
      let number_1 = c.number.ensures _ in
      let number_2 = c.number-2.ensures _ in
      let times_1 = product law c.times.ensures number_2 eeta in
      let inner = difference law c.minus-inner.ensures number_1 times_1 in
      let number_3 = c.number-3.ensures _ in
      let plus_1 = sum law c.plus.ensures eeta eeta in
      let minus_1 = difference law c.minus.ensures number_3 plus_1 in
      let times_2 = product law c.times-2.ensures et2 inner in
      let plus_2 = sum law c.plus-2.ensures minus_1 times_2 in
      product law c.times-3.ensures con41 plus_2;
}
