use Rattle.fixed_iv.proofs.Promises.{difference, product, sum}
use Rattle.sgp4_init.proofs.brackets.turning_shape.Goals as goal

pub returns : goal.returns
returns g c = record {
  gives = λ of_c et2 eeta cosine.
      let law = g.met.E.Enc.contained in
      let plus_1 = sum law c.plus.ensures et2 et2 in
      let number_1 = c.number.ensures _ in
      let plus_2 = sum law c.plus-2.ensures number_1 et2 in
      let times_1 = product law c.times.ensures eeta plus_2 in
      let inner = difference law c.minus-inner.ensures plus_1 times_1 in
      let number_2 = c.number-2.ensures _ in
      let times_2 = product law c.times-2.ensures of_c of_c in
      let minus_1 = difference law c.minus.ensures number_2 times_2 in
      let times_3 = product law c.times-3.ensures minus_1 inner in
      product law c.times-4.ensures times_3 cosine;
}
