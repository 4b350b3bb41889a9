use Rattle.fixed_iv.proofs.Promises.{product, sum}
use Rattle.sgp4_init.proofs.brackets.c5_bracket.Goals as goal

pub returns : goal.returns
returns g c = record {
  gives = λ et2 eeta.
      let law = g.met.E.Enc.contained in
      let number_1 = c.number.ensures _ in
      let number_2 = c.number-2.ensures _ in
      let plus_1 = sum law c.plus.ensures et2 eeta in
      let times_1 = product law c.times.ensures number_2 plus_1 in
      let plus_2 = sum law c.plus-2.ensures number_1 times_1 in
      let times_2 = product law c.times-2.ensures eeta et2 in
      sum law c.plus-3.ensures plus_2 times_2;
}
