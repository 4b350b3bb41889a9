use Rattle.fixed_iv.proofs.Promises.{difference, product, sum}
use Rattle.sgp4_init.proofs.rates.in_squares.Goals as goal

pub returns : goal.returns
returns g c = record {
  gives = λ constant square fourth c2.
      let law = g.met.E.Enc.contained in
      let times_1 = product law c.times.ensures square c2 in
      let minus_1 = difference law c.minus.ensures constant times_1 in
      let times_2 = product law c.times-2.ensures c2 c2 in
      let times_3 = product law c.times-3.ensures fourth times_2 in
      sum law c.plus.ensures minus_1 times_3;
}
