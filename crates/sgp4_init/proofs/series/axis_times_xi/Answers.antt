use Rattle.fixed_iv.proofs.Promises.{product, sum}
use Rattle.sgp4_init.proofs.series.axis_times_xi.Goals as goal

pub returns : goal.returns
returns g c = record {
  gives = λ xi.
      let law = g.met.E.Enc.contained in
      let number_1 = c.number.ensures _ in
      let number_2 = c.number-2.ensures _ in
      let times_1 = product law c.times.ensures number_2 xi in
      sum law c.plus.ensures number_1 times_1;
}
