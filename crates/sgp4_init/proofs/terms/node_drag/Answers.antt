use Rattle.fixed_iv.proofs.Promises.{product}
use Rattle.sgp4_init.proofs.terms.node_drag.Goals as goal

pub returns : goal.returns
returns g c = record {
  gives = λ bb w1 of_c c1.
      let law = g.met.E.Enc.contained in
      let number_1 = c.number.ensures _ in
      let times_1 = product law c.times.ensures number_1 bb in
      let times_2 = product law c.times-2.ensures w1 of_c in
      let times_3 = product law c.times-3.ensures times_1 times_2 in
      product law c.times-4.ensures times_3 c1;
}
