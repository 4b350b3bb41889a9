use Rattle.fixed_iv.proofs.Promises.{difference, product, sum}
use Rattle.sgp4_drag.proofs.factors.decayed.Goals as goal

pub returns : goal.returns
returns g c = record {
  gives = λ e bstar c4 c5 sin_m0 sine t.
      let law = g.met.E.Enc.contained in
      let secular = product law c.times-secular.ensures (product law c.times.ensures bstar c4) t in
      let change = difference law c.minus.ensures sine sin_m0 in
      let periodic = product law c.times-periodic.ensures (product law c.times-2.ensures bstar c5) change in
      difference law c.minus-2.ensures e (sum law c.plus.ensures secular periodic);
}
