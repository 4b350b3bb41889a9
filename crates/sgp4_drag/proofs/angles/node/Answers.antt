use Rattle.fixed_iv.proofs.Promises.{product, sum}
use Rattle.sgp4_drag.proofs.angles.node.Goals as goal

pub returns : goal.returns
returns g c = record {
  gives = λ start rate bend t t2.
      let law = g.met.E.Enc.contained in
      let steady = product law c.times.ensures rate t in
      let bent = product law c.times-2.ensures bend t2 in
      sum law c.plus-2.ensures (sum law c.plus.ensures start steady) bent;
}
