use Rattle.fixed_iv.proofs.Promises.{product, sum}
use Rattle.sgp4_drag.proofs.angles.grown.Goals as goal

pub returns : goal.returns
returns g c = record {
  gives = λ start rate t.
      let law = g.met.E.Enc.contained in
      let gain = product law c.times.ensures rate t in
      sum law c.plus.ensures start gain;
}
