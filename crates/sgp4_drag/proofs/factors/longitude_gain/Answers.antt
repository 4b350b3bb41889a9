use Rattle.fixed_iv.proofs.Promises.{product, sum}
use Rattle.sgp4_drag.proofs.factors.longitude_gain.Goals as goal

pub returns : goal.returns
returns g c = record {
  gives = λ t2cof t3cof t4cof t5cof t t2 t3 t4.
      let law = g.met.E.Enc.contained in
      let square = product law c.times.ensures t2cof t2 in
      let cube = product law c.times-2.ensures t3cof t3 in
      let rest = sum law c.plus-2.ensures t4cof (product law c.times-3.ensures t t5cof) in
      sum law c.plus-3.ensures (sum law c.plus.ensures square cube) (product law c.times-4.ensures t4 rest);
}
