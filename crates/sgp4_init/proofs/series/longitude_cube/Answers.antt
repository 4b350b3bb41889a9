use Rattle.fixed_iv.proofs.Promises.{product, sum}
use Rattle.sgp4_init.proofs.series.longitude_cube.Goals as goal

pub returns : goal.returns
returns g c = record {
  gives = λ d2 c1.
      let law = g.met.E.Enc.contained in
      let square = product law c.times-square.ensures c1 c1 in
      let plus_1 = sum law c.plus.ensures square square in
      sum law c.plus-2.ensures d2 plus_1;
}
