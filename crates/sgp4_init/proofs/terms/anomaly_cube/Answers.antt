use Rattle.fixed_iv.proofs.Promises.{product, sum}
use Rattle.sgp4_init.proofs.terms.anomaly_cube.Goals as goal

pub returns : goal.returns
returns g c = record {
  gives = λ eta cosine.
      let law = g.met.E.Enc.contained in
      let number_1 = c.number.ensures _ in
      let times_1 = product law c.times.ensures eta cosine in
      let base = sum law c.plus-base.ensures number_1 times_1 in
      let times_2 = product law c.times-2.ensures base base in
      product law c.times-3.ensures times_2 base;
}
