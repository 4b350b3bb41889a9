use Rattle.fixed_iv.proofs.Promises.{product, sum}
use Rattle.sgp4_init.proofs.terms.longitude_bend.Goals as goal

pub returns : goal.returns
returns g c = record {
  gives = λ of_c tangent.
      let law = g.met.E.Enc.contained in
      let times_1 = product law c.times.ensures (c.number-2.ensures _) of_c in
      let total = sum law c.plus-sum.ensures (c.number.ensures _) times_1 in
      let times_2 = product law c.times-2.ensures (c.number-3.ensures _) total in
      product law c.times-3.ensures times_2 tangent;
}
