use Rattle.fixed_iv.proofs.Promises.{difference, product, sum}
use Rattle.sgp4_periodic.proofs.long_period.rest_of_square.Goals as goal

pub returns : goal.returns
returns g c = record {
  gives = λ ax ay.
      let law = g.met.E.Enc.contained in
      let square = sum law c.plus.ensures (product law c.times.ensures ax ax) (product law c.times-2.ensures ay ay) in
      difference law c.minus.ensures (c.one.ensures _) square;
}
