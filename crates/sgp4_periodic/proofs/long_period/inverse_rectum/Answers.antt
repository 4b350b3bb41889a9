use Rattle.fixed_iv.proofs.Promises.{difference, product, quotient}
use Rattle.sgp4_periodic.proofs.long_period.inverse_rectum.Goals as goal

pub returns : goal.returns
returns g c = record {
  gives = λ divides am em.
      let law = g.met.E.Enc.contained in
      let rest = difference law c.minus.ensures (c.one-2.ensures _) (product law c.times.ensures em em) in
      quotient law c.divided.ensures divides (c.one.ensures _) (product law c.times-2.ensures am rest);
}
