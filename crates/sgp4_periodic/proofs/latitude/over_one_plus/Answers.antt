use Rattle.fixed_iv.proofs.Promises.{quotient, sum}
use Rattle.sgp4_periodic.proofs.latitude.over_one_plus.Goals as goal

pub returns : goal.returns
returns g c = record {
  gives = λ divides es b.
      let law = g.met.E.Enc.contained in
      quotient law c.divided.ensures divides es (sum law c.plus.ensures (c.one.ensures _) b);
}
