use Rattle.std.proofs.Common.{pos}
use Rattle.fixed_iv.proofs.Promises.{number, quotient}
use Rattle.sgp4_periodic.proofs.short_period.half_j2_over.Goals as goal

pub returns : goal.returns
returns g c = record {
  gives = λ divides pl.
      let law = g.met.E.Enc.contained in
      let half = number (pos 541308) 999999999 1 c.constant.ensures c.from_ratio.ensures tt tt tt in
      quotient law c.divided.ensures divides half pl;
}
