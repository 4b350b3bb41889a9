use Rattle.fixed_iv.proofs.Promises.{quotient}
use Rattle.sgp4_init.proofs.terms.axis_share.Goals as goal

pub returns : goal.returns
returns g c = record {
  gives = λ divides a.
      quotient g.met.E.Enc.contained c.divided.ensures divides (c.number.ensures _) a;
}
