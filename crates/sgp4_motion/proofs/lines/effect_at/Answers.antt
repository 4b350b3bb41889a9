use Rattle.fixed_iv.proofs.Promises.{product, quotient}
use Rattle.sgp4_motion.proofs.lines.effect_at.Goals as goal

pub returns : goal.returns
returns g c = record {
  gives = λ divides d1 a.
      let law = g.met.E.Enc.contained in
      quotient law c.divided.ensures divides d1 (product law c.times.ensures a a);
}
