use Rattle.std.proofs.Common.{pos}
use Rattle.fixed_iv.proofs.Promises.{number, product, quotient}
use Rattle.fixed_iv.proofs.Held.{held_at}
use Rattle.sgp4_motion.proofs.LineLemmas.{three_quarters}
use Rattle.sgp4_motion.proofs.lines.oblateness.Goals as goal

pub returns : goal.returns
returns g c = record {
  gives = λ divides con41 b0 bb.
      let law = g.met.E.Enc.contained in
      let factor = held_at three_quarters (number (pos 811962) 999999999 1 c.constant-factor.ensures c.from_ratio.ensures tt tt tt) in
      quotient law c.divided.ensures divides (product law c.times.ensures factor con41) (product law c.times-2.ensures b0 bb);
}
