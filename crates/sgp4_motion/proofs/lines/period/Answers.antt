use Rattle.std.proofs.Common.{pos}
use Rattle.fixed_iv.proofs.Promises.{number, product, quotient}
use Rattle.fixed_iv.proofs.HeldGiven.{pi_held}
use Rattle.sgp4_motion.proofs.lines.period.Goals as goal

pub returns : goal.returns
returns g c = record {
  gives = λ is_pi divides n0.
      let law = g.met.E.Enc.contained in
      let two = number (pos 2) 0 0 c.constant-two.ensures c.from_ratio.ensures tt tt tt in
      let half_turn = pi_held c.pi.ensures.covers c.pi.ensures.narrow is_pi in
      quotient law c.divided.ensures divides (product law c.times.ensures two half_turn) n0;
}
