use Rattle.std.proofs.Common.{pos}
use Rattle.fixed_iv.proofs.Promises.{difference, number, product}
use Rattle.sgp4_motion.proofs.lines.one_less_square.Goals as goal

pub returns : goal.returns
returns g c = record {
  gives = λ e.
      let law = g.met.E.Enc.contained in
      let one = number (pos 1) 0 0 c.constant-one.ensures c.from_ratio.ensures tt tt tt in
      difference law c.minus.ensures one (product law c.times.ensures e e);
}
