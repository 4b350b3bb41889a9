use Rattle.std.proofs.Common.{pos}
use Rattle.fixed_iv.proofs.Promises.{difference, number, product}
use Rattle.sgp4_motion.proofs.lines.con42.Goals as goal

pub returns : goal.returns
returns g c = record {
  gives = λ c2.
      let law = g.met.E.Enc.contained in
      let one = number (pos 1) 0 0 c.constant-one.ensures c.from_ratio.ensures tt tt tt in
      let five = number (pos 5) 0 0 c.constant-five.ensures c.from_ratio-2.ensures tt tt tt in
      difference law c.minus.ensures one (product law c.times.ensures five c2);
}
