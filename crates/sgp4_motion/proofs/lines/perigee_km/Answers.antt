use Rattle.std.proofs.Common.{pos}
use Rattle.fixed_iv.proofs.Promises.{difference, number, product}
use Rattle.sgp4_motion.proofs.lines.perigee_km.Goals as goal

pub returns : goal.returns
returns g c = record {
  gives = λ rp.
      let law = g.met.E.Enc.contained in
      let one = number (pos 1) 0 0 c.constant-one.ensures c.from_ratio.ensures tt tt tt in
      let radius = number (pos 6378135) 999 1 c.constant-radius.ensures c.from_ratio-2.ensures tt tt tt in
      product law c.times.ensures (difference law c.minus.ensures rp one) radius;
}
