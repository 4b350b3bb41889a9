use Rattle.std.proofs.Common.{pos}
use Rattle.fixed_iv.proofs.Promises.{difference, number, product, sum}
use Rattle.sgp4_periodic.proofs.short_period.distance.Goals as goal

pub returns : goal.returns
returns g c = record {
  gives = λ rl k1 k b con41 ci c2.
      let law = g.met.E.Enc.contained in
      let shift = product law c.times-2.ensures (product law c.times.ensures k b) con41 in
      let steady = difference law c.minus-steady.ensures (c.one.ensures _) shift in
      let half = number (pos 1) 1 0 c.constant.ensures c.from_ratio.ensures tt tt tt in
      let tilt = difference law c.minus.ensures (c.one-2.ensures _) (product law c.times-4.ensures ci ci) in
      let slope = product law c.times-5.ensures (product law c.times-3.ensures half k1) tilt in
      let wave = product law c.times-wave.ensures slope c2 in
      sum law c.plus.ensures (product law c.times-6.ensures rl steady) wave;
}
