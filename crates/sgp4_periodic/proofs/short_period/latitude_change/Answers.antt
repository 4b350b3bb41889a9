use Rattle.std.proofs.Common.{negsuc, pos}
use Rattle.fixed_iv.proofs.Promises.{difference, number, product}
use Rattle.sgp4_periodic.proofs.short_period.latitude_change.Goals as goal

pub returns : goal.returns
returns g c = record {
  gives = λ k2 ci s2.
      let law = g.met.E.Enc.contained in
      let seven = number (pos 7) 0 0 c.constant.ensures c.from_ratio.ensures tt tt tt in
      let sevenfold = product law c.times-2.ensures seven (product law c.times.ensures ci ci) in
      let factor = difference law c.minus-factor.ensures sevenfold (c.one.ensures _) in
      let quarter = number (negsuc 0) 3 0 c.constant-2.ensures c.from_ratio-2.ensures tt tt tt in
      let slope = product law c.times-4.ensures (product law c.times-3.ensures quarter k2) factor in
      product law c.times-5.ensures slope s2;
}
