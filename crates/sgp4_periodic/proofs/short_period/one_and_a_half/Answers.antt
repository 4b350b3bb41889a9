use Rattle.std.proofs.Common.{pos}
use Rattle.fixed_iv.proofs.Promises.{number, product}
use Rattle.sgp4_periodic.proofs.short_period.one_and_a_half.Goals as goal

pub returns : goal.returns
returns g c = record {
  gives = λ k2.
      let law = g.met.E.Enc.contained in
      let factor = number (pos 3) 1 0 c.constant.ensures c.from_ratio.ensures tt tt tt in
      product law c.times.ensures factor k2;
}
