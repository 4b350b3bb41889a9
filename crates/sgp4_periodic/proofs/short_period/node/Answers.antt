use Rattle.fixed_iv.proofs.Promises.{product, sum}
use Rattle.sgp4_periodic.proofs.short_period.node.Goals as goal

pub returns : goal.returns
returns g c = record {
  gives = λ om k ci s2.
      let law = g.met.E.Enc.contained in
      sum law c.plus.ensures om (product law c.times-2.ensures (product law c.times.ensures k ci) s2);
}
