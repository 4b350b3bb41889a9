use Rattle.fixed_iv.proofs.Promises.{product, sum}
use Rattle.sgp4_periodic.proofs.long_period.second_component.Goals as goal

pub returns : goal.returns
returns g c = record {
  gives = λ em sine v aycof.
      let law = g.met.E.Enc.contained in
      sum law c.plus.ensures (product law c.times.ensures em sine) (product law c.times-2.ensures v aycof);
}
