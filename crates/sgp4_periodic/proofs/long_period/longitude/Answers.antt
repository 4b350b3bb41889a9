use Rattle.fixed_iv.proofs.Promises.{product, sum}
use Rattle.sgp4_periodic.proofs.long_period.longitude.Goals as goal

pub returns : goal.returns
returns g c = record {
  gives = λ ml wm v xlcof ax.
      let law = g.met.E.Enc.contained in
      let change = product law c.times-2.ensures (product law c.times.ensures v xlcof) ax in
      sum law c.plus-2.ensures (sum law c.plus.ensures ml wm) change;
}
