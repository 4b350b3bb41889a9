use Rattle.fixed_iv.proofs.Promises.{product as times, sum}
use Rattle.sgp4_periodic.proofs.latitude.sine_of_twice.Goals as goal

pub returns : goal.returns
returns g c = record {
  gives = λ su cu.
      let law = g.met.E.Enc.contained in
      let once = times law c.times-product.ensures su cu in
      sum law c.plus.ensures once once;
}
