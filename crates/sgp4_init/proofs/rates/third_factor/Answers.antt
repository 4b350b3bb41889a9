use Rattle.fixed_iv.proofs.Promises.{product}
use Rattle.sgp4_init.proofs.rates.third_factor.Goals as goal

pub returns : goal.returns
returns g c = record {
  gives = λ n0 ip2.
      let law = g.met.E.Enc.contained in
      let number_1 = c.number.ensures _ in
      let times_1 = product law c.times.ensures number_1 n0 in
      let times_2 = product law c.times-2.ensures times_1 ip2 in
      product law c.times-3.ensures times_2 ip2;
}
