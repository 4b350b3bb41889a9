use Rattle.fixed_iv.proofs.Promises.{product, sum}
use Rattle.sgp4_init.proofs.brackets.by_eccentricity.Goals as goal

pub returns : goal.returns
returns g c = record {
  gives = λ eta e et2.
      let law = g.met.E.Enc.contained in
      let number_1 = c.number.ensures _ in
      let number_2 = c.number-2.ensures _ in
      let times_1 = product law c.times.ensures number_2 et2 in
      let plus_1 = sum law c.plus.ensures number_1 times_1 in
      let of_eta = product law c.times-of_eta.ensures eta plus_1 in
      let number_3 = c.number-3.ensures _ in
      let plus_2 = sum law c.plus-2.ensures number_3 et2 in
      let plus_3 = sum law c.plus-3.ensures plus_2 et2 in
      let of_e = product law c.times-of_e.ensures e plus_3 in
      sum law c.plus-4.ensures of_eta of_e;
}
