use Rattle.std.proofs.Common.{true}
use Rattle.fixed_iv.proofs.Promises.{product}
use Rattle.sgp4_periodic.specs.Pairs.{most_pair}
use Rattle.sgp4_periodic.proofs.PairLemmas.{outer_held}
use Rattle.sgp4_periodic.proofs.frame.first_coordinate.Goals as goal

pub returns : goal.returns
returns g c = record {
  gives = λ sized mrt sine cosine tilted cw.
      let law = g.met.E.Enc.contained in
      let along =
      outer_held law true most_pair (λ _. sized) c.times.ensures.covers c.times.ensures.narrow c.times-2.ensures.covers c.times-2.ensures.narrow
      cosine sine cw tilted c.minus.ensures.covers c.minus.ensures.narrow in
      product law c.times-3.ensures mrt along;
}
