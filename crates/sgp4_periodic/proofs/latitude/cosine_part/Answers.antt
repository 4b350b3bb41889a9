use Rattle.sgp4_periodic.proofs.PairLemmas.{inner_held}
use Rattle.sgp4_periodic.proofs.latitude.cosine_part.Goals as goal

pub returns : goal.returns
returns g c = record {
  gives = λ known sum sized ax ay sine cosine.
      let law = g.met.E.Enc.contained in
      inner_held law known sum sized c.times.ensures.covers c.times.ensures.narrow c.times-2.ensures.covers c.times-2.ensures.narrow
      ax ay cosine sine c.plus.ensures.covers c.plus.ensures.narrow;
}
