use Rattle.std.proofs.Common.{true}
use Rattle.fixed_iv.specs.Reach.{given}
use Rattle.fixed_iv.proofs.Held.{constant_held, within}
use Rattle.sgp4_periodic.specs.Pairs.{most_pair}
use Rattle.sgp4_periodic.proofs.PairLemmas.{inner_held, outer_held}
use Rattle.station_view.specs.Axes.{slim_number}
use Rattle.station_view.proofs.axes.turned.Goals as goal

pub returns : goal.returns
unfolding given
returns g c h s k x y p q of_sine of_cosine sized a b =
    let law = g.met.E.Enc.contained in
    let sine = within slim_number (constant_held c.constant-sine.ensures.covers c.constant-sine.ensures.narrow of_sine) tt in
    let cosine = within slim_number (constant_held c.constant-cosine.ensures.covers c.constant-cosine.ensures.narrow of_cosine) tt in (
      inner_held law true most_pair (λ _. sized) c.times.ensures.covers c.times.ensures.narrow c.times-2.ensures.covers c.times-2.ensures.narrow cosine sine a b c.plus.ensures.covers c.plus.ensures.narrow,
      outer_held law true most_pair (λ _. sized) c.times-3.ensures.covers c.times-3.ensures.narrow c.times-4.ensures.covers c.times-4.ensures.narrow cosine sine b a c.minus.ensures.covers c.minus.ensures.narrow,
    )
