use Rattle.fixed_iv.specs.Reach.{given}
use Rattle.fixed_iv.proofs.Held.{constant_held, within}
use Rattle.fixed_iv.proofs.Promises.{difference, product}
use Rattle.kepler_enc.proofs.IvLemmas.{exactly_one, one_given}
use Rattle.kepler_enc.proofs.equation.rise.Goals as goal

pub returns : goal.returns
unfolding given
returns g c = record {
  gives = λ ax ay sine cosine.
      let law = g.met.E.Enc.contained in
      let unit = one_given c.one.result c.one.ensures.low c.one.ensures.high in
      let one = within exactly_one (constant_held c.constant-unit.ensures.covers c.constant-unit.ensures.narrow unit) tt in
      let with_sine = difference law c.minus.ensures one (product law c.times.ensures ay sine) in
      difference law c.minus-2.ensures with_sine (product law c.times-2.ensures ax cosine);
}
