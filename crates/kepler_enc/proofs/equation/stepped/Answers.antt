use Rattle.fixed_iv.proofs.Promises.{difference, quotient, sum}
use Rattle.kepler_enc.proofs.equation.stepped.Goals as goal

pub returns : goal.returns
returns g c = record {
  gives = λ rises angle residual rise rest.
      let law = g.met.E.Enc.contained in
      let step = quotient law c.divided.ensures rises residual rise in
      sum law c.plus.ensures (difference law c.minus.ensures angle step) rest;
}
