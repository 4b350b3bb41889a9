use Rattle.fixed_iv.proofs.HeldRoot.{sqrt_held}
use Rattle.fixed_iv.proofs.Promises.{quotient}
use Rattle.sgp4_init.proofs.density.over_root.Goals as goal

pub returns : goal.returns
returns g c = record {
  gives = λ is_root divides psi.
      let law = g.met.E.Enc.contained in
      let root = sqrt_held law c.sqrt.ensures.covers c.sqrt.ensures.narrow is_root psi in
      quotient law c.divided.ensures divides psi root;
}
