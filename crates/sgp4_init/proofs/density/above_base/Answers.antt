use Rattle.fixed_iv.proofs.Promises.{difference}
use Rattle.sgp4_init.proofs.density.above_base.Goals as goal

pub returns : goal.returns
returns g c = record {
  gives = λ radius.
      let law = g.met.E.Enc.contained in
      let number_1 = c.number.ensures _ in
      difference law c.minus.ensures radius number_1;
}
