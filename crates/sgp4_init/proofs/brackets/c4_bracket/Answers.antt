use Rattle.fixed_iv.proofs.Promises.{difference, product}
use Rattle.sgp4_init.proofs.brackets.c4_bracket.Goals as goal

pub returns : goal.returns
returns g c = record {
  gives = λ first share steady turning.
      let law = g.met.E.Enc.contained in
      let turning_part = product law c.times.ensures (c.number.ensures _) turning in
      let steady_part = product law c.times-2.ensures (c.number-2.ensures _) steady in
      let shape = difference law c.minus-shape.ensures turning_part steady_part in
      difference law c.minus.ensures first (product law c.times-3.ensures share shape);
}
