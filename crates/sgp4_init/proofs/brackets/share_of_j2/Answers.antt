use Rattle.fixed_iv.proofs.Promises.{product, quotient}
use Rattle.sgp4_init.proofs.brackets.share_of_j2.Goals as goal

pub returns : goal.returns
returns g c = record {
  gives = λ divides xp a.
      let law = g.met.E.Enc.contained in
      quotient law c.divided.ensures divides (product law c.times.ensures (c.number.ensures _) xp) a;
}
