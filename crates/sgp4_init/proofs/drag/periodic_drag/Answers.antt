use Rattle.std.proofs.Common.{pos, negsuc}
use Rattle.exact.specs.Interval.{between}
use Rattle.fixed_iv.proofs.Held.{claim_held, held_at}
use Rattle.fixed_iv.proofs.Promises.{product, sum}
use Rattle.sgp4_init.proofs.CoefficientLemmas.{held_or_zero, held_zero}
use Rattle.sgp4_init.proofs.DragClaimLemmas.{c5_inside}
use Rattle.sgp4_init.proofs.DragLemmas.{c5_is}
use Rattle.sgp4_init.proofs.WeightLemmas.{bounded}
use Rattle.sgp4_init.proofs.drag.periodic_drag.Goals as goal

pub returns-then-motion : goal.returns-then-motion
returns-then-motion g c = record {
  gives = λ h m d k r s recovers taken form terms of_period motion coef1 et2 eeta.
      held_zero _ (of_period.c5_is_simple (form.simple c.if-motion.true)) (c.number.ensures h);
}

pub returns : goal.returns
returns g c = record {
  gives = λ h m d k r s recovers taken form terms of_period motion coef1 et2 eeta.
      let law = g.met.E.Enc.contained in
      let twice = sum law c.plus.ensures coef1 coef1 in
      let along = product law c.times.ensures twice motion.p in
      let of_c5 = c.c5_bracket.ensures.gives et2 eeta in
      let c5 = product law c.times-2.ensures along of_c5 in
      let inside = c5_inside m d recovers taken (bounded m d recovers taken terms) in
      held_or_zero (held_at (c5_is m d k recovers.p_is (form.full c.if-motion.false) of_period) (claim_held (between (negsuc 4) 1000 (pos 5) 1000) c5 inside));
}
