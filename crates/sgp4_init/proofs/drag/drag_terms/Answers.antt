use Rattle.std.proofs.Common.{pos, negsuc}
use Rattle.exact.specs.Interval.{between}
use Rattle.fixed_iv.proofs.Held.{claim_held, held_at}
use Rattle.fixed_iv.proofs.Promises.{product, sum}
use Rattle.sgp4_init.proofs.DragClaimLemmas.{c2_inside, c4_inside}
use Rattle.sgp4_init.proofs.DragLemmas.{c1_is, c4_is}
use Rattle.sgp4_init.proofs.EquationLemmas.{left_factor}
use Rattle.sgp4_init.proofs.WeightLemmas.{bounded}
use Rattle.sgp4_init.proofs.drag.drag_terms.Goals as goal

pub returns : goal.returns
returns g c = record {
  gives = λ h m d k b x r s r_bstar r_cosine recovers taken form terms near of_c1 of_eccentricity of_period motion density bstar cosine.
      let law = g.met.E.Enc.contained in
      let sizes = bounded m d recovers taken terms in
      let et2 = product law c.times-et2.ensures density.eta density.eta in
      let eeta = product law c.times-eeta.ensures motion.e density.eta in
      let along = c.along_orbit.ensures.gives motion.a et2 eeta in
      let oblate = c.by_oblateness.ensures.gives density.xp motion.con41 et2 in
      let of_c2 = sum law c.plus-of_c2.ensures along oblate in
      let steady = c.steady_shape-steady.ensures.gives motion.con41 et2 eeta in
      let turning = c.turning_shape-turning.ensures.gives motion.c et2 eeta cosine in
      let round = c.by_eccentricity-round.ensures.gives density.eta motion.e et2 in
      let share = c.share_of_j2.ensures.gives (left_factor d.psi of_eccentricity.a_psi_divides) density.xp motion.a in
      let of_c4 = c.c4_bracket-of_c4.ensures.gives round share steady turning in
      let scaled = product law c.times-coef1_n0.ensures density.coef1 motion.n0 in
      let times_1 = product law c.times.ensures scaled of_c2 in
      let c2 = claim_held (between (negsuc 181) 100 (pos 182) 100) times_1 (c2_inside m d recovers taken sizes k) in
      let c1 = product law c.times-2.ensures bstar c2 in
      let plus_1 = sum law c.plus.ensures scaled scaled in
      let times_3 = product law c.times-3.ensures plus_1 motion.p in
      let c4 = product law c.times-4.ensures times_3 of_c4 in
      record {
        c1 = held_at (c1_is m d k b of_c1) c1;
        c4 = held_at (c4_is m d k x recovers.p_is of_eccentricity) (claim_held (between (negsuc 106) 100 (pos 107) 100) c4 (c4_inside m d recovers taken sizes k x near));
        c5 = c.periodic_drag.ensures.gives h m d k r s recovers taken form terms of_period motion density.coef1 et2 eeta;
      };
}
