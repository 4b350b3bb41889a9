use Rattle.std.proofs.Common.{pos, negsuc}
use Rattle.exact.specs.Interval.{between}
use Rattle.fixed_iv.proofs.Held.{claim_held, held_at}
use Rattle.fixed_iv.proofs.Promises.{quotient, sum}
use Rattle.sgp4_init.proofs.CoefficientLemmas.{aycof_is, delmo_is, nodecf_is, sum_inside, t2cof_is, tangent_inside, xlcof_is}
use Rattle.sgp4_init.proofs.coefficients.remaining_coefficients.Goals as goal

pub returns : goal.returns
returns g c = record {
  gives = λ h z m d k f t r s r_w1 r_c1 case epoch motion density w1 c1.
      let both = c.divided_terms-omgcof.ensures.gives h z m d k f t r s case motion density epoch.cos_w0 in
      let law = g.met.E.Enc.contained in
      let total = claim_held (between (pos 34) 10000 (pos 20001) 10000) (sum law c.plus-sum.ensures (c.number.ensures h) motion.c) (sum_inside m case.taken) in
      let tangent = claim_held (between (negsuc 48) 2 (pos 49) 2) (quotient law c.divided-tangent.ensures case.remaining.c_divides motion.si total) (tangent_inside m case.taken) in
      record {
        omgcof = both.0;
        xmcof = both.1;
        nodecf = held_at (nodecf_is z m d k f t case.terms case.remaining) (c.node_drag.ensures.gives motion.bb w1 motion.c c1);
        t2cof = held_at (t2cof_is z m d k f t case.terms case.remaining) (c.longitude_square.ensures.gives c1);
        xlcof = held_at (xlcof_is z m d k f t case.terms case.remaining) (c.longitude_bend.ensures.gives motion.c tangent);
        aycof = held_at (aycof_is z m d k f t case.terms case.remaining) (c.eccentricity_bend.ensures.gives motion.si);
        delmo = held_at (delmo_is z m d k f t case.terms case.remaining) (c.anomaly_cube.ensures.gives density.eta epoch.cos_m0);
      };
}
