use Rattle.std.proofs.Common.{pos}
use Rattle.exact.specs.Interval.{between}
use Rattle.fixed_iv.proofs.Held.{claim_held, held_at}
use Rattle.fixed_iv.proofs.Promises.{product, quotient, sum}
use Rattle.sgp4_init.proofs.DensityLemmas.{above_divides, coef1_is, coef_is, eta_inside, eta_is, low_divides, psi_is, root_divides, root_inside, share_inside, sum_divides, xi_is, xp_is}
use Rattle.sgp4_init.proofs.density.density_terms.Goals as goal

pub returns : goal.returns
returns g c = record {
  gives = λ h m d r recovers high terms held.
      let law = g.met.E.Enc.contained in
      let above = c.above_base-above.ensures.gives held.a in
      let ea = product law c.times-ea.ensures held.e held.a in
      let share_of_a = quotient law c.divided-eta.ensures (above_divides m d recovers high terms) ea above in
      let eta = claim_held (between (pos 0) 10000 (pos 8827) 10000) (held_at (eta_is m d recovers high terms) share_of_a) (eta_inside m d recovers high terms) in
      let xi = held_at (xi_is m d recovers high terms) (quotient law c.divided-xi.ensures (above_divides m d recovers high terms) (c.number.ensures h) above) in
      let total = sum law c.plus.ensures above ea in
      let share = claim_held (between (pos 1) 2 (pos 2) 2) (quotient law c.divided-share.ensures (sum_divides m d recovers high terms) above total) (share_inside m d recovers high terms) in
      let low = c.above_base.ensures.gives held.rp in
      let xp = held_at (xp_is m d recovers high terms) (quotient law c.divided-xp.ensures (low_divides m d recovers high terms) share low) in
      let psi = held_at (psi_is m d recovers high terms) (c.size-psi.ensures.gives h _ _ (c.less_square-rest.ensures.gives eta)) in
      let root = claim_held (between (pos 2000) 10000 (pos 10001) 10000) (c.over_root.ensures.gives terms.root_of_psi_is (root_divides m d recovers high terms) psi) (root_inside m d recovers high terms) in
      let power = c.fourth_power-2.ensures.gives xp in
      record {
        xi = xi;
        eta = eta;
        xp = xp;
        coef = held_at (coef_is m d recovers high terms) (c.fourth_power.ensures.gives xi);
        coef1 = held_at (coef1_is m d recovers high terms) (product law c.times.ensures power root);
      };
}
