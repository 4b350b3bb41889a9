use Rattle.std.proofs.Common.{◌∙◌, ap, sym}
use Rattle.exact.specs.Rational.{◌/ℚ◌}
use Rattle.fixed_iv.proofs.Held.{held_at, minus_held, times_held, turn_held}
use Rattle.fixed_iv.proofs.HeldQuotient.{divided_held}
use Rattle.fixed_iv.proofs.HeldRoot.{sqrt_held}
use Rattle.sgp4_shape.proofs.ExpectedHeld.{expected_held}
use Rattle.sgp4_periodic.proofs.EquationLemmas.{change_is, cosine_is, cosine_of_twice_is, distance_is, factor_divides, half_of_j2_is, inclination_is, node_is, over_near, sine_is, sine_of_twice_is}
use Rattle.sgp4_periodic.proofs.corrected.corrected_at.Goals as goal

pub returns : goal.returns
returns g c h pi angle k m q v r n e t b is_pi consts mean ellipse root p in_box =
    let law = g.met.E.Enc.contained in
    let before = p.preliminaries in
    let latitude = p.argument_of_latitude in
    let short = p.short_period in
    let turn = turn_held c.sincos-sine.ensures.covers c.sincos-sine.ensures.narrow is_pi p.kepler.pair root in
    let ec = expected_held b.known b.inner (held_at (sym before.ec_is) (c.cosine_part.ensures.gives b.known b.vector (λ t. (in_box t).vector) ellipse.ax ellipse.ay turn.0 turn.1)) (λ t. (in_box t).inner) in
    let near = minus_held law c.minus-near.ensures.covers c.minus-near.ensures.narrow (c.one.ensures h) ec in
    let divides = factor_divides m.am _ (λ z. latitude.rl_divides (before.rl_is ∙ z)) in
    let root_of_rest = sqrt_held law c.sqrt-b.ensures.covers c.sqrt-b.ensures.narrow before.b_is ellipse.rest in
    let es = held_at (sym before.es_is) (c.sine_part.ensures.gives b.known b.vector (λ t. (in_box t).vector) ellipse.ax ellipse.ay turn.0 turn.1) in
    let f = c.over_one_plus-f.ensures.gives latitude.b_divides es root_of_rest in
    let sine = c.sine_of_latitude-su.ensures.gives divides turn.0 ellipse.ax ellipse.ay f near in
    let su = expected_held b.known b.latitude (held_at (over_near m.am _ q.rl _ _ before.rl_is latitude.rl_divides (sine_is _ _ _ _ _) ∙ sym latitude.su_is) sine) (λ t. (in_box t).su) in
    let cosine = c.cosine_of_latitude-cu.ensures.gives divides turn.1 ellipse.ax ellipse.ay f near in
    let cu = expected_held b.known b.latitude (held_at (over_near m.am _ q.rl _ _ before.rl_is latitude.rl_divides (cosine_is _ _ _ _ _) ∙ sym latitude.cu_is) cosine) (λ t. (in_box t).cu) in
    let s2 = held_at (sine_of_twice_is q.su q.cu ∙ sym latitude.s2_is) (c.sine_of_twice-s2.ensures.gives su cu) in
    let c2 = held_at (cosine_of_twice_is q.su ∙ sym latitude.c2_is) (c.cosine_of_twice-c2.ensures.gives su) in
    let k1 = held_at (ap (λ z. z /ℚ q.pl) half_of_j2_is ∙ sym latitude.k1_is) (c.half_j2_over-k1.ensures.gives latitude.pl_divides ellipse.pl) in
    let k2 = held_at (sym latitude.k2_is) (divided_held law c.divided-k2.ensures.covers c.divided-k2.ensures.narrow latitude.pl_divides k1 ellipse.pl) in
    let more = c.one_and_a_half-k.ensures.gives k2 in
    let rl = held_at (sym before.rl_is) (times_held law c.times-rl.ensures.covers c.times-rl.ensures.narrow mean.am near) in
    let mrt = c.distance-mrt.ensures.gives rl k1 more root_of_rest consts.con41 consts.c c2 in
    let du = c.latitude_change.ensures.gives k2 consts.c s2 in
    let xnode = c.node.ensures.gives mean.om more consts.c s2 in
    let xinc = c.inclination.ensures.gives consts.i more consts.c consts.si c2 in
    record {
      mrt = held_at (distance_is q.rl q.k1 q.k2 q.b k.con41 k.c q.c2 ∙ sym short.mrt_is) mrt;
      su = su;
      cu = cu;
      du = held_at (change_is q.k2 k.c q.s2 ∙ sym short.du_is) du;
      xnode = held_at (node_is m.om q.k2 k.c q.s2 ∙ sym short.xnode_is) xnode;
      xinc = held_at (inclination_is k.i q.k2 k.c k.si q.c2 ∙ sym short.xinc_is) xinc;
    }
