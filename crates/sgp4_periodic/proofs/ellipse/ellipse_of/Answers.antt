use Rattle.std.proofs.Common.{◌∙◌, ap, sym}
use Rattle.exact.specs.Rational.{◌-ℚ◌, ◌/ℚ◌, one_ℚ}
use Rattle.fixed_iv.proofs.Held.{held_at, times_held, turn_held}
use Rattle.sgp4_periodic.proofs.EquationLemmas.{rectum_is, squares_are}
use Rattle.sgp4_periodic.proofs.ellipse.ellipse_of.Goals as goal

pub returns : goal.returns
returns g c h pi k m q r n is_pi consts mean e =
    let law = g.met.E.Enc.contained in
    let turn = turn_held c.sincos-sine.ensures.covers c.sincos-sine.ensures.narrow is_pi e.wm_pair mean.wm in
    let inverse = c.inverse_rectum-v.ensures.gives (λ z. e.am_divides (sym (rectum_is m.am m.em) ∙ z)) mean.am mean.em in
    let v = held_at (ap (λ z. one_ℚ /ℚ z) (rectum_is m.am m.em) ∙ sym e.v_is) inverse in
    let ax = held_at (sym e.ax_is) (times_held law c.times-ax.ensures.covers c.times-ax.ensures.narrow mean.em turn.1) in
    let ay = held_at (sym e.ay_is) (c.second_component-ay.ensures.gives mean.em turn.0 v consts.aycof) in
    let squares = c.rest_of_square-rest.ensures.gives ax ay in
    let rest = held_at (squares_are q.ax q.ay ∙ ap (λ z. one_ℚ -ℚ z) (sym e.el_is)) squares in
    let u = c.longitude.ensures.gives mean.ml mean.wm v consts.xlcof ax in
    let pl = times_held law c.times.ensures.covers c.times.ensures.narrow mean.am rest in
    record { ax = ax; ay = ay; u = held_at (sym e.u_is) u; rest = rest; pl = held_at (sym e.pl_is) pl }
