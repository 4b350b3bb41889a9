use Rattle.fixed_iv.proofs.Held.{constant_held, turn_held}
use Rattle.kepler_enc.proofs.IvLemmas.{point_given}
use Rattle.kepler_enc.proofs.root.tried.Goals as goal

pub returns : goal.returns
returns g c h pi s k x_u x_ax x_ay i r_u r_ax r_ay is_pi pair inside u ax ay =
    let on = constant_held {C = g.E.Enc.covers} {E = g.E.Enc.extent} {told = g.E.Enc.tells} {h = h} c.constant-angle.ensures.covers c.constant-angle.ensures.narrow (point_given c.args.point i c.requires inside) in
    let turn = turn_held c.sincos-sine.ensures.covers c.sincos-sine.ensures.narrow is_pi pair on in
    (on, turn.0, turn.1, c.residual.ensures.gives u ax ay on turn.0 turn.1)
