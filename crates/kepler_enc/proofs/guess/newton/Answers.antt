use Rattle.std.proofs.Common.{arith, ◌+◌}
use Rattle.sgp4_model.proofs.Pythagoras.{sine_pairs_are_bounded}
use Rattle.fixed_iv.specs.Reach.{outer, turned}
use Rattle.kepler_enc.specs.Point.{at}
use Rattle.fixed_iv.proofs.Held.{claim_held, constant_held, turn_held}
use Rattle.exact.proofs.Strict.{not_zero}
use Rattle.kepler_enc.specs.Spread.{about_one, bettered, spread_of, tried, within_units}
use Rattle.kepler_enc.proofs.DistanceLemmas.{inside_units}
use Rattle.kepler_enc.proofs.IvLemmas.{IsHeldIv, bounds_held, here, iv_divided, iv_minus, iv_plus, iv_times, one_held, point_given, point_held}
use Rattle.kepler_enc.proofs.SizedLemmas.{near_abs, rise_inside, sizes_at, tried_inside}
use Rattle.kepler_enc.proofs.RestLemmas.{rise_positive}
use Rattle.kepler_enc.proofs.SizeLemmas.{at_most_half, below_one}
use Rattle.kepler_enc.proofs.SpreadLemmas.{round_of}
use Rattle.kepler_enc.proofs.guess.newton.Goals as goal

pub returns : goal.returns
unfolding bettered spread_of
returns g c told pi s k r_u r_ax r_ay sum n is_pi in_u in_ax in_ay sized ok leaves pair =
    let r = round_of r_u r_ax r_ay sum n ok in
    let p = at c.args.angle.lo in
    let bounds = sine_pairs_are_bounded pi p s k is_pi pair in
    let left = leaves s k pair in
    let of_ax = near_abs (at c.args.ax.lo) in
    let of_ay = near_abs (at c.args.ay.lo) in
    let sizes = sizes_at sum _ _ sized in
    let half = at_most_half r.sizes in
    let rises = rise_positive (at c.args.ax.lo) (at c.args.ay.lo) s k _ _ _ of_ax of_ay sizes half bounds.0 bounds.1 (below_one sum (omega (arith, r.sizes))) in
    let inside = tried_inside (outer r_u) (at c.args.u.lo) (at c.args.ax.lo) (at c.args.ay.lo) p s k _ _ _ n in_u of_ax of_ay sizes half bounds.0 bounds.1 r.left left in
    let on = constant_held {C = g.E.Enc.covers} {E = g.E.Enc.extent} {told = g.E.Enc.tells} {h = here} c.constant.ensures.covers c.constant.ensures.narrow (point_given c.args.angle _ c.requires.angle inside) in
    let turn = turn_held c.sincos-sine.ensures.covers c.sincos-sine.ensures.narrow is_pi pair on in
    let sine : IsHeldIv c.bounds-sine.result s (turned (tried r_u)) = rw c.bounds-sine.ensures (bounds_held g.met.E.Enc.contained told turn.0) in
    let cosine : IsHeldIv c.bounds-cosine.result k (turned (tried r_u)) = rw c.bounds-cosine.ensures (bounds_held g.met.E.Enc.contained told turn.1) in
    let angle = point_held c.args.angle _ c.requires.angle inside in
    let u = point_held c.args.u _ c.requires.u in_u in
    let ax = point_held c.args.ax _ c.requires.ax in_ax in
    let ay = point_held c.args.ay _ c.requires.ay in_ay in
    let residual = iv_minus c.sub-residual.ensures (iv_minus c.sub.ensures (iv_plus c.add.ensures angle (iv_times c.mul.ensures ay cosine)) (iv_times c.mul-2.ensures ax sine)) u in
    let small = claim_held (within_units n) residual (inside_units n _ left) in
    let unit = one_held c.one.result c.one.ensures.low c.one.ensures.high in
    let rise = iv_minus c.sub-rise.ensures (iv_minus c.sub-2.ensures unit (iv_times c.mul-3.ensures ay sine)) (iv_times c.mul-4.ensures ax cosine) in
    let steep = claim_held (about_one (sum + 1)) rise (rise_inside (at c.args.ax.lo) (at c.args.ay.lo) s k _ _ sum of_ax of_ay sizes r.sizes bounds.0 bounds.1) in
    let better = iv_minus c.sub-3.ensures angle (iv_divided c.div.ensures (not_zero rises) small steep) in
    let known = better.known tt r.ok in
    record { holds = better.covers; bounded = known.measured.bounded; narrow = known.narrow }
