use Rattle.std.proofs.Common.{arith, refl}
use Rattle.sgp4_model.proofs.Near.{near_weaken}
use Rattle.sgp4_model.proofs.OwnPair.{sine_and_cosine_exist}
use Rattle.kepler_enc.specs.Point.{at}
use Rattle.kepler_enc.proofs.PointLemmas.{holds_at}
use Rattle.kepler_enc.specs.Spread.{moved, next_left, spread_of}
use Rattle.kepler_enc.proofs.GuessLemmas.{round}
use Rattle.kepler_enc.proofs.DistanceLemmas.{at_most, near_width}
use Rattle.kepler_enc.proofs.SizedLemmas.{near_abs, sizes_at}
use Rattle.kepler_enc.proofs.RoundLemmas.{moves, moves_sign, next_enough}
use Rattle.kepler_enc.proofs.SizeLemmas.{at_most_half, at_most_one, below_one}
use Rattle.kepler_enc.proofs.SpreadLemmas.{round_of}
use Rattle.kepler_enc.proofs.guess.bettered.Goals as goal

pub returns-then-is_bounded-clause-better : goal.returns-then-is_bounded-clause-better
unfolding moved next_left
returns-then-is_bounded-clause-better g c told pi r_u r_ax r_ay sum n is_pi in_u in_ax in_ay sized ok leaves s' k' pair' =
    let r = round_of r_u r_ax r_ay sum n ok in
    let p = at c.args.angle.lo in
    let pair = sine_and_cosine_exist pi p is_pi in
    let better = c.newton-better.ensures told pi pair.0 pair.1.0 r_u r_ax r_ay sum n is_pi in_u in_ax in_ay sized ok leaves pair.1.1 in
    let held = holds_at c.newton-better.result c.middle.result.lo (λ _. c.middle.ensures.low) (λ _. c.middle.ensures.high) in
    let step = near_weaken (at_most better.narrow) (near_width c.newton-better.result (at c.middle.result.lo) _ better.bounded held better.holds) in
    near_weaken (next_enough sum (spread_of r_u r_ax r_ay sum n) (moved r_u r_ax r_ay sum n) r.sizes)
    (round pi (at c.args.u.lo) (at c.args.ax.lo) (at c.args.ay.lo) p pair.0 pair.1.0 (at c.middle.result.lo) s' k' _ _ _ _ _ _ is_pi
    (near_abs (at c.args.ax.lo)) (near_abs (at c.args.ay.lo)) (sizes_at sum _ _ sized)
    (at_most_half r.sizes) (below_one sum (omega (arith, r.sizes))) pair.1.1 pair' (leaves pair.0 pair.1.0 pair.1.1) step
    (moves_sign n sum (spread_of r_u r_ax r_ay sum n) _ r.sizes refl) (moves n sum (spread_of r_u r_ax r_ay sum n) _ r.sizes refl r.moves) (at_most_one r.moves))

pub returns-else-is_bounded-clause-better : goal.returns-else-is_bounded-clause-better
returns-else-is_bounded-clause-better g c told pi r_u r_ax r_ay sum n is_pi in_u in_ax in_ay sized ok leaves =
    let pair = sine_and_cosine_exist pi (at c.args.angle.lo) is_pi in
    let better = c.newton-better.ensures told pi pair.0 pair.1.0 r_u r_ax r_ay sum n is_pi in_u in_ax in_ay sized ok leaves pair.1.1 in
    absurd (grind (arith, c.if-is_bounded.false, c.is_bounded.ensures.1 better.bounded))
