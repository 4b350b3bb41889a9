use Rattle.std.proofs.Common.{◌+◌, pos}
use Rattle.sgp4_model.proofs.Pythagoras.{sine_pairs_are_bounded}
use Rattle.kepler_enc.specs.Point.{at}
use Rattle.kepler_enc.proofs.PointLemmas.{holds_at}
use Rattle.fixed_iv.proofs.OuterLemmas.{both}
use Rattle.kepler_enc.specs.Guess.{LeavesAtMost}
use Rattle.kepler_enc.specs.Spread.{guesses, left_first, left_last}
use Rattle.kepler_enc.proofs.GuessLemmas.{first_left}
use Rattle.kepler_enc.proofs.SizedLemmas.{near_abs, sizes_at}
use Rattle.kepler_enc.proofs.SizeLemmas.{at_most_half, at_next}
use Rattle.kepler_enc.proofs.SpreadLemmas.{round_of}
use Rattle.kepler_enc.proofs.guess.guess.Goals as goal

pub returns-clause-good : goal.returns-clause-good
unfolding guesses left_first left_last
returns-clause-good g c told pi r_u r_ax r_ay sum is_pi in_u in_ax in_ay sized ok =
    let last = both _ _ ok in
    let first = both _ _ last.0 in
    let of_u = holds_at c.args.u c.middle-u.result.lo (λ _. c.middle-u.ensures.low) (λ _. c.middle-u.ensures.high) in
    let of_ax = holds_at c.args.ax c.middle-ax.result.lo (λ _. c.middle-ax.ensures.low) (λ _. c.middle-ax.ensures.high) in
    let of_ay = holds_at c.args.ay c.middle-ay.result.lo (λ _. c.middle-ay.ensures.low) (λ _. c.middle-ay.ensures.high) in
    let u = in_u _ of_u in
    let ax = in_ax _ of_ax in
    let ay = in_ay _ of_ay in
    let small = sized _ _ of_ax of_ay in
    let r = round_of r_u r_ax r_ay sum _ first.0 in
    let start : LeavesAtMost (sum + 1) pi (at c.middle-u.result.lo) (at c.middle-ax.result.lo) (at c.middle-ay.result.lo) (at c.middle-u.result.lo) =
    λ s k pair.
    let n = sine_pairs_are_bounded pi (at c.middle-u.result.lo) s k is_pi pair in
    rw (at_next sum) (first_left (at c.middle-u.result.lo) (at c.middle-ax.result.lo) (at c.middle-ay.result.lo) s k _ _ (at (pos sum))
    (near_abs (at c.middle-ax.result.lo)) (near_abs (at c.middle-ay.result.lo)) (sizes_at sum _ _ small) (at_most_half r.sizes) n.0 n.1) in
    let once = c.bettered-first.ensures.better told pi r_u r_ax r_ay sum _ is_pi u ax ay small first.0 start in
    let twice = c.bettered-second.ensures.better told pi r_u r_ax r_ay sum _ is_pi u ax ay small first.1 once in
    record {
      middle_u = at c.middle-u.result.lo;
      middle_ax = at c.middle-ax.result.lo;
      middle_ay = at c.middle-ay.result.lo;
      of_u = of_u;
      of_ax = of_ax;
      of_ay = of_ay;
      leaves = c.bettered.ensures.better told pi r_u r_ax r_ay sum _ is_pi u ax ay small last.1 twice;
    }
