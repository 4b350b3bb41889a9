use Rattle.std.proofs.Common.{arith, ◌+◌, ◌-◌, ◌*◌, ◌≤◌, ◌^◌}
use Rattle.std.proofs.lemmas.Grind.{common_steps}
use Rattle.sgp4_model.proofs.OwnPair.{sine_and_cosine_exist}
use Rattle.fixed_iv.specs.Extent.{size}
use Rattle.fixed_iv.specs.Holds.{IsBounded}
use Rattle.kepler_enc.specs.Point.{at}
use Rattle.fixed_iv.proofs.Held.{claim_held, constant_held, covered, held_at}
use Rattle.kepler_enc.specs.Radius.{IsNextAbove}
use Rattle.kepler_enc.specs.Spread.{about_one, root_from, stepped_to, within_units}
use Rattle.kepler_enc.proofs.CaseLemmas.{case_inside, case_of, case_radius, case_rest, case_rise, case_root, case_sum}
use Rattle.kepler_enc.proofs.DistanceLemmas.{anywhere, inside_units}
use Rattle.kepler_enc.proofs.RootLemmas.{ball_holds, in_ball, not_level, seen_of, step_is, step_rest}
use Rattle.kepler_enc.proofs.SizeLemmas.{holds_about}
use Rattle.kepler_enc.proofs.SpreadLemmas.{stepping_of}
use Rattle.kepler_enc.proofs.root.root_near.Goals as goal
use Rattle.kepler_enc.proofs.root.root_near.Goals.{then-radius-from-via-then-radius-from, then-radius-from-via-else-radius-from+then-sum}

pub returns-then-not-is_bounded : goal.returns-then-not-is_bounded
returns-then-not-is_bounded g c h pi x_u x_ax x_ay angle r_u r_ax r_ay most n is_pi u ax ay root leaves =
    let law = g.met.E.Enc.contained in
    let p = at c.args.point.lo in
    let pair = sine_and_cosine_exist pi p is_pi in
    record {
      covers = c.constant.ensures.covers h angle (record { low = λ q. absurd (grind (arith, q)); high = λ q. absurd (grind (arith, q)) });
      known = λ told ok.
          let stepping = stepping_of r_u r_ax r_ay most n ok in
          let facts = leaves told ok in
          let here = case_of law told c.args.u c.args.ax c.args.ay h pi x_u x_ax x_ay p pair.0 pair.1.0 r_u r_ax r_ay most n is_pi pair.1.1 u ax ay ok (facts.0, rw (← c.requires.guarded.is) facts.1) in
          let tried = c.tried-angle.ensures h pi pair.0 pair.1.0 x_u x_ax x_ay _ r_u r_ax r_ay is_pi pair.1.1 (case_inside here) u ax ay in
          let left = claim_held (within_units n) tried.3 (inside_units n _ (facts.0 pair.0 pair.1.0 pair.1.1)) in
          let left_known = left.known told stepping.of_left in
          absurd (grind (arith, c.if-not-is_bounded.true, c.is_bounded.ensures.1 (rw c.bounds-bounds.ensures left_known.measured.bounded)));
    }

pub returns-then-radius-from : goal.returns-then-radius-from
returns-then-radius-from g c h pi x_u x_ax x_ay angle r_u r_ax r_ay most n is_pi u ax ay root leaves =
    let law = g.met.E.Enc.contained in
    let p = at c.args.point.lo in
    let pair = sine_and_cosine_exist pi p is_pi in
    let at_point = c.tried-angle.ensures h pi pair.0 pair.1.0 x_u x_ax x_ay _ r_u r_ax r_ay is_pi pair.1.1 (anywhere c.args.point) u ax ay in
    let bounded : IsBounded (g.E.Enc.extent c.tried-angle.result.3).ends = rw c.bounds-bounds.ensures at (c.is_bounded.ensures.0 c.if-not-is_bounded.false) in
    let ball : IsNextAbove ((size (g.E.Enc.extent c.tried-angle.result.3).ends + 1) * 2 ^ 48) (2 ^ 48 - c.args.sum) c.ball_radius-radius.result = rw (c.largest.ensures, c.bounds-bounds.ensures) at c.ball_radius-radius.ensures in
    let seen = seen_of g.E.Enc.extent law c.args.ax c.args.ay c.tried-angle.result.3 h pi x_u x_ax x_ay angle pair.0 pair.1.0 c.args.point c.args.sum is_pi c.requires.guarded ax.covers ay.covers root pair.1.1 bounded at_point.3.covers in
    record {
      covers = c.constant-then-radius-from.ensures.covers h angle (ball_holds c.add.ensures c.about_zero.ensures (in_ball seen ball));
      known = λ told ok.
          let stepping = stepping_of r_u r_ax r_ay most n ok in
          let facts = leaves told ok in
          let here = case_of law told c.args.u c.args.ax c.args.ay h pi x_u x_ax x_ay p pair.0 pair.1.0 r_u r_ax r_ay most n is_pi pair.1.1 u ax ay ok (facts.0, rw (← c.requires.guarded.is) facts.1) in
          let tried = c.tried-angle.ensures h pi pair.0 pair.1.0 x_u x_ax x_ay _ r_u r_ax r_ay is_pi pair.1.1 (case_inside here) u ax ay in
          let left = claim_held (within_units n) tried.3 (inside_units n _ (facts.0 pair.0 pair.1.0 pair.1.1)) in
          let left_known = left.known told stepping.of_left in
          let small = case_radius here c.requires.guarded left_known (law c.tried-angle.result.3 h _ left.covers) ball in
          let sum = case_sum here c.requires.guarded in
          elim c.then-radius-from.branch [
            | then-radius-from-via-then-radius-from w ↦ absurd (grind (arith, common_steps, w.if-radius-from, c.from.ensures, small))
            | then-radius-from-via-else-radius-from+then-sum w ↦ absurd (grind (arith, common_steps, w.if-sum, sum))
          ];
    }

pub returns : goal.returns
unfolding root_from stepped_to
returns g c h pi x_u x_ax x_ay angle r_u r_ax r_ay most n is_pi u ax ay root leaves =
    let law = g.met.E.Enc.contained in
    let p = at c.args.point.lo in
    let pair = sine_and_cosine_exist pi p is_pi in
    let at_point = c.tried-angle.ensures h pi pair.0 pair.1.0 x_u x_ax x_ay _ r_u r_ax r_ay is_pi pair.1.1 (anywhere c.args.point) u ax ay in
    let bounded : IsBounded (g.E.Enc.extent c.tried-angle.result.3).ends = rw c.bounds-bounds.ensures at (c.is_bounded.ensures.0 c.if-not-is_bounded.false) in
    let ball : IsNextAbove ((size (g.E.Enc.extent c.tried-angle.result.3).ends + 1) * 2 ^ 48) (2 ^ 48 - c.args.sum) c.ball_radius-radius.result = rw (c.largest.ensures, c.bounds-bounds.ensures) at c.ball_radius-radius.ensures in
    let seen = seen_of g.E.Enc.extent law c.args.ax c.args.ay c.tried-angle.result.3 h pi x_u x_ax x_ay angle pair.0 pair.1.0 c.args.point c.args.sum is_pi c.requires.guarded ax.covers ay.covers root pair.1.1 bounded at_point.3.covers in
    let half : c.args.sum ≤ 2 ^ 47 = grind (arith, common_steps, c.if-sum.false) in
    let near : c.ball_radius-radius.result ≤ 2 ^ 48 = grind (arith, common_steps, c.if-radius-from.false, c.from.ensures) in
    let steep = c.rise-steepness.ensures.gives ax ay at_point.1 at_point.2 in
    let small = step_rest seen half near ball c.rest_radius.ensures in
    let rest = c.constant-2.ensures.covers h _ (holds_about c.about_zero-rest.ensures small) in
    record {
      covers = (held_at (step_is p _ _ angle) (c.stepped.ensures.gives (not_level seen half) at_point.0 at_point.3 steep (covered rest))).covers;
      known = λ told ok.
          let stepping = stepping_of r_u r_ax r_ay most n ok in
          let facts = leaves told ok in
          let here = case_of law told c.args.u c.args.ax c.args.ay h pi x_u x_ax x_ay p pair.0 pair.1.0 r_u r_ax r_ay most n is_pi pair.1.1 u ax ay ok (facts.0, rw (← c.requires.guarded.is) facts.1) in
          let tried = c.tried-angle.ensures h pi pair.0 pair.1.0 x_u x_ax x_ay _ r_u r_ax r_ay is_pi pair.1.1 (case_inside here) u ax ay in
          let left = claim_held (within_units n) tried.3 (inside_units n _ (facts.0 pair.0 pair.1.0 pair.1.1)) in
          let left_known = left.known told stepping.of_left in
          let left_holds = law c.tried-angle.result.3 h _ left.covers in
          let steepness = claim_held (about_one (most + 1)) (c.rise-steepness.ensures.gives ax ay tried.1 tried.2) (case_rise here) in
          let of_rest = constant_held c.constant-2.ensures.covers c.constant-2.ensures.narrow (case_rest here c.requires.guarded left_known left_holds ball c.rest_radius.ensures c.about_zero-rest.ensures small) in
          let stepped = held_at (step_is p _ _ angle) (c.stepped.ensures.gives (not_level seen half) tried.0 left steepness of_rest) in
          let answer = stepped.known told stepping.ok in
          record { inside = case_root here root; measured = answer.measured; narrow = answer.narrow };
    }
