use Rattle.std.proofs.Common.{arith, ◌+◌, ◌≤◌, le_trans as nat_trans}
use Rattle.exact.specs.Rational.{ℚ}
use Rattle.exact.specs.Interval.{Inside}
use Rattle.fixed_iv.specs.Holds.{Holds, IsBounded}
use Rattle.fixed_iv.specs.Reach.{nothing, outer}
use Rattle.fixed_iv.proofs.Held.{covered}
use Rattle.fixed_iv.proofs.OuterLemmas.{both, in_outer}
use Rattle.kepler_enc.specs.Guard.{IsGuardedSum}
use Rattle.kepler_enc.specs.Guess.{AreSized, IsGoodGuess}
use Rattle.kepler_enc.specs.Spread.{guesses, left_last, left_over, root_from, root_of}
use Rattle.kepler_enc.proofs.CaseLemmas.{good_leaves}
use Rattle.kepler_enc.proofs.SizedLemmas.{sized_by, sizes_known}
use Rattle.kepler_enc.proofs.SpreadLemmas.{stepping_of}
use Rattle.kepler_enc.proofs.root.kepler.Goals as goal

pub returns-then-not-is_bounded-clause-held : goal.returns-then-not-is_bounded-clause-held
unfolding root_of
returns-then-not-is_bounded-clause-held g c h pi x_u x_ax x_ay angle r_u r_ax r_ay sum is_pi u ax ay sized root = record {
  covers = c.constant.ensures.covers h angle (record { low = λ q. absurd (grind (arith, q)); high = λ q. absurd (grind (arith, q)) });
  known = λ told ok.
      let most = sum + r_ax.spread + r_ay.spread in
      let stepping = stepping_of r_u r_ax r_ay most (left_over r_u r_ax r_ay most) (both (guesses r_u r_ax r_ay most) (root_from r_u r_ax r_ay most (left_over r_u r_ax r_ay most)).ok ok).1 in
      let bounded : IsBounded (g.E.Enc.extent c.args.u).ends = (u.known told stepping.of_u).measured.bounded in
      absurd (grind (arith, c.if-not-is_bounded.true, c.is_bounded.ensures.1 (rw c.bounds-of_u.ensures bounded)));
}

pub returns-clause-covers : goal.returns-clause-covers
unfolding root_from
returns-clause-covers g c h pi x_u x_ax x_ay angle is_pi u ax ay root =
    (c.root_near.ensures h pi x_u x_ax x_ay angle nothing nothing nothing 0 0 is_pi (covered u) (covered ax) (covered ay) root (λ told ok. absurd ok)).covers

pub returns-clause-held : goal.returns-clause-held
unfolding root_of left_over
returns-clause-held g c h pi x_u x_ax x_ay angle r_u r_ax r_ay sum is_pi u ax ay sized root = record {
  covers = returns-clause-covers g c h pi x_u x_ax x_ay angle is_pi u.covers ax.covers ay.covers root;
  known = λ told ok.
      let law = g.met.E.Enc.contained in
      let parts = both _ _ ok in
      let stepping = stepping_of r_u r_ax r_ay _ _ parts.1 in
      let of_u = law c.args.u h x_u u.covers in
      let of_ax = law c.args.ax h x_ax ax.covers in
      let of_ay = law c.args.ay h x_ay ay.covers in
      let k_u = u.known told stepping.of_u in
      let k_ax = ax.known told stepping.of_ax in
      let k_ay = ay.known told stepping.of_ay in
      let in_u : (x : ℚ) → Holds c.bounds-of_u.result x → Inside (outer r_u) x = rw c.bounds-of_u.ensures (λ x m. in_outer (g.E.Enc.extent c.args.u) x_u r_u k_u of_u x m) in
      let in_ax : (x : ℚ) → Holds c.bounds-of_ax.result x → Inside (outer r_ax) x = rw c.bounds-of_ax.ensures (λ x m. in_outer (g.E.Enc.extent c.args.ax) x_ax r_ax k_ax of_ax x m) in
      let in_ay : (x : ℚ) → Holds c.bounds-of_ay.result x → Inside (outer r_ay) x = rw c.bounds-of_ay.ensures (λ x m. in_outer (g.E.Enc.extent c.args.ay) x_ay r_ay k_ay of_ay x m) in
      let sizes = sizes_known (g.E.Enc.extent c.args.ax).ends (g.E.Enc.extent c.args.ay).ends sum r_ax.spread r_ay.spread x_ax x_ay
      k_ax.measured.bounded k_ay.measured.bounded (nat_trans k_ax.measured.width k_ax.narrow) (nat_trans k_ay.measured.width k_ay.narrow) of_ax of_ay sized in
      let small : (x y : ℚ) → Holds c.bounds-of_ax.result x → Holds c.bounds-of_ay.result y → AreSized (sum + r_ax.spread + r_ay.spread) x y =
      rw (c.bounds-of_ax.ensures, c.bounds-of_ay.ensures) (λ x y m n. sized_by (g.E.Enc.extent c.args.ax).ends (g.E.Enc.extent c.args.ay).ends _ x y k_ax.measured.bounded k_ay.measured.bounded sizes m n) in
      let good : IsGoodGuess (left_last r_u r_ax r_ay (sum + r_ax.spread + r_ay.spread)) pi (g.E.Enc.extent c.args.u).ends (g.E.Enc.extent c.args.ax).ends (g.E.Enc.extent c.args.ay).ends c.guess-point.result =
      rw (c.bounds-of_u.ensures, c.bounds-of_ax.ensures, c.bounds-of_ay.ensures) at (c.guess-point.ensures.good told pi r_u r_ax r_ay _ is_pi in_u in_ax in_ay small parts.0) in
      let leaves = good_leaves (g.E.Enc.extent c.args.u) (g.E.Enc.extent c.args.ax) (g.E.Enc.extent c.args.ay) pi x_u x_ax x_ay r_u r_ax r_ay _ c.guess-point.result is_pi k_u k_ax k_ay of_u of_ax of_ay good in
      let guarded : IsGuardedSum (g.E.Enc.extent c.args.ax).ends (g.E.Enc.extent c.args.ay).ends c.in_ok-sum.sum = rw (c.bounds-of_ax.ensures, c.bounds-of_ay.ensures) at c.in_ok-sum.ensures in
      let within : c.in_ok-sum.sum ≤ sum + r_ax.spread + r_ay.spread = rw guarded.is sizes in
      (c.root_near.ensures h pi x_u x_ax x_ay angle r_u r_ax r_ay _ _ is_pi u ax ay root (λ _ _. (leaves, within))).known told parts.1;
}
