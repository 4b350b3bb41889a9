use Rattle.std.proofs.Common.{◌≡◌}
use Rattle.fixed_iv.specs.declared.side.Side.TheVariants.{Yes, No, Unsure}
use Rattle.orbit_sight.specs.Lit.{AreNarrow, HoldShadow}
use Rattle.orbit_sight.proofs.LitLemmas.{each_at, narrow_bounds, on_cell, undecided_grazes}
use Rattle.orbit_sight.proofs.lit_over.lit_over.Goals as goal

pub returns-in_err-found-clause-least : goal.returns-in_err-found-clause-least
returns-in_err-found-clause-least g c told least = absurd (c.in_err-found.ensures.least told least)

pub returns-clause-yes : goal.returns-clause-yes
returns-clause-yes g c e place w =
    let law = g.met.E.Enc.contained in
    let is : c.judge_shade.result ≡ Yes = cc in
    let start = c.args.window.now.start in
    let on = on_cell start c.args.from c.args.to place c.requires.not_empty w in
    each_at start c.args.from c.args.to place on c.in_ok-found.ensures.exists
    (λ v p. let covered = c.in_ok-found.ensures.covers on.at v p in
    c.judge_shade.ensures.yes is v (rw c.ends_of.ensures (law c.in_ok-found.found.p on.at v.p covered.0)) (rw c.ends_of.ensures (law c.in_ok-found.found.g on.at v.g covered.1)))

pub returns-clause-no : goal.returns-clause-no
returns-clause-no g c e place w =
    let law = g.met.E.Enc.contained in
    let is : c.judge_shade.result ≡ No = cc in
    let start = c.args.window.now.start in
    let on = on_cell start c.args.from c.args.to place c.requires.not_empty w in
    each_at start c.args.from c.args.to place on c.in_ok-found.ensures.exists
    (λ v p. let covered = c.in_ok-found.ensures.covers on.at v p in
    c.judge_shade.ensures.no is v (rw c.ends_of.ensures (law c.in_ok-found.found.p on.at v.p covered.0)) (rw c.ends_of.ensures (law c.in_ok-found.found.g on.at v.g covered.1)))

pub returns-clause-unsure : goal.returns-clause-unsure
returns-clause-unsure g c told least e place w =
    let law = g.met.E.Enc.contained in
    let is : c.judge_shade.result ≡ Unsure = cc in
    let start = c.args.window.now.start in
    let on = on_cell start c.args.from c.args.to place c.requires.not_empty w in
    let narrow : AreNarrow c.ends_of.result = rw c.ends_of.ensures (narrow_bounds (c.in_ok-found.ensures.least told least)) in
    each_at start c.args.from c.args.to place on c.in_ok-found.ensures.exists
    (λ v p. let covered = c.in_ok-found.ensures.covers on.at v p in
    let hold : HoldShadow c.ends_of.result v =
    record { p = rw c.ends_of.ensures (law c.in_ok-found.found.p on.at v.p covered.0); g = rw c.ends_of.ensures (law c.in_ok-found.found.g on.at v.g covered.1) } in
    undecided_grazes narrow (c.judge_shade.ensures.unsure is) hold (c.in_ok-found.ensures.far on.at v p))
