use Rattle.std.proofs.Common.{refl, arith, ◌+◌}
use Rattle.orbit_sight.proofs.LitLemmas.{each_at, narrow_bounds, on_cell}
use Rattle.orbit_sight.proofs.lit_judge.LitJudge.shade_on.Goals as goal

pub returns-in_err-found-clause-none : goal.returns-in_err-found-clause-none
returns-in_err-found-clause-none c = absurd (c.in_err-found.ensures.least tt refl)

pub returns-clause-holds : goal.returns-clause-holds
returns-clause-holds c place w =
    let start = c.args.self.now.window.start in
    let on = on_cell start c.args.tick (c.args.tick + 1) place (omega arith) w in
    each_at start c.args.tick (c.args.tick + 1) place on c.in_ok-found.ensures.exists
    (λ v p. let covered = c.in_ok-found.ensures.covers on.at v p in record { p = rw c.ends_of.ensures covered.0; g = rw c.ends_of.ensures covered.1 })

pub returns-clause-narrow : goal.returns-clause-narrow
returns-clause-narrow c = rw c.ends_of.ensures (narrow_bounds (c.in_ok-found.ensures.least tt refl))
