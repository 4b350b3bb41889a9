use Rattle.std.proofs.Common.{◌≡◌, arith, sym, subst, IsTrue, slice_index_or, below_more}
use Rattle.std.proofs.lemmas.Grind.{common_steps}
use Rattle.station_view.specs.Judged.{BelowThroughout}
use Rattle.station_view.proofs.judge.are_above_up.Goals as goal

pub returns-then-not-is_above_up-clause-some : goal.returns-then-not-is_above_up-clause-some
returns-then-not-is_above_up-clause-some c _ =
    let not : ¬ IsTrue c.is_above_up.result = λ u. grind (arith, c.if-not-is_above_up.true, u) in
    (c.loop-sector.sector-index, c.sector-item.result, grind (arith, c.loop-sector-test.true), grind (arith, common_steps), c.is_above_up.ensures.unsure not)

pub loop-sector-preserved : goal.loop-sector-preserved
loop-sector-preserved c =
    let sure : IsTrue c.is_above_up.result = grind (arith, c.if-not-is_above_up.false) in
    below_more _ _ c.loop-sector.invariant (λ d.
    let item : slice_index_or c.args.sectors.now c.loop-sector.sector-index d ≡ c.sector-item.result = grind (arith, common_steps) in
    subst (BelowThroughout c.args.lengths.now) (sym item) (c.is_above_up.ensures.sure sure))
