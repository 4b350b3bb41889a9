use Rattle.std.proofs.Common.{arith, IsTrue}
use Rattle.exact.specs.Rational.{◌<ℚ◌}
use Rattle.sgp4_model.specs.Sectors.{HoldsDirection, SectorSides}
use Rattle.station_view.specs.Bounds.{LiesOutside}
use Rattle.station_view.specs.Judged.{AboveThroughout, BelowThroughout, IsLow}
use Rattle.station_view.proofs.MaskLemmas.{every_sector, mask_held, none_and_some, some_sector}
use Rattle.station_view.proofs.judge.judge_lengths.Goals as goal

pub returns-then-are_below_up-clause-yes : goal.returns-then-are_below_up-clause-yes
returns-then-are_below_up-clause-yes c _ pi pairs v range is_pi are above hold =
    every_sector (AboveThroughout c.args.lengths.now) (λ (s : SectorSides). HoldsDirection s v → s.floor <ℚ v.up) (λ e s held sure. sure s v range held above hold) c.args.mask.now _
    (mask_held pi c.args.mask.now pairs c.sectors-sectors.ensures.mask is_pi are)
    (rw c.sectors-sectors.ensures.value at (c.are_below_up.ensures.each c.if-are_below_up.true))

pub returns-then-are_above_up-clause-no : goal.returns-then-are_above_up-clause-no
returns-then-are_above_up-clause-no c _ pi pairs v range is_pi are above hold =
    every_sector (BelowThroughout c.args.lengths.now) (λ (s : SectorSides). HoldsDirection s v → v.up <ℚ s.floor) (λ e s held sure. sure s v range held above hold) c.args.mask.now _
    (mask_held pi c.args.mask.now pairs c.sectors-sectors.ensures.mask is_pi are)
    (rw c.sectors-sectors.ensures.value at (c.are_above_up.ensures.each c.if-are_above_up.true))

pub returns-else-are_above_up-clause-unsure : goal.returns-else-are_above_up-clause-unsure
returns-else-are_above_up-clause-unsure c _ b narrow pi pairs v range is_pi are above hold =
    let held = mask_held pi c.args.mask.now pairs c.sectors-sectors.ensures.mask is_pi are in
    let low : ¬ IsTrue c.are_below_up.result = λ u. grind (arith, c.if-are_below_up.false, u) in
    let high : ¬ IsTrue c.are_above_up.result = λ u. grind (arith, c.if-are_above_up.false, u) in
    record {
      low = some_sector _ _ _ (λ e s sides near sure. sure.low b near s v range sides above hold) c.args.mask.now _ held narrow (rw c.sectors-sectors.ensures.value at (c.are_below_up.ensures.some low));
      high = some_sector _ _ _ (λ e s sides near sure. sure.high b near s v range sides above hold) c.args.mask.now _ held narrow (rw c.sectors-sectors.ensures.value at (c.are_above_up.ensures.some high));
    }

pub returns-then-are_above_up-clause-in_none : goal.returns-then-are_above_up-clause-in_none
returns-then-are_above_up-clause-in_none c none =
    let low : ¬ IsTrue c.are_below_up.result = λ u. grind (arith, c.if-are_below_up.false, u) in
    absurd (none_and_some (LiesOutside c.args.lengths.now.east c.args.lengths.now.north) (IsLow c.args.lengths.now) (λ e out is. is.reaches out) c.args.mask.now none (rw c.sectors-sectors.ensures.value at (c.are_below_up.ensures.some low)))

pub returns-else-are_above_up-clause-in_none : goal.returns-else-are_above_up-clause-in_none
returns-else-are_above_up-clause-in_none c none =
    let low : ¬ IsTrue c.are_below_up.result = λ u. grind (arith, c.if-are_below_up.false, u) in
    absurd (none_and_some (LiesOutside c.args.lengths.now.east c.args.lengths.now.north) (IsLow c.args.lengths.now) (λ e out is. is.reaches out) c.args.mask.now none (rw c.sectors-sectors.ensures.value at (c.are_below_up.ensures.some low)))
