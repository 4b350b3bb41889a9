use Rattle.std.proofs.Common.{◌≡◌, ◌++◌, ◌∷◌, [], arith, ◌≤◌, length, sym, subst, map, drop, ◌+◌}
use Rattle.std.proofs.lemmas.Grind.{common_steps}
use Rattle.station_view.specs.Masks.{stretch_of, stretches}
use Rattle.station_view.proofs.MaskLemmas.{all_enclosed, is_enclosed, one_more, sectors_are, stretch_at}
use Rattle.station_view.proofs.RoundLemmas.{holds_each_direction}
use Rattle.station_view.proofs.mask.Mask.fix.Goals as goal

pub loop-k-preserved : goal.loop-k-preserved
loop-k-preserved c =
    let row = c.args.row.now in
    let k = c.loop-k.k in
    let pushed : c.push.new.self.items ≡ c.loop-k.sectors.items ++ c.enclosed_at.result ∷ [] = grind (arith, common_steps) in
    let at = stretch_at row k c.enclosed_at.result c.enclosed_at.ensures.sector c.enclosed_at.ensures.next c.enclosed_at.ensures.first in
    subst (λ t. stretches row ≡ map stretch_of t ++ drop (k + 1) (stretches row)) (sym pushed) (one_more (stretches row) c.loop-k.sectors.items k c.enclosed_at.result c.loop-k.invariant at)

pub invariant_of-result : goal.invariant_of-result
invariant_of-result c =
    let most : length c.args.row.now ≤ c.loop-k.k = grind (arith, c.loop-k-test.false, c.len-count.ensures.value) in
    is_enclosed c.args.row.now c.loop-k.sectors.items (all_enclosed c.args.row.now c.loop-k.sectors.items c.loop-k.k c.loop-k.invariant most) c.len-count.ensures.mask

pub returns-clause-sectors : goal.returns-clause-sectors
returns-clause-sectors c =
    let most : length c.args.row.now ≤ c.loop-k.k = grind (arith, c.loop-k-test.false, c.len-count.ensures.value) in
    sectors_are c.args.row.now c.loop-k.sectors.items (all_enclosed c.args.row.now c.loop-k.sectors.items c.loop-k.k c.loop-k.invariant most)

pub returns-clause-complete : goal.returns-clause-complete
returns-clause-complete c = holds_each_direction c.loop-k.sectors.items (invariant_of-result c)
