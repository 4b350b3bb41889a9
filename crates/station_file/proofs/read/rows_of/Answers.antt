use Rattle.std.proofs.Common.{arith, ◌≡◌, ◌++◌, ◌∷◌, [], ◌∙◌, false}
use Rattle.std.proofs.lemmas.Grind.{common_steps}
use Rattle.station_file.specs.StationFile.{is_taken}
use Rattle.station_file.proofs.ReadLemmas.{next_row}
use Rattle.station_file.proofs.RowLemmas.{one_more_row}
use Rattle.station_file.proofs.read.rows_of.Goals as goal

pub loop-value-preserved : goal.loop-value-preserved
loop-value-preserved c =
    let (so_far, counted, are) = c.loop-value.invariant in
    let pushed : c.push.new.self.items ≡ c.loop-value.rows.items ++ c.in-Ok.row ∷ [] = grind (arith, common_steps) in
    let untaken : is_taken c.loop-value.rows.items c.in-Ok.row.name ≡ false = rw (← c.deref.ensures.value) c.in-Ok.ensures.untaken in
    let read = next_row c.loop-value.rows.items c.args.values.now c.loop-value.value-index c.value-item.result c.in-Ok.row c.loop-value-test.true c.value-item.is (rw (← c.deref.ensures.value) c.in-Ok.ensures.ok) in
    rw pushed (so_far ∙ read, grind (arith, common_steps), one_more_row c.loop-value.rows.items c.in-Ok.row are c.in-Ok.ensures.row untaken)
