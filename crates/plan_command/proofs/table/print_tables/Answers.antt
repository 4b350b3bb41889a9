use Rattle.std.proofs.Common.{◌+◌, ◌<◌, arith, refl, ap, sym, subst, ◌∙◌, length, All}
use Rattle.std.proofs.lemmas.List.{length-map}
use Rattle.std.proofs.lemmas.Option.{slice_get_read}
use Rattle.elements.specs.Window.{WindowRecord}
use Rattle.plan_core.specs.State.{plan_record}
use Rattle.plan_text.specs.TableLines.{table_block}
use Rattle.run_ends.proofs.PrintedLemmas.{failed}
use Rattle.station_file.specs.declared.row.StationRow.{StationRow}
use Rattle.plan_command.specs.Tables.{IsContactWithin}
use Rattle.plan_command.proofs.NumberedLemmas.{one_cut, one_more}
use Rattle.plan_command.proofs.TableLemmas.{block_is, table_blocks_are, table_within, there}
use Rattle.plan_command.proofs.table.print_tables.Goals as goal

pub print_table-requires : goal.print_table-requires
print_table-requires g c =
    let plan = plan_record c.args.plan.now in
    let tables = c.args.tables.now in
    let table = c.index-tables-k.result in
    let many = length-map c.args.plan.now.setting.stations.rows (λ (row : StationRow). row.name) in
    let low : c.loop-k.k < length tables = omega (arith, c.requires.count, many, c.stations-k-end.ensures.value, c.loop-k-test.true) in
    let is = slice_get_read tables (length tables) c.loop-k.k table refl low c.index-tables-k.is in
    subst (λ (window : WindowRecord). All (IsContactWithin window.ticks) table) (sym c.window-window.ensures.value)
    (table_within plan tables c.loop-k.k table c.window-window.ensures.plan c.requires is)

pub returns-in_err-print_table : goal.returns-in_err-print_table
returns-in_err-print_table g c =
    let plan = plan_record c.args.plan.now in
    let tables = c.args.tables.now in
    let table = c.index-tables-k.result in
    let many = length-map c.args.plan.now.setting.stations.rows (λ (row : StationRow). row.name) in
    let low : c.loop-k.k < length tables = omega (arith, c.requires.count, many, c.stations-k-end.ensures.value, c.loop-k-test.true) in
    let is = slice_get_read tables (length tables) c.loop-k.k table refl low c.index-tables-k.is in
    let name = there plan.stations c.loop-k.k (omega (arith, many, c.stations-k-end.ensures.value, c.loop-k-test.true)) in
    let line =
    ap (λ (window : WindowRecord). table_block window.start (c.loop-k.k + 1) table) c.window-window.ensures.value
    ∙ block_is plan tables c.loop-k.k table name.0 c.requires is in
    failed _ c.from_residual.ensures.0 (one_cut (table_blocks_are plan) name.0 name.1 c.loop-k.invariant (rw line at c.in_err-print_table.ensures))

pub loop-k-preserved : goal.loop-k-preserved
loop-k-preserved g c =
    let plan = plan_record c.args.plan.now in
    let tables = c.args.tables.now in
    let table = c.index-tables-k.result in
    let many = length-map c.args.plan.now.setting.stations.rows (λ (row : StationRow). row.name) in
    let low : c.loop-k.k < length tables = omega (arith, c.requires.count, many, c.stations-k-end.ensures.value, c.loop-k-test.true) in
    let is = slice_get_read tables (length tables) c.loop-k.k table refl low c.index-tables-k.is in
    let name = there plan.stations c.loop-k.k (omega (arith, many, c.stations-k-end.ensures.value, c.loop-k-test.true)) in
    let line =
    ap (λ (window : WindowRecord). table_block window.start (c.loop-k.k + 1) table) c.window-window.ensures.value
    ∙ block_is plan tables c.loop-k.k table name.0 c.requires is in
    one_more (table_blocks_are plan) name.0 name.1 c.loop-k.invariant (rw line at c.in_ok-print_table.ensures)
