use Rattle.std.proofs.Common.{rules, ap, ◌++◌, ◌∙◌, w32}
use Rattle.std.proofs.lemmas.Int.{to_z-of_z}
use mir.Val.{SFits}
use Rattle.pass_text.specs.DayLayout.{window_line}
use Rattle.plan_core.specs.State.{plan_record}
use Rattle.plan_text.specs.HeadLines.{offset_lines, station_lines}
use Rattle.plan_text.specs.SatLine.{sat_lines}
use Rattle.run_ends.proofs.PrintedLemmas.{cut_first, cut_second, failed, printed_then}
use Rattle.plan_command.proofs.head.print_head.Goals as goal

pub returns-in_err-put_line : goal.returns-in_err-put_line
returns-in_err-put_line g c =
    let line = c.bytes.ensures.value ∙ c.window_line.ensures ∙ ap window_line c.window.ensures.value in
    failed _ c.from_residual.ensures.0 (cut_first (window_line c.args.plan.now.setting.window) _ (rw line at c.in_err-put_line.ensures))

pub returns-in_err-print_offset : goal.returns-in_err-print_offset
returns-in_err-print_offset g c =
    let fits : SFits w32 c.dut1_ms.result = search rules in
    let ms = to_z-of_z w32 c.dut1_ms.result fits ∙ c.dut1_ms.ensures.value in
    let line = c.bytes.ensures.value ∙ c.window_line.ensures ∙ ap window_line c.window.ensures.value in
    failed _ c.from_residual-in_err-print_offset.ensures.0
    (cut_second (window_line c.args.plan.now.setting.window) _ (rw line at c.in_ok-put_line.ensures)
    (cut_first (offset_lines c.args.plan.now.setting.stations.dut1) _ (rw ms at c.in_err-print_offset.ensures)))

pub returns-in_err-print_stations : goal.returns-in_err-print_stations
returns-in_err-print_stations g c =
    let fits : SFits w32 c.dut1_ms.result = search rules in
    let ms = to_z-of_z w32 c.dut1_ms.result fits ∙ c.dut1_ms.ensures.value in
    let line = c.bytes.ensures.value ∙ c.window_line.ensures ∙ ap window_line c.window.ensures.value in
    failed _ c.from_residual-in_err-print_stations.ensures.0
    (cut_second (window_line c.args.plan.now.setting.window) _ (rw line at c.in_ok-put_line.ensures)
    (cut_second (offset_lines c.args.plan.now.setting.stations.dut1) _ (rw ms at c.in_ok-print_offset.ensures)
    (cut_first (station_lines 1 (plan_record c.args.plan.now).stations) _ c.in_err-print_stations.ensures)))

pub returns : goal.returns
returns g c =
    let fits : SFits w32 c.dut1_ms.result = search rules in
    let ms = to_z-of_z w32 c.dut1_ms.result fits ∙ c.dut1_ms.ensures.value in
    let line = c.bytes.ensures.value ∙ c.window_line.ensures ∙ ap window_line c.window.ensures.value in
    let plan = plan_record c.args.plan.now in
    let window = window_line plan.window in
    let offset = offset_lines plan.offset in
    let stations = station_lines 1 plan.stations in
    let satellites = sat_lines plan.satellites in
    printed_then g.K.Sink c.print_satellites.result c.args.out.now c.put_line.new.out c.print_satellites.new.out window (offset ++ (stations ++ satellites))
    (rw line at c.in_ok-put_line.ensures)
    (printed_then g.K.Sink c.print_satellites.result c.put_line.new.out c.print_offset.new.out c.print_satellites.new.out offset (stations ++ satellites)
    (rw ms at c.in_ok-print_offset.ensures)
    (printed_then g.K.Sink c.print_satellites.result c.print_offset.new.out c.print_stations.new.out c.print_satellites.new.out stations satellites
    c.in_ok-print_stations.ensures c.print_satellites.ensures))
