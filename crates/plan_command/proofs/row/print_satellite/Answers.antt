use Rattle.std.proofs.Common.{subst}
use Rattle.std.specs.Prelude.{slice_get}
use Rattle.plan_command.specs.Parts.{light_text, pairs_text}
use Rattle.run_ends.specs.Printed.{IsPrinted}
use Rattle.run_ends.proofs.PrintedLemmas.{printed_then}
use Rattle.plan_command.proofs.PartLemmas.{accepted_text}
use Rattle.plan_command.proofs.row.print_satellite.Goals as goal

pub returns-in_ok-print_light-in-Some : goal.returns-in_ok-print_light-in-Some
returns-in_ok-print_light-in-Some g c =
    let plan = c.args.plan.now in
    let o = slice_get plan.satellites c.args.sat in
    let number = c.sat.result.now.number in
    subst (IsPrinted g.K.Sink c.print_pairs.result c.args.out.now c.print_pairs.new.out) (accepted_text plan o c.sat.result.now c.in-Some.light.now c.sat.ensures.value c.in-Some.ensures.value)
    (printed_then g.K.Sink c.print_pairs.result c.args.out.now c.print_light.new.out c.print_pairs.new.out (light_text plan number c.in-Some.light.now) (pairs_text plan number o)
    c.in_ok-print_light-in-Some.ensures c.print_pairs.ensures)
