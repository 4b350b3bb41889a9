use Rattle.std.proofs.Common.{None}
use Rattle.locate_command.specs.Located.{edge_lines}
use Rattle.pass_text.specs.SatLine.{sat_line}
use Rattle.run_ends.proofs.PrintedLemmas.{printed_then}
use Rattle.locate_command.proofs.print.print_inside.Goals as goal

pub returns : goal.returns
returns g c =
    printed_then g.K.Sink c.print_edges.result c.args.out.now c.print_satellite.new.out c.print_edges.new.out (sat_line c.args.number None c.args.name.now) (edge_lines c.args.x c.args.y c.args.z)
    c.in_ok-print_satellite.ensures c.print_edges.ensures
