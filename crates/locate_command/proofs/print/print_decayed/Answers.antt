use Rattle.std.proofs.Common.{None, codes}
use Rattle.pass_text.specs.SatLine.{sat_line}
use Rattle.run_ends.proofs.PrintedLemmas.{printed_then}
use Rattle.locate_command.proofs.print.print_decayed.Goals as goal

pub returns : goal.returns
returns g c =
    printed_then g.K.Sink c.put_line.result c.args.out.now c.print_satellite.new.out c.put_line.new.out (sat_line c.args.number None c.args.name.now) (codes "DECAYED\n")
    c.in_ok-print_satellite.ensures c.put_line.ensures
