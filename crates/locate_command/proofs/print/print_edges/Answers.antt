use Rattle.std.proofs.Common.{codes, ◌++◌}
use Rattle.pass_text.specs.LocateLayout.{edge_line}
use Rattle.run_ends.proofs.PrintedLemmas.{cut_first, cut_second, failed, printed_then}
use Rattle.locate_command.proofs.print.print_edges.Goals as goal

pub returns-in_err-print_edge-2 : goal.returns-in_err-print_edge-2
returns-in_err-print_edge-2 g c =
    failed _ c.from_residual-in_err-print_edge-2.ensures.0
    (cut_second (edge_line (codes "X") c.args.x.low c.args.x.high) _ c.in_ok-print_edge.ensures
    (cut_first (edge_line (codes "Y") c.args.y.low c.args.y.high) _ c.in_err-print_edge-2.ensures))

pub returns : goal.returns
returns g c =
    let x = edge_line (codes "X") c.args.x.low c.args.x.high in
    let y = edge_line (codes "Y") c.args.y.low c.args.y.high in
    let z = edge_line (codes "Z") c.args.z.low c.args.z.high in
    printed_then g.K.Sink c.print_edge-3.result c.args.out.now c.print_edge.new.out c.print_edge-3.new.out x (y ++ z) c.in_ok-print_edge.ensures
    (printed_then g.K.Sink c.print_edge-3.result c.print_edge.new.out c.print_edge-2.new.out c.print_edge-3.new.out y z
    c.in_ok-print_edge-2.ensures c.print_edge-3.ensures)
