use Rattle.run_ends.proofs.PrintedLemmas.{ended_written}
use Rattle.grid_command.specs.Counted.{grid_text}
use Rattle.grid_command.proofs.run.run_grid.Goals as goal

pub returns-in-Ok-clause-written : goal.returns-in-Ok-clause-written
returns-in-Ok-clause-written g c =
    rw c.ended.ensures
    (ended_written g.K.Sink grid_text c.in-Ok.counted c.print_grid-printed.result c.args.out.now c.print_grid-printed.new.out (rw c.summary.ensures.value at c.print_grid-printed.ensures))
