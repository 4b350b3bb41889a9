use Rattle.run_ends.proofs.PrintedLemmas.{ended_written}
use Rattle.locate_command.specs.Located.{locate_text}
use Rattle.locate_command.proofs.run.write_located.Goals as goal

pub returns-in-Ok-clause-written : goal.returns-in-Ok-clause-written
returns-in-Ok-clause-written g c =
    rw c.ended.ensures
    (ended_written g.K.Sink locate_text c.in-Ok.answer c.print_located-printed.result c.args.out.now c.print_located-printed.new.out c.print_located-printed.ensures)
