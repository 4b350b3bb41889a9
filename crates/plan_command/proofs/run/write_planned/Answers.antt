use Rattle.run_ends.proofs.PrintedLemmas.{ended_written}
use Rattle.plan_command.specs.Parts.{plan_text}
use Rattle.plan_command.proofs.run.write_planned.Goals as goal

pub returns-in-Ok-clause-written : goal.returns-in-Ok-clause-written
returns-in-Ok-clause-written g c =
    rw c.ended.ensures
    (ended_written g.K.Sink plan_text c.args.plan c.print_plan-printed.result c.args.out.now c.print_plan-printed.new.out c.print_plan-printed.ensures)
