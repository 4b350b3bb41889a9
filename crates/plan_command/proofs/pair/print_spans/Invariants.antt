use Rattle.plan_text.specs.RowLines.{pair_letter, span_lines}
use Rattle.run_ends.proofs.PrintedLemmas.{IsPrintedTo}
use Rattle.span_pool.specs.Pool.{list_of}
use Rattle.plan_command.proofs.pair.print_spans.Given as goal

abbrev pub invariant-loop-k : goal.invariant-loop-k
invariant-loop-k g l = IsPrintedTo g.K.Sink (span_lines pair_letter l.plan.setting.window.start) l.initial.out l.out (list_of l.plan.pool l.track) l.k
