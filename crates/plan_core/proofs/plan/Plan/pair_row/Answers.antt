use Rattle.std.proofs.Common.{rules, sym, ◌∙◌}
use Rattle.plan_core.specs.State.{row_of}
use Rattle.plan_core.proofs.ReaderLemmas.{of_given, pair_is_row}
use Rattle.plan_text.specs.Plan.{IsRow}
use Rattle.plan_core.proofs.plan.Plan.pair_row.Goals as goal

pub returns-clause-row : goal.returns-clause-row
returns-clause-row c =
    of_given (λ answer. IsRow c.args.self.now.setting.window.ticks (row_of c.args.self.now.pool answer)) c.pair.result
    (λ answer e. rw (← c.self.view_is) (pair_is_row _ c.self.invariant c.args.sat c.index.result.now (search rules) c.index.ensures c.args.station answer (sym c.pair.ensures ∙ e)))
