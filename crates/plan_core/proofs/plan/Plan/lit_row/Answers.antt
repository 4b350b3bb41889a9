use Rattle.std.proofs.Common.{rules, sym, ◌∙◌}
use Rattle.plan_core.specs.State.{row_of}
use Rattle.plan_core.proofs.ReaderLemmas.{lit_is_row, of_given}
use Rattle.plan_text.specs.Plan.{IsRow}
use Rattle.plan_core.proofs.plan.Plan.lit_row.Goals as goal

pub returns-clause-row : goal.returns-clause-row
returns-clause-row c =
    of_given (λ answer. IsRow c.args.self.now.setting.window.ticks (row_of c.args.self.now.pool answer)) c.lit.result
    (λ answer e. rw (← c.self.view_is) (lit_is_row _ c.self.invariant c.args.sat c.index.result.now (search rules) c.index.ensures answer (sym c.lit.ensures ∙ e)))
