use Rattle.std.proofs.Common.{arith, ap, sym, ◌∙◌, ◌+◌, true, false}
use Rattle.plan_core.specs.State.{plan_record, satellite_of}
use Rattle.grid_command.proofs.RowLemmas.{is_refused_at, refused_more, there}
use Rattle.grid_command.proofs.counts.refused_of.Goals as goal
use Rattle.grid_command.proofs.counts.refused_of.Goals.{then-is_some, else-is_some}

pub loop-sat-preserved : goal.loop-sat-preserved
loop-sat-preserved c =
    let plan = c.args.plan.now in
    let found = there plan c.loop-sat.sat (omega (arith, c.sats-sat-end.ensures.value, c.loop-sat-test.true)) in
    let asked = is_refused_at plan c.loop-sat.sat found.satellite c.sat.result.now found.state c.sat.ensures.value in
    elim c.if-is_some.branch [
      | then-is_some w ↦
          let more = refused_more (plan_record plan).satellites c.loop-sat.sat (satellite_of plan.pool found.satellite) true found.plain (asked ∙ sym c.is_some.ensures ∙ w.if-is_some.true) in
          w.count-is ∙ ap (λ n. n + 1) c.loop-sat.invariant ∙ sym more
      | else-is_some w ↦
          let more = refused_more (plan_record plan).satellites c.loop-sat.sat (satellite_of plan.pool found.satellite) false found.plain (asked ∙ sym c.is_some.ensures ∙ w.if-is_some.false) in
          w.count-is ∙ c.loop-sat.invariant ∙ omega (arith, more)
    ]
