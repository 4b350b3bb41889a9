use Rattle.std.proofs.Common.{arith, sym, subst, ◌∙◌}
use Rattle.std.proofs.lemmas.List.{length-map}
use Rattle.plan_core.specs.State.{plan_record, satellite_of}
use Rattle.grid_command.specs.Tally.{Fits}
use Rattle.grid_command.proofs.FitLemmas.{satellites_are, tally_of_satellites}
use Rattle.grid_command.proofs.RowLemmas.{rows_of, there}
use Rattle.grid_command.proofs.TallyLemmas.{part, room, step, whole}
use Rattle.grid_command.proofs.rows.tally_of_plan.Goals as goal

pub tally_of_satellite-requires-clause-fits : goal.tally_of_satellite-requires-clause-fits
tally_of_satellite-requires-clause-fits c =
    let plan = c.args.plan.now in
    let found = there plan c.loop-sat.sat (omega (arith, c.sats-sat-end.ensures.value, c.loop-sat-test.true)) in
    subst Fits (sym (rows_of plan c.loop-sat.sat found.satellite found.state))
    (part satellites_are (plan_record plan).satellites c.loop-sat.sat (satellite_of plan.pool found.satellite) found.plain c.requires)

pub both-tally-requires : goal.both-tally-requires
both-tally-requires c =
    let plan = c.args.plan.now in
    let found = there plan c.loop-sat.sat (omega (arith, c.sats-sat-end.ensures.value, c.loop-sat-test.true)) in
    room satellites_are (plan_record plan).satellites c.loop-sat.sat (satellite_of plan.pool found.satellite) found.plain c.requires
    c.loop-sat.tally c.tally_of_satellite.result c.loop-sat.invariant (c.tally_of_satellite.ensures ∙ rows_of plan c.loop-sat.sat found.satellite found.state)

pub loop-sat-preserved : goal.loop-sat-preserved
loop-sat-preserved c =
    let plan = c.args.plan.now in
    let found = there plan c.loop-sat.sat (omega (arith, c.sats-sat-end.ensures.value, c.loop-sat-test.true)) in
    c.both-tally.ensures
    ∙ step satellites_are (plan_record plan).satellites c.loop-sat.sat (satellite_of plan.pool found.satellite) found.plain
    c.loop-sat.tally c.tally_of_satellite.result c.loop-sat.invariant (c.tally_of_satellite.ensures ∙ rows_of plan c.loop-sat.sat found.satellite found.state)

pub returns : goal.returns
returns c =
    let plan = c.args.plan.now in
    whole tally_of_satellites (plan_record plan).satellites c.loop-sat.sat c.loop-sat.tally
    (omega (arith, length-map plan.satellites (satellite_of plan.pool), c.sats-sat-end.ensures.value, c.loop-sat-test.false)) c.loop-sat.invariant
