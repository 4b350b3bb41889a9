use Rattle.earth_frame.proofs.OffsetLemmas.{kept_offset}
use Rattle.sgp4_model.proofs.DayExists.{day_solution_exists}
use Rattle.orbit_sight.proofs.day_judge.DayJudge.light_on.Goals as goal

pub returns-clause-holds : goal.returns-clause-holds
returns-clause-holds c place w =
    let covers = rw (c.start.ensures.value, kept_offset c.args.self.now.dut1_ms c.args.self.now.offset) at c.light_over-light.ensures.covers in
    record { some = day_solution_exists _ _ _ _; each = λ product s. rw c.bounds.ensures (covers place product w s).covered }
