use Rattle.std.proofs.Common.{arith, ◌≤◌}
use Rattle.earth_frame.proofs.OffsetLemmas.{kept_offset}
use Rattle.fixed_iv.specs.Extent.{width_of}
use Rattle.fixed_iv.specs.Holds.{IsBounded}
use Rattle.sgp4_model.proofs.DayExists.{day_solution_exists}
use Rattle.sun_shade.proofs.JudgedLemmas.{above_0, below_0}
use Rattle.orbit_sight.proofs.DayLemmas.{grazing}
use Rattle.orbit_sight.proofs.day_judge.DayJudgeJudge.judge.Goals as goal

pub returns-clause-yes : goal.returns-clause-yes
returns-clause-yes c is place w =
    let covers = rw (c.start.ensures.value, kept_offset c.args.self.now.dut1_ms c.args.self.now.offset) at c.light_over-light.ensures.covers in
    record {
      some = day_solution_exists _ _ _ _;
      each = λ product s. above_0 {v = c.bounds.result} (c.judge_light.ensures.yes (cc (c.verdict_of.ensures.yes is))) (rw c.bounds.ensures (covers place product w s).covered);
    }

pub returns-clause-no : goal.returns-clause-no
returns-clause-no c is place w =
    let covers = rw (c.start.ensures.value, kept_offset c.args.self.now.dut1_ms c.args.self.now.offset) at c.light_over-light.ensures.covers in
    record {
      some = day_solution_exists _ _ _ _;
      each = λ product s. below_0 {v = c.bounds.result} (c.judge_light.ensures.no (cc (c.verdict_of.ensures.no is))) (rw c.bounds.ensures (covers place product w s).covered);
    }

pub returns-clause-unsure : goal.returns-clause-unsure
returns-clause-unsure c is least place w =
    let covers = rw (c.start.ensures.value, kept_offset c.args.self.now.dut1_ms c.args.self.now.offset) at c.light_over-light.ensures.covers in
    let narrow = c.light_over-light.ensures.narrow tt least in
    let around = c.judge_light.ensures.unsure (c.verdict_of.ensures.unsure is).0 in
    let bounded : IsBounded c.bounds.result = rw c.bounds.ensures narrow.measured.bounded in
    let width : width_of c.bounds.result ≤ 33554432 = rw c.bounds.ensures (omega (arith, narrow.spread)) in
    record {
      some = day_solution_exists _ _ _ _;
      each = λ product s. grazing bounded width around.0 around.1 (rw c.bounds.ensures (covers place product w s).covered);
    }
