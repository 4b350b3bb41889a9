use Rattle.std.proofs.Common.{arith, ◌<◌, ◌-◌}
use Rattle.earth_frame.proofs.OffsetLemmas.{kept_offset}
use Rattle.orbit_sight.proofs.pair_judge.PairJudgeJudge.judge.Goals as goal

pub returns-then-are_slopes_of_use-clause-yes : goal.returns-then-are_slopes_of_use-clause-yes
returns-then-are_slopes_of_use-clause-yes c is = (rw (kept_offset c.args.self.now.dut1_ms c.args.self.now.offset) at c.side_over-side.ensures.yes) (c.verdict_of.ensures.yes is)

pub returns-then-are_slopes_of_use-clause-no : goal.returns-then-are_slopes_of_use-clause-no
returns-then-are_slopes_of_use-clause-no c is = (rw (kept_offset c.args.self.now.dut1_ms c.args.self.now.offset) at c.side_over-side.ensures.no) (c.verdict_of.ensures.no is)

pub returns-then-are_slopes_of_use-clause-unsure : goal.returns-then-are_slopes_of_use-clause-unsure
returns-then-are_slopes_of_use-clause-unsure c is least =
    let longer : 1 < c.args.to - c.args.from = c.are_slopes_of_use.ensures c.if-are_slopes_of_use.true in
    absurd (omega (arith, least, longer))

pub returns-then-are_slopes_of_use-clause-sinks : goal.returns-then-are_slopes_of_use-clause-sinks
returns-then-are_slopes_of_use-clause-sinks c is = cc (c.verdict_of.ensures.sinks is).1

pub returns-clause-yes : goal.returns-clause-yes
returns-clause-yes c = rw (kept_offset c.args.self.now.dut1_ms c.args.self.now.offset) at c.verdict_over.ensures.yes

pub returns-clause-no : goal.returns-clause-no
returns-clause-no c = rw (kept_offset c.args.self.now.dut1_ms c.args.self.now.offset) at c.verdict_over.ensures.no

pub returns-clause-unsure : goal.returns-clause-unsure
returns-clause-unsure c = (rw (kept_offset c.args.self.now.dut1_ms c.args.self.now.offset) at c.verdict_over.ensures.unsure) tt

pub returns-clause-sinks : goal.returns-clause-sinks
returns-clause-sinks c = c.verdict_over.ensures.sinks tt
