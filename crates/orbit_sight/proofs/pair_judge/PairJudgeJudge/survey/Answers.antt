use Rattle.earth_frame.proofs.OffsetLemmas.{kept_offset}
use Rattle.orbit_sight.proofs.pair_judge.PairJudgeJudge.survey.Goals as goal

pub returns-then-are_slopes_of_use-clause-first_yes : goal.returns-then-are_slopes_of_use-clause-first_yes
returns-then-are_slopes_of_use-clause-first_yes c = rw (kept_offset c.args.self.now.dut1_ms c.args.self.now.offset) at c.pair_survey.ensures.first_yes

pub returns-then-are_slopes_of_use-clause-first_no : goal.returns-then-are_slopes_of_use-clause-first_no
returns-then-are_slopes_of_use-clause-first_no c = rw (kept_offset c.args.self.now.dut1_ms c.args.self.now.offset) at c.pair_survey.ensures.first_no

pub returns-then-are_slopes_of_use-clause-last_yes : goal.returns-then-are_slopes_of_use-clause-last_yes
returns-then-are_slopes_of_use-clause-last_yes c = rw (kept_offset c.args.self.now.dut1_ms c.args.self.now.offset) at c.pair_survey.ensures.last_yes

pub returns-then-are_slopes_of_use-clause-last_no : goal.returns-then-are_slopes_of_use-clause-last_no
returns-then-are_slopes_of_use-clause-last_no c = rw (kept_offset c.args.self.now.dut1_ms c.args.self.now.offset) at c.pair_survey.ensures.last_no
