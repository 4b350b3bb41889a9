use Rattle.earth_frame.proofs.OffsetLemmas.{kept_offset}
use Rattle.orbit_sight.proofs.day_judge.DayJudgeJudge.survey.Goals as goal

pub returns-then-to-from-lt-LONG-clause-first_yes : goal.returns-then-to-from-lt-LONG-clause-first_yes
returns-then-to-from-lt-LONG-clause-first_yes c = rw (c.start.ensures.value, kept_offset c.args.self.now.dut1_ms c.args.self.now.offset) at c.day_survey.ensures.first_yes

pub returns-then-to-from-lt-LONG-clause-first_no : goal.returns-then-to-from-lt-LONG-clause-first_no
returns-then-to-from-lt-LONG-clause-first_no c = rw (c.start.ensures.value, kept_offset c.args.self.now.dut1_ms c.args.self.now.offset) at c.day_survey.ensures.first_no

pub returns-then-to-from-lt-LONG-clause-last_yes : goal.returns-then-to-from-lt-LONG-clause-last_yes
returns-then-to-from-lt-LONG-clause-last_yes c = rw (c.start.ensures.value, kept_offset c.args.self.now.dut1_ms c.args.self.now.offset) at c.day_survey.ensures.last_yes

pub returns-then-to-from-lt-LONG-clause-last_no : goal.returns-then-to-from-lt-LONG-clause-last_no
returns-then-to-from-lt-LONG-clause-last_no c = rw (c.start.ensures.value, kept_offset c.args.self.now.dut1_ms c.args.self.now.offset) at c.day_survey.ensures.last_no
