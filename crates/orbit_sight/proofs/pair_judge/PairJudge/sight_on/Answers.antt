use Rattle.earth_frame.proofs.OffsetLemmas.{kept_offset}
use Rattle.orbit_sight.proofs.pair_judge.PairJudge.sight_on.Goals as goal

pub returns-clause-holds : goal.returns-clause-holds
returns-clause-holds c = rw (kept_offset c.args.self.now.dut1_ms c.args.self.now.offset) at c.sight_at.ensures.holds
