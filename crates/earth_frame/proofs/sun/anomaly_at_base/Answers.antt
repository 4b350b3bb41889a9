use Rattle.earth_frame.proofs.StartLemmas.{up_to_turns}
use Rattle.earth_frame.proofs.SunLemmas.{daily_is, kept_anomaly}
use Rattle.earth_frame.proofs.sun.anomaly_at_base.Goals as goal

pub returns-clause-holds : goal.returns-clause-holds
returns-clause-holds c =
    let b = c.nanos-nanos.result in
    let h = rw (kept_anomaly b c.nanos-nanos.ensures.in_years) at c.half_turns.ensures.holds in
    rw (← c.nanos-nanos.ensures.value) (up_to_turns (daily_is 357528 9856003 b) h)
