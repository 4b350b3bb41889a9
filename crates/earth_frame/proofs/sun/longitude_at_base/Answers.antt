use Rattle.earth_frame.proofs.StartLemmas.{up_to_turns}
use Rattle.earth_frame.proofs.SunLemmas.{daily_is, kept_longitude}
use Rattle.earth_frame.proofs.sun.longitude_at_base.Goals as goal

pub returns-clause-holds : goal.returns-clause-holds
returns-clause-holds c =
    let b = c.nanos-nanos.result in
    let h = rw (kept_longitude b c.nanos-nanos.ensures.in_years) at c.half_turns.ensures.holds in
    rw (← c.nanos-nanos.ensures.value) (up_to_turns (daily_is 280460 9856474 b) h)
