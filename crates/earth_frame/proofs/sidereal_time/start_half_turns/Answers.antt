use Rattle.earth_frame.proofs.OffsetLemmas.{kept_base}
use Rattle.earth_frame.proofs.StartLemmas.{kept_parts, start_is, up_to_turns}
use Rattle.earth_frame.proofs.sidereal_time.start_half_turns.Goals as goal

pub returns-clause-holds : goal.returns-clause-holds
returns-clause-holds c =
    let h = rw (kept_base c.args.base c.requires, kept_parts c.args.base c.requires) at c.half_turns.ensures.holds in
    up_to_turns (start_is c.args.base) h
