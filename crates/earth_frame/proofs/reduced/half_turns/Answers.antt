use Rattle.earth_frame.proofs.HalfTurnLemmas.{holds_less_turns, taken_off, within_turn}
use Rattle.earth_frame.proofs.reduced.half_turns.Goals as goal

pub returns-clause-holds : goal.returns-clause-holds
returns-clause-holds c =
    let e = c.rem_euclid.ensures in
    let off = taken_off c.args.num c.args.den c.rem_euclid.result c.requires.positive c.requires.room c.ranges.num e.lower_bound e.upper_bound e.value in
    holds_less_turns c.args.num c.args.den c.rem_euclid.result c.from_ratio.result c.requires.positive off.is (rw (off.divisor, off.kept) at c.from_ratio.ensures)

pub returns-clause-within : goal.returns-clause-within
returns-clause-within c =
    let e = c.rem_euclid.ensures in
    let off = taken_off c.args.num c.args.den c.rem_euclid.result c.requires.positive c.requires.room c.ranges.num e.lower_bound e.upper_bound e.value in
    within_turn c.args.den c.rem_euclid.result c.from_ratio.result c.requires.positive off.low off.high (rw (off.divisor, off.kept) at c.from_ratio.ensures)
