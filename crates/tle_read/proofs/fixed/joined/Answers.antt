use Rattle.std.proofs.Common.{length, arith, sym, ◌∙◌, ap}
use Rattle.std.specs.Str.Parse.{digits_value_after}
use Rattle.tle_read.proofs.NumberLemmas.{joined_room, value_after}
use Rattle.tle_read.proofs.fixed.joined.Goals as goal

pub number_after-requires-clause-fits : goal.number_after-requires-clause-fits
number_after-requires-clause-fits c =
    let room = joined_room _ _ (length c.args.fraction.now) c.number.ensures.bound c.requires.few in
    omega arith

pub returns-clause-value : goal.returns-clause-value
returns-clause-value c =
    c.number_after.ensures.value ∙ ap (λ t. digits_value_after 10 t c.args.fraction.now) c.number.ensures.value ∙ sym (value_after 0 c.args.whole.now c.args.fraction.now)

pub returns-clause-bound : goal.returns-clause-bound
returns-clause-bound c =
    let room = joined_room _ _ (length c.args.fraction.now) c.number.ensures.bound c.requires.few in
    omega (arith, c.number_after.ensures.bound)
