use Rattle.std.proofs.Common.{arith, ◌≡◌, ◌≤◌, ◌<◌, ◌-◌, ◌*◌, ◌^◌, length, drop, take}
use Rattle.std.proofs.lemmas.Bool.Decides.{nat_tests}
use Rattle.std.proofs.lemmas.List.{length-take, length-drop}
use Rattle.civil_time.proofs.ColumnLemmas.{scaled, decimals_length}
use Rattle.civil_time.proofs.moment.decimals_at.Goals as goal
use Rattle.civil_time.proofs.moment.decimals_at.Goals.{After-pow}

-- the digits and the zeros that they lack are nine
small : (c : After-pow) → c.number.result * c.pow.result < 1000000000
small c =
    let part = c.args.part.now in
    let long : length part ≤ 10 = decimals_length part c.requires in
    let some : 1 ≤ length part = grind (arith, nat_tests, c.if-is_empty.false, c.is_empty.ensures) in
    let count : length (take (length part - 1) (drop 1 part)) ≡ length part - 1 = omega (arith, length-take (length part - 1) (drop 1 part), length-drop 1 part) in
    let most : c.number.result < 10 ^ (length part - 1) = rw (← count) c.number.ensures.bound in
    rw c.pow.ensures (scaled c.number.result (length part - 1) (10 - length part) most (omega arith))

pub overflow_mul-result : goal.overflow_mul-result
overflow_mul-result c = omega (arith, small c)

pub returns-clause-bound : goal.returns-clause-bound
returns-clause-bound c = small c
