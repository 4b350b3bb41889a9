use Rattle.std.proofs.Common.{◌≤◌, ◌+◌, length, arith}
use Rattle.std.proofs.lemmas.Grind.{common_steps}
use Rattle.outside_io.proofs.ReadLemmas.{takes_then}
use Rattle.outside_io.proofs.file_shelf.read_within.Goals as goal
use Rattle.outside_io.proofs.file_shelf.read_within.Goals.{then-left-lt4096, else-left-lt4096}

pub returns-then-count-left-clause-taken : goal.returns-then-count-left-clause-taken
returns-then-count-left-clause-taken g c =
    let bound : length c.loop-wanted.bytes.items + c.in-Ok.count ≤ c.args.room + 1 = grind (arith, common_steps) in
    takes_then _ _ _ _ _ c.in-Ok.count _ c.loop-wanted.invariant.1 c.in-Ok.ensures.bytes.0 bound

pub returns-then-is_err-clause-taken : goal.returns-then-is_err-clause-taken
returns-then-is_err-clause-taken g c =
    let bound : length c.loop-wanted.bytes.items + c.in-Ok.count ≤ c.args.room + 1 = grind (arith, common_steps) in
    takes_then _ _ _ _ _ c.in-Ok.count _ c.loop-wanted.invariant.1 c.in-Ok.ensures.bytes.0 bound
