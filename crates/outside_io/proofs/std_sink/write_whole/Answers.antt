use Rattle.std.proofs.Common.{[], ◌++◌, take}
use Rattle.outside_io.proofs.Puts.{grew_then}
use Rattle.outside_io.proofs.WriteLemmas.{grew-Appends, grew-Keeps, front_so_far, grew_then_nothing, rest_after}
use Rattle.outside_io.proofs.std_sink.write_whole.Goals as goal

pub loop-rest-preserved : goal.loop-rest-preserved
loop-rest-preserved g c =
    let done = c.loop-rest.invariant in
    let bytes = take c.in-Ok.count c.loop-rest.rest.now in
    (done.0 ++ bytes, rest_after _ done.0 c.loop-rest.rest.now c.in-Ok.count done.1, grew_then _ _ _ done.0 bytes done.2 (grew-Appends _ _ bytes c.in-Ok.ensures.bytes))

pub returns-in-Ok-eq0-clause-part : goal.returns-in-Ok-eq0-clause-part
returns-in-Ok-eq0-clause-part g c =
    let done = c.loop-rest.invariant in
    front_so_far _ _ _ done.0 c.loop-rest.rest.now done.1 (grew_then_nothing _ _ _ done.0 done.2 (grew-Appends _ _ [] (rw c.in-Ok-eq0.field-0-test at c.in-Ok-eq0.ensures.bytes)))

pub returns-in-Err-clause-part : goal.returns-in-Err-clause-part
returns-in-Err-clause-part g c =
    let done = c.loop-rest.invariant in
    front_so_far _ _ _ done.0 c.loop-rest.rest.now done.1 (grew_then_nothing _ _ _ done.0 done.2 (grew-Keeps _ _ c.in-Err.ensures.bytes))
