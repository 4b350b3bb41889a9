use Rattle.std.proofs.Common.{◌≡◌, ◌≤◌, ◌*◌, take}
use Rattle.std.specs.List.{sum_by}
use Rattle.tle_read.specs.CheckDigit.{weight}
use Rattle.tle_read.proofs.check.sum.Given as goal

abbrev pub invariant-loop-byte : goal.invariant-loop-byte
invariant-loop-byte l = (l.sum ≡ sum_by weight (take l.byte-index l.text)) × (l.sum ≤ 9 * l.byte-index)
