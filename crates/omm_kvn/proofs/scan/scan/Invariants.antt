use Rattle.std.proofs.Common.{◌≡◌, ◌≤◌, ◌+◌, length}
use Rattle.omm_kvn.specs.Entries.{entries}
use Rattle.omm_kvn.specs.Found.{places_in}
use Rattle.omm_kvn.specs.Lines.{kinds_from}
use Rattle.omm_kvn.proofs.ScanLemmas.{scan_from}
use Rattle.omm_kvn.proofs.scan.scan.Given as goal

-- what is left to read gives the answer
abbrev pub invariant-loop-end : goal.invariant-loop-end
invariant-loop-end l =
    (entries l.text ≡ scan_from l.number (places_in l.found) (kinds_from l.from l.rest))
    × (l.from + length l.rest ≡ length l.text)
    × (l.number ≤ l.from + 1)

abbrev pub decreases-loop-end : goal.decreases-loop-end
decreases-loop-end l = length l.rest
