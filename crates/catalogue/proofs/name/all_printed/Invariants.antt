use Rattle.std.proofs.Common.{◌≡◌, map, take}
use Rattle.catalogue.specs.Names.{printed}
use Rattle.catalogue.proofs.name.all_printed.Given as goal

abbrev pub invariant-loop-byte : goal.invariant-loop-byte
invariant-loop-byte l = l.bytes.items ≡ map printed (take l.byte-index l.text)
