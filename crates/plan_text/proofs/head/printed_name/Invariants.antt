use Rattle.std.proofs.Common.{◌≡◌, ◌++◌, map, take}
use Rattle.catalogue.specs.Names.{printed}
use Rattle.plan_text.proofs.head.printed_name.Given as goal

-- the name so far is appended
abbrev pub invariant-loop-byte : goal.invariant-loop-byte
invariant-loop-byte l = l.line ≡ l.initial.line ++ map printed (take l.byte-index l.name)
