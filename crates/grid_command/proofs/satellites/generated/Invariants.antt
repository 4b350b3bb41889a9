use Rattle.std.proofs.Common.{◌≡◌}
use Rattle.grid_command.specs.Generated.{satellites}
use Rattle.grid_command.proofs.satellites.generated.Given as goal

-- the satellites so far
abbrev pub invariant-loop-k : goal.invariant-loop-k
invariant-loop-k l = l.catalogue ≡ satellites l.k
