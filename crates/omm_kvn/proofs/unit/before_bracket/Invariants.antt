use Rattle.std.proofs.Common.{◌≡◌, length, reverse}
use Rattle.omm_kvn.specs.Units.{before_unit}
use Rattle.omm_kvn.proofs.unit.before_bracket.Given as goal

abbrev pub invariant-loop-rest : goal.invariant-loop-rest
invariant-loop-rest l = before_unit (reverse l.rest) ≡ before_unit (reverse l.value)

abbrev pub decreases-loop-rest : goal.decreases-loop-rest
decreases-loop-rest l = length l.rest
