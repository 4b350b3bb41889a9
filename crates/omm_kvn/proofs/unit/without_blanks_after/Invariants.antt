use Rattle.std.proofs.Common.{◌≡◌, length, reverse}
use Rattle.omm_kvn.specs.Pieces.{is_blank, skip_while}
use Rattle.omm_kvn.proofs.unit.without_blanks_after.Given as goal

abbrev pub invariant-loop-value : goal.invariant-loop-value
invariant-loop-value l = skip_while is_blank (reverse l.value) ≡ skip_while is_blank (reverse l.fn.value)

abbrev pub decreases-loop-value : goal.decreases-loop-value
decreases-loop-value l = length l.value
