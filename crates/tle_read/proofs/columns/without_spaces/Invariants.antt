use Rattle.std.proofs.Common.{◌≡◌, ◌≤◌, length}
use Rattle.tle_read.specs.Columns.{is_space, skip_while}
use Rattle.tle_read.proofs.columns.without_spaces.Given as goal

abbrev pub invariant-loop-text : goal.invariant-loop-text
invariant-loop-text l = (skip_while is_space l.text ≡ skip_while is_space l.fn.text) × (length l.text ≤ length l.fn.text)

abbrev pub decreases-loop-text : goal.decreases-loop-text
decreases-loop-text l = length l.text
