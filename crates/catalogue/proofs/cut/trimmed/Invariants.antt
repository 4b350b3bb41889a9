use Rattle.std.proofs.Common.{◌≡◌, ◌≤◌, length, reverse}
use Rattle.tle_read.specs.Columns.{is_blank, skip_while}
use Rattle.catalogue.proofs.cut.trimmed.Given as goal

abbrev pub invariant-loop-line : goal.invariant-loop-line
invariant-loop-line l =
    (skip_while is_blank (reverse l.line) ≡ skip_while is_blank (reverse l.fn.line)) × (length l.line ≤ length l.fn.line)

abbrev pub decreases-loop-line : goal.decreases-loop-line
decreases-loop-line l = length l.line
