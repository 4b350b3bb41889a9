use Rattle.std.proofs.Common.{◌-◌, ◌+◌, ◌*◌, ◌<◌, ◌≤◌}
use Rattle.root_enc.proofs.whole.bisected_cube_root.Given as goal

-- the root is at least the one bound and below the other
abbrev pub invariant-loop-under : goal.invariant-loop-under
invariant-loop-under l = record {
  under : l.under * l.under * l.under ≤ l.high * 18446744073709551616 + l.low;
  over : l.high * 18446744073709551616 + l.low < l.over * l.over * l.over;
  apart : l.under < l.over;
  size : l.over ≤ 576460752303423488;
}

abbrev pub decreases-loop-under : goal.decreases-loop-under
decreases-loop-under l = l.over - l.under
