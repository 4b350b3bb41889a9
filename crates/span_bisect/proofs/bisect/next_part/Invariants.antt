use Rattle.std.proofs.Common.{◌-◌, length, None}
use Rattle.span_bisect.specs.Answer.{track_of}
use Rattle.span_bisect.specs.Stack.{IsCell, IsStack}
use Rattle.span_bisect.proofs.bisect.next_part.Given as goal

abbrev pub invariant-loop-to : goal.invariant-loop-to
invariant-loop-to g l = record {
  stack : IsStack (track_of g.J.Judge l.judge) l.to l.stack.items;
  cell : IsCell (track_of g.J.Judge l.judge) (length l.stack.items) l.at (record { to = l.to; last = None });
}

abbrev pub decreases-loop-to : goal.decreases-loop-to
decreases-loop-to g l = l.to - l.at
