use Rattle.std.proofs.Common.{◌-◌}
use Rattle.span_pool.specs.Pool.{list_of}
use Rattle.span_bisect.specs.Answer.{track_of}
use Rattle.span_bisect.specs.Reading.{IsGrown}
use Rattle.span_bisect.specs.Stack.{IsStack}
use Rattle.span_bisect.proofs.ReadingLemmas.{IsReadTo}
use Rattle.span_bisect.proofs.bisect.read_track.Given as goal

abbrev pub invariant-loop-stack : goal.invariant-loop-stack
invariant-loop-stack g l = record {
  read : IsReadTo (track_of g.J.Judge l.judge) l.resolution (list_of l.pool l.track) l.run;
  stack : IsStack (track_of g.J.Judge l.judge) l.run.to l.stack.items;
  grown : IsGrown l.fn.pool l.pool l.track;
}

abbrev pub decreases-loop-stack : goal.decreases-loop-stack
decreases-loop-stack g l = g.J.Judge.tick_count l.judge - l.run.to
