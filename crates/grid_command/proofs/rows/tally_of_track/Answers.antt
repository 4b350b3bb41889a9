use Rattle.std.proofs.Common.{sym, ◌∙◌}
use Rattle.span_pool.specs.Pool.{list_of}
use Rattle.grid_command.specs.Tally.{tally_of_spans}
use Rattle.grid_command.proofs.TallyLemmas.{nothing_more, room, spans_are, step}
use Rattle.grid_command.proofs.rows.tally_of_track.Goals as goal
use Rattle.grid_command.proofs.rows.tally_of_track.Goals.{in-Some, in_default}

pub both-tally-requires : goal.both-tally-requires
both-tally-requires c =
    let list = list_of c.args.plan.now.pool c.args.track.now in
    room spans_are list c.loop-k.k c.in-Some.span (sym c.span.ensures ∙ c.in-Some.is) c.requires.fits c.loop-k.tally c.tally_of_span.result c.loop-k.invariant c.tally_of_span.ensures

pub loop-k-preserved : goal.loop-k-preserved
loop-k-preserved c =
    let list = list_of c.args.plan.now.pool c.args.track.now in
    elim c.match-span.branch [
      | in-Some w ↦
          w.tally-is ∙ w.both-tally.ensures
          ∙ step spans_are list c.loop-k.k w.in-Some.span (sym c.span.ensures ∙ w.in-Some.is) c.loop-k.tally w.tally_of_span.result c.loop-k.invariant w.tally_of_span.ensures
      | in_default w ↦ w.tally-is ∙ nothing_more tally_of_spans list c.loop-k.k c.loop-k.tally (sym c.span.ensures ∙ w.in_default.is) c.loop-k.invariant
    ]
