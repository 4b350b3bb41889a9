use Rattle.std.proofs.Common.{sym, subst, ◌∙◌}
use Rattle.grid_command.specs.Tally.{Fits}
use Rattle.grid_command.proofs.RowLemmas.{row_of_track}
use Rattle.grid_command.proofs.rows.tally_of_answer.Goals as goal

pub tally_of_track-requires-clause-fits : goal.tally_of_track-requires-clause-fits
tally_of_track-requires-clause-fits c =
    subst Fits (row_of_track c.args.plan.now.pool c.args.answer.now c.in-Spans.track c.in-Spans.is) c.requires.fits

pub returns-in-Spans : goal.returns-in-Spans
returns-in-Spans c = c.tally_of_track.ensures ∙ sym (row_of_track c.args.plan.now.pool c.args.answer.now c.in-Spans.track c.in-Spans.is)
