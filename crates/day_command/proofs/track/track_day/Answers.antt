use Rattle.day_command.proofs.ResolvedLemmas.{day_at}
use Rattle.day_command.proofs.track.track_day.Goals as goal

pub returns-in-Ok : goal.returns-in-Ok
returns-in-Ok c = day_at c.args.lat c.args.lon c.args.window _ c.track_in.ensures.window c.track_in.ensures.certified
