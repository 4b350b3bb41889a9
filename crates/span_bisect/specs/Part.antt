-- What the next verdict that is certain, or of a single tick, adds to a track.
use Rattle.std.specs.Prelude.{ℕ, ◌≡◌, ◌+◌, ◌<◌}
use Rattle.sgp4_model.specs.Time.{Somewhere}
use Rattle.sgp4_model.specs.Certified.{TrackRecord, IsTrueSpan}
use Rattle.sgp4_model.specs.declared.span.Span.{Span}

-- a true span that begins at a tick, and is a single tick long where it is undecided
pub record IsPart (track : TrackRecord) (at : ℕ) (part : Span) : Type 0 where
  pub begins : part.from ≡ at
  pub longer : at < part.to
  pub certain : IsTrueSpan track 1 part

-- or the track sinks in the tick that begins there
pub record IsSink (track : TrackRecord) (at : ℕ) : Type 0 where
  pub inside : at < track.ticks
  pub sinks : Somewhere at (at + 1) track.sinks
