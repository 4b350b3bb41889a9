-- The pieces of a cell that was surveyed.
use Rattle.std.specs.Prelude.{ℕ, ◌≡◌, ◌+◌, ◌-◌, ◌/◌, ◌<◌, ◌≤◌, Option, None, Some, IfSome}
use Rattle.sgp4_model.specs.Certified.{TrackRecord}
use Rattle.sgp4_model.specs.declared.span.Mark.{Mark}
use Rattle.sgp4_model.specs.declared.span.Mark.TheVariants as marks
use Rattle.sgp4_model.specs.declared.span.Span.{Span}
use Rattle.span_bisect.specs.Part.{IsPart}
use Rattle.span_bisect.specs.Stack.{end_of, reach_of}
use Rattle.span_bisect.specs.declared.judge.Verdict.{Verdict}
use Rattle.span_bisect.specs.declared.judge.Verdict.TheVariants.{Yes, No, Unsure, Sinks}
use Rattle.span_bisect.specs.declared.pieces.Pieces.{Pieces}

-- the mark of a verdict that is certain
abbrev pub certain_mark_of : Verdict → Option Mark
certain_mark_of Yes = Some marks.Yes
certain_mark_of No = Some marks.No
certain_mark_of Unsure = None
certain_mark_of Sinks = None

-- the span between two ticks, with the mark of a certain verdict
pub record IsCertain (verdict : Verdict) (from to : ℕ) (part : Span) : Type 0 where
  pub begins : part.from ≡ from
  pub ends : part.to ≡ to
  pub longer : from < to
  pub mark : certain_mark_of verdict ≡ Some part.mark

-- The first part is true, and so is the part at the end of the rest. The next cell lies between the first part and the
-- rest, and is at most half as long as the whole; so is what is not known of the rest, where its end is certain.
pub record IsPieces (track : TrackRecord) (at to : ℕ) (pieces : Pieces) : Type 0 where
  pub first : IfSome pieces.first (IsPart track at)
  pub last : IfSome pieces.rest.last (IsPart track pieces.rest.to)
  pub order : (reach_of at pieces.first ≤ pieces.cut) × (pieces.cut ≤ pieces.rest.to)
  pub ends : end_of pieces.rest ≡ to
  pub progress : at < pieces.cut
  pub half : pieces.cut ≤ reach_of at pieces.first + (to - at) / 2
  pub rest : IfSome pieces.rest.last (λ _. pieces.rest.to ≤ pieces.cut + (to - at) / 2)
