-- The stack of a bisection: the cells that are left to read, the next one last.
use Rattle.std.specs.Prelude.{ℕ, suc, ◌≡◌, ◌-◌, ◌*◌, ◌^◌, ◌<◌, ◌≤◌, List, [], ◌∷◌, ◌++◌, Option, None, Some, IfSome}
use Rattle.sgp4_model.specs.Certified.{TrackRecord}
use Rattle.sgp4_model.specs.declared.span.Span.{Span}
use Rattle.span_bisect.specs.Part.{IsPart}
use Rattle.span_bisect.specs.declared.stack.Cell.{Cell}

-- the end of a part, or, where there is none, the tick at which it would begin
abbrev pub reach_of : ℕ → Option Span → ℕ
reach_of tick None = tick
reach_of tick (Some part) = part.to

-- the end of a cell
abbrev pub end_of : Cell → ℕ
end_of cell = reach_of cell.to cell.last

-- how often a cell was cut, of those on the stack at the k-th place: once more where its end is certain
abbrev pub cuts_of : ℕ → Option Span → ℕ
cuts_of k None = k
cuts_of k (Some _) = suc k

-- The k-th cell of a stack, counted from 0, is not empty, and what is certain of it is true. Each cut left at most half of
-- what was not known, so this is at most the 2^cuts-th part of 2^34 ticks long.
pub record IsCell (track : TrackRecord) (k from : ℕ) (cell : Cell) : Type 0 where
  pub order : from ≤ cell.to
  pub longer : from < end_of cell
  pub width : (cell.to - from) * 2 ^ cuts_of k cell.last ≤ 2 ^ 34
  pub last : IfSome cell.last (IsPart track cell.to)

-- the cells, the k-th one first, lead from a tick back to another: each begins where the one after it ends
abbrev pub LeadBack : TrackRecord → ℕ → ℕ → List Cell → ℕ → Type 0
LeadBack track k to [] at = to ≡ at
LeadBack track k to (cell ∷ rest) at =
    (end_of cell ≡ to) × ((from : ℕ) × (IsCell track k from cell × LeadBack track (suc k) from rest at))

-- the cells lead from the end of the track back to a tick
abbrev pub IsStack : TrackRecord → ℕ → List Cell → Type 0
IsStack track at cells = LeadBack track 0 track.ticks cells at

-- a cell that begins at a tick was put on the stack, if it is not empty
pub record IsPut (from : ℕ) (cell : Cell) (old new : List Cell) : Type 0 where
  pub more : from < end_of cell → new ≡ old ++ cell ∷ []
  pub same : end_of cell ≤ from → new ≡ old
