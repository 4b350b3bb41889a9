-- A shelf and an output that are known by what they tell: any shelf and any output is one of these.
use Rattle.std.specs.Prelude.{ℕ, List, ⊤, Option, None, Some}
use Rattle.outside_io.specs.declared.shelf.Shelf.{Ghosts as Shelf}
use Rattle.outside_io.specs.declared.sink.Sink.{Ghosts as Sink}

-- the bytes that a shelf holds, where it tells them, and its counts
pub record Store : Type 0 where
  pub held : List ℕ → Option (List ℕ)
  pub faults : ℕ
  pub overs : ℕ

abbrev pub stores : Shelf Store
stores = record { held = λ s. s.held; allows = λ s name. ⊤; faults = λ s. s.faults; overs = λ s. s.overs }

-- the bytes of an output, where it tells them, and its count
pub record Sheet : Type 0 where
  pub written : Option (List ℕ)
  pub faults : ℕ

abbrev pub sheets : Sink Sheet
sheets = record { written = λ p. p.written; faults = λ p. p.faults }

-- a shelf that tells nothing, with these counts
abbrev pub store : ℕ → ℕ → Store
store faults overs = record { held = λ name. None; faults = faults; overs = overs }

-- an output with this count, on which this is written
abbrev pub sheet : ℕ → List ℕ → Sheet
sheet faults bytes = record { written = Some bytes; faults = faults }
