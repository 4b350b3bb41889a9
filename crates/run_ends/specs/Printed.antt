-- What calls that print did to an output, whose meanings (what it tells of its bytes, and its count of faults) are K.
use Rattle.std.specs.Prelude.{◌≡◌, ◌≤◌, ℕ, List, Result, Ok, Err}
use Rattle.outside_io.specs.Counts.{Rose}
use Rattle.outside_io.specs.Written.{Grew, GrewByFront}
use Rattle.outside_io.specs.declared.sink.Sink.{Ghosts}
use Rattle.run_ends.specs.Refusals.{refusal_line}
use Rattle.run_ends.specs.declared.ending.Ending.{Ending}
use Rattle.run_ends.specs.declared.ending.Ending.TheVariants.{Done, WriteFault, Refused}

-- the whole text was written, and no fault was counted
pub record IsWhole {A : Type 0} (K : Ghosts A) (old new : A) (text : List ℕ) : Type 0 where
  pub grew : Grew (K.written old) (K.written new) text
  pub kept : K.faults new ≡ K.faults old

-- a front of the text was written, and a fault was counted
pub record IsCutOff {A : Type 0} (K : Ghosts A) (old new : A) (text : List ℕ) : Type 0 where
  pub front : GrewByFront (K.written old) (K.written new) text
  pub rose : Rose (K.faults old) (K.faults new)
  pub later : K.faults old ≤ K.faults new

-- by the answer of the call: the text was written whole, or cut off
abbrev pub IsPrinted : {A T E : Type 0} → Ghosts A → Result T E → A → A → List ℕ → Type 0
IsPrinted K (Ok done) old new text = IsWhole K old new text
IsPrinted K (Err failed) old new text = IsCutOff K old new text

-- a refusal was printed: its one line, or a front of it where a fault was counted
pub record IsRefused {A : Type 0} (K : Ghosts A) (old new : A) (line : List ℕ) : Type 0 where
  pub front : GrewByFront (K.written old) (K.written new) line
  pub whole : ¬ (Rose (K.faults old) (K.faults new)) → Grew (K.written old) (K.written new) line
  pub later : K.faults old ≤ K.faults new

-- what was written, by the ending: the whole layout of the product; or a front of it, where a write failed; or the one
-- line of the refusal
abbrev pub IsWritten : {A P : Type 0} → Ghosts A → (P → List ℕ) → Ending P → A → A → Type 0
IsWritten K layout (Done product) old new = IsWhole K old new (layout product)
IsWritten K layout (WriteFault product) old new = IsCutOff K old new (layout product)
IsWritten K layout (Refused refusal) old new = IsRefused K old new (refusal_line refusal)
