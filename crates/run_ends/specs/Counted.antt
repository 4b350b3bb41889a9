-- What calls did to a shelf, whose meanings (the bytes that it holds, the names that it allows, and its counts) are S.
use Rattle.std.specs.Prelude.{◌≡◌, ◌≤◌, ◌↔◌, ℕ, List, Result, Ok, Err}
use Rattle.outside_io.specs.Counts.{IsKept, Rose, RoseAlone}
use Rattle.outside_io.specs.declared.shelf.Shelf.{Ghosts}
use Rattle.run_ends.specs.Files.{Files, IsNamed}
use Rattle.run_ends.specs.declared.ending.Ending.{Ending}
use Rattle.run_ends.specs.declared.ending.Ending.TheVariants.{Done, WriteFault, Refused}
use Rattle.run_ends.specs.declared.refusal.Refusal.{Refusal}
use Rattle.run_ends.specs.declared.refusal.Refusal.TheVariants.{BadCatalogue, BadStations, Unread, TooLong, OutOfMemory}

module _ {A : Type 0} (S : Ghosts A) where
  -- both counts are as they were
  abbrev pub AreKept : A → A → Type 0
  AreKept old new = IsKept (S.faults old) (S.faults new) (S.overs old) (S.overs new)

  -- the count of loads that failed rose, and no other
  abbrev pub FaultsRose : A → A → Type 0
  FaultsRose old new = RoseAlone (S.faults old) (S.faults new) (S.overs old) (S.overs new)

  -- the count of files that were too long rose, and no other
  abbrev pub OversRose : A → A → Type 0
  OversRose old new = RoseAlone (S.overs old) (S.overs new) (S.faults old) (S.faults new)

  -- the counts did not fall
  pub record AreLater (old new : A) : Type 0 where
    pub faults : S.faults old ≤ S.faults new
    pub overs : S.overs old ≤ S.overs new

  -- the shelf holds and allows what it did
  pub record IsSameShelf (old new : A) : Type 0 where
    pub held : (name : List ℕ) → S.held new name ≡ S.held old name
    pub allows : (name : List ℕ) → S.allows new name ↔ S.allows old name

  -- the shelf allows the files
  abbrev pub AreAllowed : A → Files → Type 0
  AreAllowed shelf files = (name : List ℕ) → IsNamed files name → S.allows shelf name

  -- no load of a file failed
  abbrev pub NoneFailed : Files → A → A → Type 0
  NoneFailed files old new = (name : List ℕ) → IsNamed files name → ¬ (Rose (S.faults old) (S.faults new))

  -- the counts by the refusal: that of faults alone rose where a file was not read, and that of long files alone where
  -- one was too long; else both are as they were
  abbrev pub IsRefusalCounted : Refusal → A → A → Type 0
  IsRefusalCounted (BadCatalogue fault) old new = AreKept old new
  IsRefusalCounted (BadStations fault) old new = AreKept old new
  IsRefusalCounted Unread old new = FaultsRose old new
  IsRefusalCounted TooLong old new = OversRose old new
  IsRefusalCounted OutOfMemory old new = AreKept old new

  -- the counts by the answer of a load
  abbrev pub IsLoadCounted : {T : Type 0} → Result T Refusal → A → A → Type 0
  IsLoadCounted (Ok value) old new = AreKept old new
  IsLoadCounted (Err refusal) old new = IsRefusalCounted refusal old new

  -- the counts by the ending of a command
  abbrev pub IsCounted : {P : Type 0} → Ending P → A → A → Type 0
  IsCounted (Done product) old new = AreKept old new
  IsCounted (WriteFault product) old new = AreKept old new
  IsCounted (Refused refusal) old new = IsRefusalCounted refusal old new
