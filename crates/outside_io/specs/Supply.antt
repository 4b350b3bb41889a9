-- A shelf in memory that never fails, as contracts see it.
use Rattle.std.specs.Prelude.{ℕ, List, [], Ok, Err, unwrap_or, refl}
use Rattle.std.specs.declared.result.Result.{Result}
use Rattle.std.specs.FinMap as map
use Rattle.std.specs.Coded.{Coded, code_by, coded×, coded_ℕ}
use Rattle.outside_io.specs.Counts.{one_more}
use Rattle.outside_io.specs.Folder.{Files, files_code}
use Rattle.outside_io.specs.declared.shelf.LoadFault.{LoadFault}
use Rattle.outside_io.specs.declared.shelf.LoadFault.TheVariants.{Failed, TooLong, OutOfMemory}

-- its files, and how many loads met one that was too long
pub record Supply : Type 0 where
  pub files : Files
  pub overs : ℕ

-- it is stored as the pair of its fields
abbrev pub supply_code : Coded Supply
supply_code = code_by (Files × ℕ) (coded× files_code coded_ℕ) (λ s. (s.files, s.overs)) (λ t. record { files = t.0; overs = t.1 }) (λ _. refl)

-- the bytes of a name: none where no file has it
abbrev pub supplied : Files → List ℕ → List ℕ
supplied files name = unwrap_or (map.get files name) []

-- the shelf after a load with this answer
abbrev pub supply_after : {A : Type 0} → Supply → Result A LoadFault → Supply
supply_after shelf (Ok bytes) = shelf
supply_after shelf (Err Failed) = shelf
supply_after shelf (Err TooLong) = record shelf { overs = one_more shelf.overs }
supply_after shelf (Err OutOfMemory) = shelf
