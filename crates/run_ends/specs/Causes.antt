-- Where the endings of a command come from.
use Rattle.std.specs.Prelude.{◌≢◌, ◌⊎◌, ℕ, ℤ, List, ⊤, Option, Result, Err}
use Rattle.catalogue.specs.Place.{most_bytes}
use Rattle.catalogue.specs.declared.fault.CatFault.{CatFault}
use Rattle.catalogue.specs.declared.fault.CatFault.TheVariants as catalogues
use Rattle.outside_io.specs.Held.{IsLonger}
use Rattle.run_ends.specs.Files.{AreRead, CatalogueIsRead, Files, IsAnswerOf, ReadsCatalogue, ReadsStations, catalogue_at}
use Rattle.run_ends.specs.declared.ending.Ending.{Ending}
use Rattle.run_ends.specs.declared.ending.Ending.TheVariants.{Done, WriteFault, Refused}
use Rattle.run_ends.specs.declared.refusal.Refusal.{Refusal}
use Rattle.run_ends.specs.declared.refusal.Refusal.TheVariants.{BadCatalogue, BadStations, Unread, TooLong, OutOfMemory}
use Rattle.station_file.specs.StationFile.{station_value}
use Rattle.station_file.specs.declared.fault.StFault.{StFault}
use Rattle.station_file.specs.declared.fault.StFault.TheVariants as stations

-- a file was read as this fault, which is not want of memory
pub record IsBadCatalogueFile (held : Option (List ℕ)) (instant : ℤ) (fault : CatFault) : Type 0 where
  pub answer : IsAnswerOf (catalogue_at instant) held (Err fault)
  pub other : fault ≢ catalogues.OutOfMemory

pub record IsBadStationFile (held : Option (List ℕ)) (fault : StFault) : Type 0 where
  pub answer : IsAnswerOf station_value held (Err fault)
  pub other : fault ≢ stations.OutOfMemory

-- where a refusal for the file of a catalogue comes from
abbrev pub IsCatalogueRefusal : Option (List ℕ) → ℤ → Refusal → Type 0
IsCatalogueRefusal held instant (BadCatalogue fault) = IsBadCatalogueFile held instant fault
IsCatalogueRefusal held instant (BadStations fault) = ⊥
IsCatalogueRefusal held instant Unread = ⊤
IsCatalogueRefusal held instant TooLong = IsLonger held most_bytes
IsCatalogueRefusal held instant OutOfMemory = ⊤

-- where a refusal for the file of stations comes from
abbrev pub IsStationRefusal : Option (List ℕ) → Refusal → Type 0
IsStationRefusal held (BadCatalogue fault) = ⊥
IsStationRefusal held (BadStations fault) = IsBadStationFile held fault
IsStationRefusal held Unread = ⊤
IsStationRefusal held TooLong = IsLonger held most_bytes
IsStationRefusal held OutOfMemory = ⊤

-- the catalogue of the command is none, for this reason
pub record IsBadCatalogue (held : List ℕ → Option (List ℕ)) (files : Files) (fault : CatFault) : Type 0 where
  pub name : List ℕ
  pub instant : ℤ
  pub reads : ReadsCatalogue files name instant
  pub bad : IsBadCatalogueFile (held name) instant fault

-- the catalogue of the command is one, and its stations are none, for this reason
pub record IsBadStations (held : List ℕ → Option (List ℕ)) (files : Files) (fault : StFault) : Type 0 where
  pub name : List ℕ
  pub reads : ReadsStations files name
  pub before : CatalogueIsRead held files
  pub bad : IsBadStationFile (held name) fault

-- the load of the file came: as that of the catalogue, or as that of the stations behind a catalogue that was read
abbrev pub Came : (List ℕ → Option (List ℕ)) → Files → List ℕ → Type 0
Came held files name =
    ((instant : ℤ) × ReadsCatalogue files name instant) ⊎ (ReadsStations files name × CatalogueIsRead held files)

-- a file whose load came is longer than 16 MiB, where its bytes are told
pub record IsTooLong (held : List ℕ → Option (List ℕ)) (files : Files) : Type 0 where
  pub name : List ℕ
  pub came : Came held files name
  pub longer : IsLonger (held name) most_bytes

-- where a refusal comes from
abbrev pub IsRefusalCaused : (List ℕ → Option (List ℕ)) → Files → Refusal → Type 0
IsRefusalCaused held files (BadCatalogue fault) = IsBadCatalogue held files fault
IsRefusalCaused held files (BadStations fault) = IsBadStations held files fault
IsRefusalCaused held files Unread = (name : List ℕ) × Came held files name
IsRefusalCaused held files TooLong = IsTooLong held files
IsRefusalCaused held files OutOfMemory = ⊤

-- where an ending comes from: a product only where all files were read
abbrev pub IsCaused : {P : Type 0} → (List ℕ → Option (List ℕ)) → Files → Ending P → Type 0
IsCaused held files (Done product) = AreRead held files
IsCaused held files (WriteFault product) = AreRead held files
IsCaused held files (Refused refusal) = IsRefusalCaused held files refusal
