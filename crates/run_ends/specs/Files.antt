-- The files that a command reads, and what is known of their bytes.
use Rattle.std.specs.Prelude.{◌≡◌, ◌≤◌, ◌<◌, ◌⊎◌, ℕ, ℤ, List, length, Option, Some, Result, Ok}
use Rattle.catalogue.specs.Choice.{chosen}
use Rattle.catalogue.specs.Place.{most_bytes}
use Rattle.catalogue.specs.declared.entry.Entry.{Entry}
use Rattle.catalogue.specs.declared.fault.CatFault.{CatFault}
use Rattle.outside_io.specs.Held.{IsTold}
use Rattle.station_file.specs.StationFile.{station_value}
use Rattle.station_file.specs.Rows.{StationsRecord}

-- the names of the files: of none; of a catalogue, with the instant that the chosen sets are nearest to; of such a
-- catalogue and of stations
pub data Files : Type 0 where
  no_file : Files
  catalogue_alone : List ℕ → ℤ → Files
  catalogue_and_stations : List ℕ → ℤ → List ℕ → Files

-- the catalogue is the file of this name, and its sets are chosen for this instant
abbrev pub ReadsCatalogue : Files → List ℕ → ℤ → Type 0
ReadsCatalogue no_file name instant = ⊥
ReadsCatalogue (catalogue_alone file at) name instant = (name ≡ file) × (instant ≡ at)
ReadsCatalogue (catalogue_and_stations file at other) name instant = (name ≡ file) × (instant ≡ at)

-- the stations are the file of this name
abbrev pub ReadsStations : Files → List ℕ → Type 0
ReadsStations no_file name = ⊥
ReadsStations (catalogue_alone file at) name = ⊥
ReadsStations (catalogue_and_stations file at other) name = name ≡ other

-- a file of this name is read
abbrev pub IsNamed : Files → List ℕ → Type 0
IsNamed files name = ((instant : ℤ) × ReadsCatalogue files name instant) ⊎ ReadsStations files name

-- the satellites of a text, by their sets that are nearest to an instant; or the text's first fault
abbrev pub catalogue_at : ℤ → List ℕ → Result (List Entry) CatFault
catalogue_at instant bytes = chosen bytes instant

-- the stations of a file, with their offset
abbrev pub StationList : Type 0
StationList = StationsRecord

-- a file of at most 16 MiB, with these held bytes where they are told, was read as this answer
pub record IsAnswerOf {A E : Type 0} (reader : List ℕ → Result A E) (held : Option (List ℕ)) (answer : Result A E) : Type 0 where
  pub bytes : List ℕ
  pub told : IsTold held bytes
  pub fits : length bytes ≤ most_bytes
  pub gives : reader bytes ≡ answer

-- the held bytes are told, are at most 16 MiB, and are read as this answer
pub record Holds {A E : Type 0} (reader : List ℕ → Result A E) (held : Option (List ℕ)) (answer : Result A E) : Type 0 where
  pub bytes : List ℕ
  pub told : held ≡ Some bytes
  pub fits : length bytes ≤ most_bytes
  pub gives : reader bytes ≡ answer

-- the catalogue, if one is read, was read and is one
abbrev pub CatalogueIsRead : (List ℕ → Option (List ℕ)) → Files → Type 0
CatalogueIsRead held files =
    (name : List ℕ) (instant : ℤ) → ReadsCatalogue files name instant →
    (sets : List Entry) × IsAnswerOf (catalogue_at instant) (held name) (Ok sets)

-- the files were read, and are a catalogue and stations
pub record AreRead (held : List ℕ → Option (List ℕ)) (files : Files) : Type 0 where
  pub catalogue : CatalogueIsRead held files
  pub stations : (name : List ℕ) → ReadsStations files name → (list : StationList) × IsAnswerOf station_value (held name) (Ok list)

-- the catalogue, if one is read, is at hand: its held bytes are told, are at most 16 MiB, and are a catalogue
abbrev pub CatalogueIsHeld : (List ℕ → Option (List ℕ)) → Files → Type 0
CatalogueIsHeld held files =
    (name : List ℕ) (instant : ℤ) → ReadsCatalogue files name instant →
    (sets : List Entry) × Holds (catalogue_at instant) (held name) (Ok sets)

-- the files are at hand, as a catalogue and stations
pub record AreHeld (held : List ℕ → Option (List ℕ)) (files : Files) : Type 0 where
  pub catalogue : CatalogueIsHeld held files
  pub stations : (name : List ℕ) → ReadsStations files name → (list : StationList) × Holds station_value (held name) (Ok list)

-- the load of the file comes, whatever its bytes are: it is the catalogue, or the stations behind a catalogue at hand
abbrev pub IsComing : (List ℕ → Option (List ℕ)) → Files → List ℕ → Type 0
IsComing held files name =
    ((instant : ℤ) × ReadsCatalogue files name instant) ⊎ (ReadsStations files name × CatalogueIsHeld held files)
