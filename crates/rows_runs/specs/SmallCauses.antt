-- What the outcomes say of words that name no file, of files that are empty, and of stations behind a catalogue.
use Rattle.std.specs.Prelude.{ℕ, ℤ, List, [], codes, Option, None, Some, Err, pos}
use Rattle.catalogue.specs.declared.fault.CatFault.TheVariants.{Empty, TooMany}
use Rattle.catalogue.specs.declared.fault.CatFault.TheVariants as catalogues
use Rattle.run_ends.specs.Causes.{IsBadCatalogueFile, IsBadStationFile}
use Rattle.run_ends.specs.Counted.{NoneFailed}
use Rattle.run_ends.specs.Files.{AreHeld, Files, Holds, IsNamed, ReadsCatalogue, ReadsStations, catalogue_alone, catalogue_and_stations, catalogue_at}
use Rattle.rows_runs.specs.Small.{store, stores}
use Rattle.station_file.specs.declared.fault.StFault.TheVariants as stations
use Rattle.top_call.specs.Outcome.{IsCaused}
use Rattle.top_call.specs.Request.{files_in}
use Rattle.top_call.specs.declared.outcome.Outcome.TheVariants.{BadCatalogue, BadStations, OutOfMemory, ReadFault, TooLong}

-- where there is no word no file is named, each named file was read and is at hand, and no file is refused
pub record SmallCauses : Type 0 where
  pub unnamed : (name : List ℕ) → ¬ (IsNamed (files_in []) name)
  pub unasked : (name : List ℕ) → ¬ (ReadsCatalogue (files_in []) name (pos 0))
  pub all_read : NoneFailed stores (files_in []) (store 4 7) (store 5 7)
  pub all_held : AreHeld (λ _. None) (files_in [])
  pub catalogue : ¬ (IsCaused (λ _. None) (files_in []) (BadCatalogue Empty))
  pub stations_file : ¬ (IsCaused (λ _. None) (files_in []) (BadStations stations.Empty))
  pub read : ¬ (IsCaused (λ _. None) (files_in []) ReadFault)
  pub long : ¬ (IsCaused (λ _. None) (files_in []) TooLong)
  pub memory : IsCaused (λ _. None) (files_in []) OutOfMemory

-- an empty file is no catalogue, for the one reason that it is empty, and is not too long; want of memory is no fault of a file
pub record EmptyFiles : Type 0 where
  pub held : (at : ℤ) → Holds (catalogue_at at) (Some []) (Err Empty)
  pub untold : (at : ℤ) → ¬ (Holds (catalogue_at at) None (Err Empty))
  pub other : (at : ℤ) → ¬ (IsBadCatalogueFile (Some []) at TooMany)
  pub want : (held : Option (List ℕ)) (at : ℤ) → ¬ (IsBadCatalogueFile held at catalogues.OutOfMemory)
  pub want_of_stations : (held : Option (List ℕ)) → ¬ (IsBadStationFile held stations.OutOfMemory)
  pub short : (files : Files) → ¬ (IsCaused (λ _. Some []) files TooLong)
  pub behind : (at : ℤ) → ¬ (IsCaused (λ _. Some []) (catalogue_and_stations (codes "a") at (codes "b")) (BadStations stations.Empty))
  pub alone : (at : ℤ) → ¬ (ReadsStations (catalogue_alone (codes "a") at) (codes "a"))
