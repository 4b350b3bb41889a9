-- What a run does, from the words to the written bytes: over a shelf with the meanings S and an output with the meanings K.
use Rattle.std.specs.Prelude.{◌≡◌, ◌↔◌, ◌<◌, ℕ, ℤ, List, length, Option, Some, Ok, Err}
use Rattle.catalogue.specs.Place.{most_bytes}
use Rattle.catalogue.specs.declared.fault.CatFault.{CatFault}
use Rattle.outside_io.specs.Counts.{Rose}
use Rattle.outside_io.specs.Supply.{Supply, supplied}
use Rattle.outside_io.specs.declared.shelf.Shelf.{Ghosts as Shelf}
use Rattle.outside_io.specs.declared.sink.Sink.{Ghosts as Sink}
use Rattle.pass_words.specs.Words.{words_value}
use Rattle.pass_words.specs.declared.fault.UsageFault.{UsageFault}
use Rattle.pass_words.specs.declared.fault.WindowFault.{WindowFault}
use Rattle.pass_words.specs.declared.fault.WordFault.TheVariants as faults
use Rattle.pass_words.specs.declared.request.Request.{Request}
use Rattle.run_ends.specs.Counted.{AreKept, AreLater, NoneFailed}
use Rattle.run_ends.specs.Files.{AreHeld, CatalogueIsHeld, Holds, IsComing, IsNamed, ReadsCatalogue, ReadsStations, catalogue_at}
use Rattle.station_file.specs.StationFile.{station_value}
use Rattle.station_file.specs.declared.fault.StFault.{StFault}
use Rattle.top_call.specs.Outcome.{IsCaused, IsCounted, IsDoneOrWant, IsThisOrWant, IsWritten}
use Rattle.top_call.specs.Request.{IsProductOf, files_in}
use Rattle.top_call.specs.declared.outcome.Outcome.{Outcome}
use Rattle.top_call.specs.declared.outcome.Outcome.TheVariants.{Done, Usage, BadWindow, BadCatalogue, BadStations, TooLong, WriteFault}
use Rattle.top_call.specs.declared.outcome.Product.{Product}

-- The words are refused exactly for their first fault. A product is that of the words, and certified. What was written and
-- counted is what the outcome says, and a refusal of a file has its cause. Words that name no file leave its counts as they were.
-- Yielding to want of memory alone: words that make a request, of which each file is at hand, are done where no call failed;
-- and a file that is not as it must be is refused for that where no load failed.
pub record IsRun {A B : Type 0} (S : Shelf A) (K : Sink B) (words : List (List ℕ)) (outcome : Outcome)
    (shelf shelf_after : A) (out out_after : B) : Type 0 where
  pub usage : (fault : UsageFault) → (outcome ≡ Usage fault) ↔ (words_value words ≡ Err (faults.Usage fault))
  pub window : (fault : WindowFault) → (outcome ≡ BadWindow fault) ↔ (words_value words ≡ Err (faults.Window fault))
  pub certificate : (product : Product) → outcome ≡ Done product → IsProductOf (S.held shelf) words product
  pub certificate_of_a_cut : (product : Product) → outcome ≡ WriteFault product → IsProductOf (S.held shelf) words product
  pub written : IsWritten K outcome out out_after
  pub causes : IsCaused (S.held shelf) (files_in words) outcome
  pub counts : IsCounted S outcome shelf shelf_after
  pub no_file : ((name : List ℕ) → ¬ (IsNamed (files_in words) name)) → AreKept S shelf shelf_after
  pub later : AreLater S shelf shelf_after
  pub completeness : (request : Request) → words_value words ≡ Ok request →
      NoneFailed S (files_in words) shelf shelf_after → AreHeld (S.held shelf) (files_in words) →
      ¬ (Rose (K.faults out) (K.faults out_after)) → IsDoneOrWant outcome
  pub bad_catalogues : (name : List ℕ) (instant : ℤ) (fault : CatFault) → ReadsCatalogue (files_in words) name instant →
      Holds (catalogue_at instant) (S.held shelf name) (Err fault) →
      ¬ (Rose (S.faults shelf) (S.faults shelf_after)) → IsThisOrWant (BadCatalogue fault) outcome
  pub bad_stations : (name : List ℕ) (fault : StFault) → ReadsStations (files_in words) name →
      CatalogueIsHeld (S.held shelf) (files_in words) → Holds station_value (S.held shelf name) (Err fault) →
      ¬ (Rose (S.faults shelf) (S.faults shelf_after)) → IsThisOrWant (BadStations fault) outcome
  pub long_files : (name bytes : List ℕ) → IsComing (S.held shelf) (files_in words) name →
      S.held shelf name ≡ Some bytes → most_bytes < length bytes →
      ¬ (Rose (S.faults shelf) (S.faults shelf_after)) → IsThisOrWant TooLong outcome

-- the bytes of each name on a shelf that never fails
abbrev pub held_of : Supply → List ℕ → Option (List ℕ)
held_of shelf name = Some (supplied shelf.files name)

-- A run over a shelf and an output that never fail: no premise speaks of a count.
pub record IsSafeRun (words : List (List ℕ)) (outcome : Outcome) (shelf shelf_after : Supply) : Type 0 where
  pub usage : (fault : UsageFault) → (outcome ≡ Usage fault) ↔ (words_value words ≡ Err (faults.Usage fault))
  pub window : (fault : WindowFault) → (outcome ≡ BadWindow fault) ↔ (words_value words ≡ Err (faults.Window fault))
  pub certificate : (product : Product) → outcome ≡ Done product → IsProductOf (held_of shelf) words product
  pub causes : IsCaused (held_of shelf) (files_in words) outcome
  pub completeness : (request : Request) → words_value words ≡ Ok request →
      AreHeld (held_of shelf) (files_in words) → IsDoneOrWant outcome
  pub bad_catalogues : (name : List ℕ) (instant : ℤ) (fault : CatFault) → ReadsCatalogue (files_in words) name instant →
      Holds (catalogue_at instant) (held_of shelf name) (Err fault) → IsThisOrWant (BadCatalogue fault) outcome
  pub bad_stations : (name : List ℕ) (fault : StFault) → ReadsStations (files_in words) name →
      CatalogueIsHeld (held_of shelf) (files_in words) → Holds station_value (held_of shelf name) (Err fault) →
      IsThisOrWant (BadStations fault) outcome
  pub long_files : (name : List ℕ) → IsComing (held_of shelf) (files_in words) name →
      most_bytes < length (supplied shelf.files name) → IsThisOrWant TooLong outcome
