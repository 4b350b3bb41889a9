-- From what the parts of a command did to what the command did.
use Rattle.std.proofs.Common.{◌≡◌, arith, ℕ, ◌≤◌, List, Option, Result, Ok, Err, sym, subst, ap, ◌∙◌, refl, inl, inr}
use Rattle.std.specs.Prelude.{ℤ}
use Rattle.catalogue.specs.declared.entry.Entry.{Entry}
use Rattle.outside_io.specs.declared.shelf.Shelf.{Ghosts as Shelf}
use Rattle.outside_io.specs.declared.sink.Sink.{Ghosts as Sink}
use Rattle.run_ends.specs.Causes.{IsCatalogueRefusal, IsRefusalCaused, IsStationRefusal}
use Rattle.run_ends.specs.Counted.{AreKept, AreLater, IsRefusalCounted, IsSameShelf}
use Rattle.run_ends.specs.Endings.{IsForMemory, WithProduct, ended}
use Rattle.run_ends.specs.Files.{AreRead, CatalogueIsRead, Files, IsAnswerOf, ReadsCatalogue, ReadsStations, StationList, catalogue_alone, catalogue_and_stations, catalogue_at, no_file}
use Rattle.run_ends.specs.Printed.{IsPrinted, IsRefused, IsWritten}
use Rattle.run_ends.specs.Refusals.{refusal_line}
use Rattle.run_ends.specs.Runs.{Command, IsRunOf}
use Rattle.run_ends.specs.declared.ending.Ending.{Ending}
use Rattle.run_ends.specs.declared.ending.Ending.TheVariants.{Done, WriteFault, Refused}
use Rattle.run_ends.specs.declared.refusal.Refusal.{Refusal}
use Rattle.run_ends.specs.declared.refusal.Refusal.TheVariants.{BadCatalogue, BadStations, Unread, TooLong, OutOfMemory}
use Rattle.station_file.specs.StationFile.{station_value}

-- the files were read, and no count changed
pub record IsLoaded {A : Type 0} (S : Shelf A) (files : Files) (old new : A) : Type 0 where
  pub read : AreRead (S.held old) files
  pub kept : AreKept S old new

pub nothing_loaded : {A : Type 0} (S : Shelf A) (shelf : A) → IsLoaded S no_file shelf shelf
nothing_loaded S shelf = record {
  read = record { catalogue = λ name instant reads. absurd reads; stations = λ name reads. absurd reads };
  kept = record { no_fault = refl; no_over = refl };
}

pub catalogue_loaded : {A : Type 0} {S : Shelf A} {old new : A} {name : List ℕ} {at : ℤ} {sets : List Entry} →
    IsAnswerOf (catalogue_at at) (S.held old name) (Ok sets) → AreKept S old new → IsLoaded S (catalogue_alone name at) old new
catalogue_loaded {sets = sets} answer kept = record {
  read = record { catalogue = λ other instant reads. (sets, rw (reads.0, reads.1) answer); stations = λ other reads. absurd reads };
  kept = kept;
}

pub both_loaded : {A : Type 0} {S : Shelf A} {old between new : A} {name other : List ℕ} {at : ℤ} {sets : List Entry} {list : StationList} →
    IsAnswerOf (catalogue_at at) (S.held old name) (Ok sets) → AreKept S old between → IsSameShelf S old between →
    IsAnswerOf station_value (S.held between other) (Ok list) → AreKept S between new →
    IsLoaded S (catalogue_and_stations name at other) old new
both_loaded {other = other} {sets = sets} {list} answer kept same stations later = record {
  read = record {
    catalogue = λ file instant reads. (sets, rw (reads.0, reads.1) answer);
    stations = λ file reads. (list, rw reads (rw (same.held other) at stations));
  };
  kept = record { no_fault = later.no_fault ∙ kept.no_fault; no_over = later.no_over ∙ kept.no_over };
}

kept_later : {A : Type 0} (S : Shelf A) (old new : A) → AreKept S old new → AreLater S old new
kept_later S old new kept = record { faults = omega (arith, kept.no_fault); overs = omega (arith, kept.no_over) }

pub later_then : {A : Type 0} {S : Shelf A} {old between new : A} → AreLater S old between → AreLater S between new → AreLater S old new
later_then a b = record { faults = omega (arith, a.faults, b.faults); overs = omega (arith, a.overs, b.overs) }

-- the product was made, and printed whole or cut off
pub made : {A B P T E : Type 0} {S : Shelf A} {K : Sink B} {before after : A} {old new : B} {product : P} (printed : Result T E) (command : Command P) →
    IsLoaded S command.files before after → command.is_product (S.held before) product → IsPrinted K printed old new (command.layout product) →
    IsRunOf S K command (ended product printed) before after old new
made {S = S} {before = before} {after} (Ok done) command loaded is text =
    record { product = is; written = text; causes = loaded.read; counts = loaded.kept; later = kept_later S before after loaded.kept }
made {S = S} {before = before} {after} (Err failed) command loaded is text =
    record { product = is; written = text; causes = loaded.read; counts = loaded.kept; later = kept_later S before after loaded.kept }

-- a part of the command behind the loads, which is refused at most for want of memory
pub run_behind : {A B P : Type 0} {S : Shelf A} {K : Sink B} {before after : A} {old new : B} (command : Command P) (e : Ending P) →
    IsLoaded S command.files before after → WithProduct (command.is_product (S.held before)) e → IsWritten K command.layout e old new → IsForMemory e →
    IsRunOf S K command e before after old new
run_behind {S = S} {before = before} {after} command (Done product) loaded is text want =
    record { product = is; written = text; causes = loaded.read; counts = loaded.kept; later = kept_later S before after loaded.kept }
run_behind {S = S} {before = before} {after} command (WriteFault product) loaded is text want =
    record { product = is; written = text; causes = loaded.read; counts = loaded.kept; later = kept_later S before after loaded.kept }
run_behind {S = S} {before = before} {after} command (Refused refusal) loaded is text want = record {
  product = tt;
  written = text;
  causes = subst (IsRefusalCaused (S.held before) command.files) (sym want) tt;
  counts = subst (λ r. IsRefusalCounted S r before after) (sym want) loaded.kept;
  later = kept_later S before after loaded.kept;
}

-- what is true of each product that is such
pub with_product : {P : Type 0} {Such Also : P → Type 0} (e : Ending P) → ((p : P) → Such p → Also p) → WithProduct Such e → WithProduct Also e
with_product (Done product) more h = more product h
with_product (WriteFault product) more h = more product h
with_product (Refused refusal) more h = tt

-- ---- refusals
catalogue_caused : (held : List ℕ → Option (List ℕ)) (files : Files) (name : List ℕ) (at : ℤ) (refusal : Refusal) →
    ReadsCatalogue files name at → IsCatalogueRefusal (held name) at refusal → IsRefusalCaused held files refusal
catalogue_caused held files name at (BadCatalogue fault) reads h = record { name = name; instant = at; reads = reads; bad = h }
catalogue_caused held files name at (BadStations fault) reads h = absurd h
catalogue_caused held files name at Unread reads h = (name, inl (at, reads))
catalogue_caused held files name at TooLong reads h = record { name = name; came = inl (at, reads); longer = h }
catalogue_caused held files name at OutOfMemory reads h = tt

stations_caused : (held : List ℕ → Option (List ℕ)) (files : Files) (name : List ℕ) (refusal : Refusal) →
    ReadsStations files name → CatalogueIsRead held files → IsStationRefusal (held name) refusal → IsRefusalCaused held files refusal
stations_caused held files name (BadCatalogue fault) reads before h = absurd h
stations_caused held files name (BadStations fault) reads before h = record { name = name; reads = reads; before = before; bad = h }
stations_caused held files name Unread reads before h = (name, inr (reads, before))
stations_caused held files name TooLong reads before h = record { name = name; came = inr (reads, before); longer = h }
stations_caused held files name OutOfMemory reads before h = tt

-- the catalogue was refused
pub catalogue_refused : {A B P : Type 0} {S : Shelf A} {K : Sink B} {before after : A} {old new : B} {refusal : Refusal} (command : Command P) (name : List ℕ) (at : ℤ) →
    ReadsCatalogue command.files name at → IsCatalogueRefusal (S.held before name) at refusal →
    IsRefusalCounted S refusal before after → AreLater S before after → IsRefused K old new (refusal_line refusal) →
    IsRunOf S K command (Refused refusal) before after old new
catalogue_refused {S = S} {before = before} {refusal = refusal} command name at reads cause counts later line = record {
  product = tt;
  written = line;
  causes = catalogue_caused (S.held before) command.files name at refusal reads cause;
  counts = counts;
  later = later;
}

-- the counts of a load behind one that changed none
counted_then : {A : Type 0} (S : Shelf A) (old between new : A) (refusal : Refusal) → AreKept S old between → IsRefusalCounted S refusal between new → IsRefusalCounted S refusal old new
counted_then S old between new (BadCatalogue fault) kept h = record { no_fault = h.no_fault ∙ kept.no_fault; no_over = h.no_over ∙ kept.no_over }
counted_then S old between new (BadStations fault) kept h = record { no_fault = h.no_fault ∙ kept.no_fault; no_over = h.no_over ∙ kept.no_over }
counted_then S old between new Unread kept h = record { rose = rw kept.no_fault at h.rose; other_kept = h.other_kept ∙ kept.no_over }
counted_then S old between new TooLong kept h = record { rose = rw kept.no_over at h.rose; other_kept = h.other_kept ∙ kept.no_fault }
counted_then S old between new OutOfMemory kept h = record { no_fault = h.no_fault ∙ kept.no_fault; no_over = h.no_over ∙ kept.no_over }

-- the stations behind a catalogue were refused
pub stations_refused : {A B P : Type 0} {S : Shelf A} {K : Sink B} {before between after : A} {old new : B} {refusal : Refusal} {name other : List ℕ} {at : ℤ} {sets : List Entry} (command : Command P) →
    command.files ≡ catalogue_and_stations name at other →
    IsAnswerOf (catalogue_at at) (S.held before name) (Ok sets) → AreKept S before between → IsSameShelf S before between →
    IsStationRefusal (S.held between other) refusal → IsRefusalCounted S refusal between after → AreLater S between after →
    IsRefused K old new (refusal_line refusal) →
    IsRunOf S K command (Refused refusal) before after old new
stations_refused {S = S} {before = before} {between} {after} {refusal = refusal} {name} {other} {at} {sets} command files answer kept same cause counts later line = record {
  product = tt;
  written = line;
  causes = subst (λ fs. IsRefusalCaused (S.held before) fs refusal) (sym files)
      (stations_caused (S.held before) (catalogue_and_stations name at other) other refusal refl
      (λ file instant reads. (sets, rw (reads.0, reads.1) answer)) (rw (same.held other) at cause));
  counts = counted_then S before between after refusal kept counts;
  later = later_then (kept_later S before between kept) later;
}
