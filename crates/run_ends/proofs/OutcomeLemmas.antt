-- What the ending of a command says where its files are at hand, and where one is not as it must be.
use Rattle.std.proofs.Common.{◌≡◌, arith, ℕ, ◌≤◌, ◌<◌, List, length, Option, Some, Result, Ok, Err, sym, subst, ap, ◌∙◌, refl, inl, inr, ◌⊎◌}
use Rattle.std.specs.Prelude.{ℤ}
use Rattle.catalogue.specs.Place.{most_bytes}
use Rattle.catalogue.specs.declared.fault.CatFault.{CatFault}
use Rattle.outside_io.specs.Counts.{Rose}
use Rattle.outside_io.specs.Held.{IsLonger, IsTold}
use Rattle.outside_io.specs.declared.shelf.Shelf.{Ghosts as Shelf}
use Rattle.outside_io.specs.declared.sink.Sink.{Ghosts as Sink}
use Rattle.run_ends.specs.Causes.{Came, IsCaused, IsRefusalCaused}
use Rattle.run_ends.specs.Counted.{IsCounted, IsRefusalCounted, NoneFailed}
use Rattle.run_ends.specs.Endings.{IsDoneOrWant, IsThisOrWant}
use Rattle.run_ends.specs.Files.{AreHeld, AreRead, CatalogueIsHeld, CatalogueIsRead, Files, Holds, IsAnswerOf, IsComing, IsNamed, ReadsCatalogue, ReadsStations, catalogue_alone, catalogue_and_stations, catalogue_at, no_file}
use Rattle.run_ends.specs.Printed.{IsWritten}
use Rattle.run_ends.specs.declared.ending.Ending.{Ending}
use Rattle.run_ends.specs.declared.ending.Ending.TheVariants.{Done, WriteFault, Refused}
use Rattle.run_ends.specs.declared.refusal.Refusal.{Refusal}
use Rattle.run_ends.specs.declared.refusal.Refusal.TheVariants.{BadCatalogue, BadStations, Unread, TooLong, OutOfMemory}
use Rattle.station_file.specs.StationFile.{station_value}
use Rattle.station_file.specs.declared.fault.StFault.{StFault}

-- ---- answers of one file
ok-err : {A E : Type 0} (r : Result A E) (x : A) (e : E) → r ≡ Ok x → r ≡ Err e → ⊥
ok-err r x e h k = cc

err_inj : {A E : Type 0} (r : Result A E) (d e : E) → r ≡ Err d → r ≡ Err e → d ≡ e
err_inj r d e h k = cc

-- the ending of a refusal
of_refusal : {P : Type 0} (this refusal : Refusal) → (refusal ≡ this) ⊎ (refusal ≡ OutOfMemory) → IsThisOrWant {P = P} this (Refused refusal)
of_refusal this refusal (inl e) = inl (ap Refused e)
of_refusal this refusal (inr e) = inr (ap Refused e)

-- bytes that were loaded are the held ones
same_bytes : (held : Option (List ℕ)) (bytes other : List ℕ) → IsTold held bytes → held ≡ Some other → bytes ≡ other
same_bytes held bytes other told e = subst (λ h. IsTold h bytes) e told

-- the answer of a file that was loaded is that of its held bytes
same_answer : {A E : Type 0} (reader : List ℕ → Result A E) (held : Option (List ℕ)) (a b : Result A E) → IsAnswerOf reader held a → Holds reader held b → a ≡ b
same_answer reader held a b h k = sym h.gives ∙ ap reader (same_bytes held h.bytes k.bytes h.told k.told) ∙ k.gives

-- held bytes that are at most 16 MiB are not longer
not_longer : {A E : Type 0} (reader : List ℕ → Result A E) (held : Option (List ℕ)) (a : Result A E) → Holds reader held a → IsLonger held most_bytes → ⊥
not_longer reader held a k longer = let more : most_bytes < length k.bytes = subst (λ h. IsLonger h most_bytes) k.told longer in omega (arith, more, k.fits)

-- a file with longer held bytes was not loaded
not_loaded : {A E : Type 0} (reader : List ℕ → Result A E) (held : Option (List ℕ)) (a : Result A E) (bytes : List ℕ) → held ≡ Some bytes → most_bytes < length bytes → IsAnswerOf reader held a → ⊥
not_loaded reader held a bytes told longer h =
    let fits : length bytes ≤ most_bytes = subst (λ b. length b ≤ most_bytes) (same_bytes held h.bytes bytes h.told told) h.fits in
    omega (arith, fits, longer)

-- ---- the files of one command
-- one file is its catalogue
one_catalogue : (files : Files) (name other : List ℕ) (at moment : ℤ) → ReadsCatalogue files name at → ReadsCatalogue files other moment → (other ≡ name) × (moment ≡ at)
one_catalogue no_file name other at moment h k = absurd h
one_catalogue (catalogue_alone file instant) name other at moment h k = (k.0 ∙ sym h.0, k.1 ∙ sym h.1)
one_catalogue (catalogue_and_stations file instant stations) name other at moment h k = (k.0 ∙ sym h.0, k.1 ∙ sym h.1)

-- one file is its stations
one_station_file : (files : Files) (name other : List ℕ) → ReadsStations files name → ReadsStations files other → other ≡ name
one_station_file no_file name other h k = absurd h
one_station_file (catalogue_alone file instant) name other h k = absurd h
one_station_file (catalogue_and_stations file instant stations) name other h k = k ∙ sym h

-- a file whose load came is named
pub came_named : (held : List ℕ → Option (List ℕ)) (files : Files) (name : List ℕ) → Came held files name → IsNamed files name
came_named held files name (inl reads) = inl reads
came_named held files name (inr (reads, before)) = inr reads

-- a catalogue at hand that was read is no fault
read_held : (held : List ℕ → Option (List ℕ)) (files : Files) (name : List ℕ) (at : ℤ) (fault : CatFault) → ReadsCatalogue files name at →
    CatalogueIsRead held files → Holds (catalogue_at at) (held name) (Err fault) → ⊥
read_held held files name at fault reads read holds =
    let there = read name at reads in
    ok-err _ there.0 fault refl (same_answer (catalogue_at at) (held name) (Ok there.0) (Err fault) there.1 holds)

-- ---- completeness
-- a refusal of a command whose files are at hand is want of memory
refused_want : {A : Type 0} (S : Shelf A) (files : Files) (old new : A) (refusal : Refusal) → IsRefusalCaused (S.held old) files refusal → IsRefusalCounted S refusal old new →
    NoneFailed S files old new → AreHeld (S.held old) files → refusal ≡ OutOfMemory
refused_want S files old new (BadCatalogue fault) cause counted read held =
    let there = held.catalogue cause.name cause.instant cause.reads in
    absurd (ok-err _ there.0 fault refl (sym (same_answer (catalogue_at cause.instant) (S.held old cause.name) (Err fault) (Ok there.0) cause.bad.answer there.1)))
refused_want S files old new (BadStations fault) cause counted read held =
    let there = held.stations cause.name cause.reads in
    absurd (ok-err _ there.0 fault refl (sym (same_answer station_value (S.held old cause.name) (Err fault) (Ok there.0) cause.bad.answer there.1)))
refused_want S files old new Unread cause counted read held = absurd (read cause.0 (came_named (S.held old) files cause.0 cause.1) counted.rose)
refused_want S files old new TooLong cause counted read held = absurd (too_long cause.came)
  where
    too_long : Came (S.held old) files cause.name → ⊥
    too_long (inl (at, reads)) = let there = held.catalogue cause.name at reads in not_longer (catalogue_at at) (S.held old cause.name) (Ok there.0) there.1 cause.longer
    too_long (inr (reads, before)) = let there = held.stations cause.name reads in not_longer station_value (S.held old cause.name) (Ok there.0) there.1 cause.longer
refused_want S files old new OutOfMemory cause counted read held = refl

-- a command whose files are at hand, and whose output did not fail, is done, or wants memory
pub done_or_want : {A B P : Type 0} (S : Shelf A) (K : Sink B) (files : Files) (layout : P → List ℕ) (ending : Ending P) (before after : A) (old new : B) →
    IsCaused (S.held before) files ending → IsCounted S ending before after → IsWritten K layout ending old new →
    NoneFailed S files before after → AreHeld (S.held before) files → ¬ (Rose (K.faults old) (K.faults new)) → IsDoneOrWant ending
done_or_want S K files layout (Done product) before after old new cause counted written read held whole = inl (product, refl)
done_or_want S K files layout (WriteFault product) before after old new cause counted written read held whole = absurd (whole written.rose)
done_or_want S K files layout (Refused refusal) before after old new cause counted written read held whole =
    inr (ap Refused (refused_want S files before after refusal cause counted read held))

-- ---- the converse of causes
-- a catalogue that is none is refused for its fault
catalogue_fault : {A : Type 0} (S : Shelf A) (files : Files) (old new : A) (name : List ℕ) (at : ℤ) (fault : CatFault) (refusal : Refusal) →
    IsRefusalCaused (S.held old) files refusal → IsRefusalCounted S refusal old new →
    ReadsCatalogue files name at → Holds (catalogue_at at) (S.held old name) (Err fault) → ¬ (Rose (S.faults old) (S.faults new)) →
    (refusal ≡ BadCatalogue fault) ⊎ (refusal ≡ OutOfMemory)
catalogue_fault S files old new name at fault (BadCatalogue other) cause counted reads holds read =
    let one = one_catalogue files name cause.name at cause.instant reads cause.reads in
    let answer : IsAnswerOf (catalogue_at at) (S.held old name) (Err other) = rw (one.0, one.1) at cause.bad.answer in
    inl (ap BadCatalogue (err_inj _ other fault refl (same_answer (catalogue_at at) (S.held old name) (Err other) (Err fault) answer holds)))
catalogue_fault S files old new name at fault (BadStations other) cause counted reads holds read =
    absurd (read_held (S.held old) files name at fault reads cause.before holds)
catalogue_fault S files old new name at fault Unread cause counted reads holds read = absurd (read counted.rose)
catalogue_fault S files old new name at fault TooLong cause counted reads holds read = absurd (too_long cause.came)
  where
    too_long : Came (S.held old) files cause.name → ⊥
    too_long (inl (moment, others)) =
        let one = one_catalogue files name cause.name at moment reads others in
        not_longer (catalogue_at at) (S.held old name) (Err fault) holds (rw one.0 at cause.longer)
    too_long (inr (others, before)) = read_held (S.held old) files name at fault reads before holds
catalogue_fault S files old new name at fault OutOfMemory cause counted reads holds read = inr refl

pub bad_catalogue_or_want : {A P : Type 0} (S : Shelf A) (files : Files) (ending : Ending P) (old new : A) (name : List ℕ) (at : ℤ) (fault : CatFault) →
    IsCaused (S.held old) files ending → IsCounted S ending old new →
    ReadsCatalogue files name at → Holds (catalogue_at at) (S.held old name) (Err fault) → ¬ (Rose (S.faults old) (S.faults new)) →
    IsThisOrWant (BadCatalogue fault) ending
bad_catalogue_or_want S files (Done product) old new name at fault cause counted reads holds read = absurd (read_held (S.held old) files name at fault reads cause.catalogue holds)
bad_catalogue_or_want S files (WriteFault product) old new name at fault cause counted reads holds read = absurd (read_held (S.held old) files name at fault reads cause.catalogue holds)
bad_catalogue_or_want S files (Refused refusal) old new name at fault cause counted reads holds read =
    of_refusal (BadCatalogue fault) refusal (catalogue_fault S files old new name at fault refusal cause counted reads holds read)

-- stations that are none, behind a catalogue at hand, are refused for their fault
stations_fault : {A : Type 0} (S : Shelf A) (files : Files) (old new : A) (name : List ℕ) (fault : StFault) (refusal : Refusal) →
    IsRefusalCaused (S.held old) files refusal → IsRefusalCounted S refusal old new →
    ReadsStations files name → CatalogueIsHeld (S.held old) files → Holds station_value (S.held old name) (Err fault) → ¬ (Rose (S.faults old) (S.faults new)) →
    (refusal ≡ BadStations fault) ⊎ (refusal ≡ OutOfMemory)
stations_fault S files old new name fault (BadCatalogue other) cause counted reads held holds read =
    let there = held cause.name cause.instant cause.reads in
    absurd (ok-err _ there.0 other refl (sym (same_answer (catalogue_at cause.instant) (S.held old cause.name) (Err other) (Ok there.0) cause.bad.answer there.1)))
stations_fault S files old new name fault (BadStations other) cause counted reads held holds read =
    let one = one_station_file files name cause.name reads cause.reads in
    let answer : IsAnswerOf station_value (S.held old name) (Err other) = rw one at cause.bad.answer in
    inl (ap BadStations (err_inj _ other fault refl (same_answer station_value (S.held old name) (Err other) (Err fault) answer holds)))
stations_fault S files old new name fault Unread cause counted reads held holds read = absurd (read counted.rose)
stations_fault S files old new name fault TooLong cause counted reads held holds read = absurd (too_long cause.came)
  where
    too_long : Came (S.held old) files cause.name → ⊥
    too_long (inl (at, others)) = let there = held cause.name at others in not_longer (catalogue_at at) (S.held old cause.name) (Ok there.0) there.1 cause.longer
    too_long (inr (others, before)) = not_longer station_value (S.held old name) (Err fault) holds (rw (one_station_file files name cause.name reads others) at cause.longer)
stations_fault S files old new name fault OutOfMemory cause counted reads held holds read = inr refl

-- stations that are none were not read
read_stations_held : (held : List ℕ → Option (List ℕ)) (files : Files) (name : List ℕ) (fault : StFault) → ReadsStations files name →
    AreRead held files → Holds station_value (held name) (Err fault) → ⊥
read_stations_held held files name fault reads read holds =
    let there = read.stations name reads in
    ok-err _ there.0 fault refl (same_answer station_value (held name) (Ok there.0) (Err fault) there.1 holds)

pub bad_stations_or_want : {A P : Type 0} (S : Shelf A) (files : Files) (ending : Ending P) (old new : A) (name : List ℕ) (fault : StFault) →
    IsCaused (S.held old) files ending → IsCounted S ending old new →
    ReadsStations files name → CatalogueIsHeld (S.held old) files → Holds station_value (S.held old name) (Err fault) → ¬ (Rose (S.faults old) (S.faults new)) →
    IsThisOrWant (BadStations fault) ending
bad_stations_or_want S files (Done product) old new name fault cause counted reads held holds read = absurd (read_stations_held (S.held old) files name fault reads cause holds)
bad_stations_or_want S files (WriteFault product) old new name fault cause counted reads held holds read = absurd (read_stations_held (S.held old) files name fault reads cause holds)
bad_stations_or_want S files (Refused refusal) old new name fault cause counted reads held holds read =
    of_refusal (BadStations fault) refusal (stations_fault S files old new name fault refusal cause counted reads held holds read)

-- a file that is too long, and whose load comes, was not read
long_unread : (held : List ℕ → Option (List ℕ)) (files : Files) (name bytes : List ℕ) → IsComing held files name → held name ≡ Some bytes → most_bytes < length bytes → AreRead held files → ⊥
long_unread held files name bytes (inl (at, reads)) told longer read =
    let there = read.catalogue name at reads in not_loaded (catalogue_at at) (held name) (Ok there.0) bytes told longer there.1
long_unread held files name bytes (inr (reads, before)) told longer read =
    let there = read.stations name reads in not_loaded station_value (held name) (Ok there.0) bytes told longer there.1

long_fault : {A : Type 0} (S : Shelf A) (files : Files) (old new : A) (name bytes : List ℕ) (refusal : Refusal) →
    IsRefusalCaused (S.held old) files refusal → IsRefusalCounted S refusal old new →
    IsComing (S.held old) files name → S.held old name ≡ Some bytes → most_bytes < length bytes → ¬ (Rose (S.faults old) (S.faults new)) →
    (refusal ≡ TooLong) ⊎ (refusal ≡ OutOfMemory)
long_fault S files old new name bytes (BadCatalogue other) cause counted coming told longer read = absurd (none coming)
  where
    none : IsComing (S.held old) files name → ⊥
    none (inl (at, reads)) =
        let one = one_catalogue files name cause.name at cause.instant reads cause.reads in
        let answer : IsAnswerOf (catalogue_at at) (S.held old name) (Err other) = rw (one.0, one.1) at cause.bad.answer in
        not_loaded (catalogue_at at) (S.held old name) (Err other) bytes told longer answer
    none (inr (reads, before)) =
        let there = before cause.name cause.instant cause.reads in
        ok-err _ there.0 other refl (sym (same_answer (catalogue_at cause.instant) (S.held old cause.name) (Err other) (Ok there.0) cause.bad.answer there.1))
long_fault S files old new name bytes (BadStations other) cause counted coming told longer read = absurd (none coming)
  where
    none : IsComing (S.held old) files name → ⊥
    none (inl (at, reads)) = let there = cause.before name at reads in not_loaded (catalogue_at at) (S.held old name) (Ok there.0) bytes told longer there.1
    none (inr (reads, before)) =
        let answer : IsAnswerOf station_value (S.held old name) (Err other) = rw (one_station_file files name cause.name reads cause.reads) at cause.bad.answer in
        not_loaded station_value (S.held old name) (Err other) bytes told longer answer
long_fault S files old new name bytes Unread cause counted coming told longer read = absurd (read counted.rose)
long_fault S files old new name bytes TooLong cause counted coming told longer read = inl refl
long_fault S files old new name bytes OutOfMemory cause counted coming told longer read = inr refl

-- a file that is too long, and whose load comes, is refused for that
pub long_or_want : {A P : Type 0} (S : Shelf A) (files : Files) (ending : Ending P) (old new : A) (name bytes : List ℕ) →
    IsCaused (S.held old) files ending → IsCounted S ending old new →
    IsComing (S.held old) files name → S.held old name ≡ Some bytes → most_bytes < length bytes → ¬ (Rose (S.faults old) (S.faults new)) →
    IsThisOrWant TooLong ending
long_or_want S files (Done product) old new name bytes cause counted coming told longer read = absurd (long_unread (S.held old) files name bytes coming told longer cause)
long_or_want S files (WriteFault product) old new name bytes cause counted coming told longer read = absurd (long_unread (S.held old) files name bytes coming told longer cause)
long_or_want S files (Refused refusal) old new name bytes cause counted coming told longer read =
    of_refusal TooLong refusal (long_fault S files old new name bytes refusal cause counted coming told longer read)
