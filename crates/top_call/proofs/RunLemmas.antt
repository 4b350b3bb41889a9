-- From a run of the request that the words make to a run of the words.
use Rattle.std.proofs.Common.{◌≡◌, ℕ, List, Option, Ok, Err, sym, subst, ap, inl, inr}
use Rattle.outside_io.specs.declared.shelf.Shelf.{Ghosts as Shelf}
use Rattle.outside_io.specs.declared.sink.Sink.{Ghosts as Sink}
use Rattle.pass_words.specs.Words.{words_value}
use Rattle.pass_words.specs.declared.fault.UsageFault.{UsageFault}
use Rattle.pass_words.specs.declared.fault.WindowFault.{WindowFault}
use Rattle.pass_words.specs.declared.fault.WordFault.{WordFault}
use Rattle.pass_words.specs.declared.fault.WordFault.TheVariants as faults
use Rattle.pass_words.specs.declared.request.Request.{Request}
use Rattle.run_ends.proofs.OutcomeLemmas.{bad_catalogue_or_want, bad_stations_or_want, came_named, done_or_want, long_or_want}
use Rattle.run_ends.specs.Causes as ends
use Rattle.run_ends.specs.Counted.{AreKept}
use Rattle.run_ends.specs.Counted as counted
use Rattle.run_ends.specs.Endings as endings
use Rattle.run_ends.specs.Files.{Files, IsNamed}
use Rattle.run_ends.specs.Printed as printed
use Rattle.run_ends.specs.Runs.{IsRunOf}
use Rattle.run_ends.specs.declared.ending.Ending.{Ending}
use Rattle.run_ends.specs.declared.ending.Ending.TheVariants.{Done, WriteFault, Refused}
use Rattle.run_ends.specs.declared.refusal.Refusal.{Refusal}
use Rattle.run_ends.specs.declared.refusal.Refusal.TheVariants.{BadCatalogue, BadStations, Unread, TooLong, OutOfMemory}
use Rattle.top_call.specs.Outcome.{IsCaused, IsCounted, IsDoneOrWant, IsThisOrWant, IsWritten, layout, outcome_of}
use Rattle.top_call.specs.Request.{IsOfRequest, IsProductOf, command_of, files_by, files_in, files_of}
use Rattle.top_call.specs.Run.{IsRun}
use Rattle.top_call.specs.declared.outcome.Outcome.TheVariants as outcomes
use Rattle.top_call.specs.declared.outcome.Product.{Product}

-- ---- the outcome of an ending
never_usage : (e : Ending Product) (fault : UsageFault) → outcome_of e ≡ outcomes.Usage fault → ⊥
never_usage (Done product) fault h = cc
never_usage (WriteFault product) fault h = cc
never_usage (Refused (BadCatalogue other)) fault h = cc
never_usage (Refused (BadStations other)) fault h = cc
never_usage (Refused Unread) fault h = cc
never_usage (Refused TooLong) fault h = cc
never_usage (Refused OutOfMemory) fault h = cc

never_window : (e : Ending Product) (fault : WindowFault) → outcome_of e ≡ outcomes.BadWindow fault → ⊥
never_window (Done product) fault h = cc
never_window (WriteFault product) fault h = cc
never_window (Refused (BadCatalogue other)) fault h = cc
never_window (Refused (BadStations other)) fault h = cc
never_window (Refused Unread) fault h = cc
never_window (Refused TooLong) fault h = cc
never_window (Refused OutOfMemory) fault h = cc

done_back : (Such : Product → Type 0) (e : Ending Product) (product : Product) → endings.WithProduct Such e → outcome_of e ≡ outcomes.Done product → Such product
done_back Such (Done made) product h e = let same : made ≡ product = cc in rw same at h
done_back Such (WriteFault made) product h e = absurd (cc)
done_back Such (Refused (BadCatalogue other)) product h e = absurd (cc)
done_back Such (Refused (BadStations other)) product h e = absurd (cc)
done_back Such (Refused Unread) product h e = absurd (cc)
done_back Such (Refused TooLong) product h e = absurd (cc)
done_back Such (Refused OutOfMemory) product h e = absurd (cc)

cut_back : (Such : Product → Type 0) (e : Ending Product) (product : Product) → endings.WithProduct Such e → outcome_of e ≡ outcomes.WriteFault product → Such product
cut_back Such (Done made) product h e = absurd (cc)
cut_back Such (WriteFault made) product h e = let same : made ≡ product = cc in rw same at h
cut_back Such (Refused (BadCatalogue other)) product h e = absurd (cc)
cut_back Such (Refused (BadStations other)) product h e = absurd (cc)
cut_back Such (Refused Unread) product h e = absurd (cc)
cut_back Such (Refused TooLong) product h e = absurd (cc)
cut_back Such (Refused OutOfMemory) product h e = absurd (cc)

written : {B : Type 0} (K : Sink B) (e : Ending Product) (old new : B) → printed.IsWritten K layout e old new → IsWritten K (outcome_of e) old new
written K (Done product) old new h = h
written K (WriteFault product) old new h = h
written K (Refused (BadCatalogue other)) old new h = h
written K (Refused (BadStations other)) old new h = h
written K (Refused Unread) old new h = h
written K (Refused TooLong) old new h = h
written K (Refused OutOfMemory) old new h = h

caused : (held : List ℕ → Option (List ℕ)) (files : Files) (e : Ending Product) → ends.IsCaused held files e → IsCaused held files (outcome_of e)
caused held files (Done product) h = h
caused held files (WriteFault product) h = h
caused held files (Refused (BadCatalogue other)) h = h
caused held files (Refused (BadStations other)) h = h
caused held files (Refused Unread) h = h
caused held files (Refused TooLong) h = h
caused held files (Refused OutOfMemory) h = h

counted_by : {A : Type 0} (S : Shelf A) (e : Ending Product) (old new : A) → counted.IsCounted S e old new → IsCounted S (outcome_of e) old new
counted_by S (Done product) old new h = h
counted_by S (WriteFault product) old new h = h
counted_by S (Refused (BadCatalogue other)) old new h = h
counted_by S (Refused (BadStations other)) old new h = h
counted_by S (Refused Unread) old new h = h
counted_by S (Refused TooLong) old new h = h
counted_by S (Refused OutOfMemory) old new h = h

-- a command that reads no file leaves the shelf as it was
unread : {A : Type 0} (S : Shelf A) (files : Files) (e : Ending Product) (old new : A) → ends.IsCaused (S.held old) files e → counted.IsCounted S e old new →
    ((name : List ℕ) → ¬ (IsNamed files name)) → AreKept S old new
unread S files (Done product) old new cause h none = h
unread S files (WriteFault product) old new cause h none = h
unread S files (Refused (BadCatalogue other)) old new cause h none = h
unread S files (Refused (BadStations other)) old new cause h none = h
unread S files (Refused Unread) old new cause h none = absurd (none cause.0 (came_named (S.held old) files cause.0 cause.1))
unread S files (Refused TooLong) old new cause h none = absurd (none cause.name (came_named (S.held old) files cause.name cause.came))
unread S files (Refused OutOfMemory) old new cause h none = h

done_or : (e : Ending Product) → endings.IsDoneOrWant e → IsDoneOrWant (outcome_of e)
done_or e (inl (product, h)) = inl (product, ap outcome_of h)
done_or e (inr h) = inr (ap outcome_of h)

this_or : (this : Refusal) (e : Ending Product) → endings.IsThisOrWant this e → IsThisOrWant (outcome_of (Refused this)) (outcome_of e)
this_or this e (inl h) = inl (ap outcome_of h)
this_or this e (inr h) = inr (ap outcome_of h)

-- ---- the words
-- words that make a request have no fault
no_fault : (words : List (List ℕ)) (request : Request) (fault : WordFault) → words_value words ≡ Ok request → words_value words ≡ Err fault → ⊥
no_fault words request fault e h = cc

-- the files of words that make a request
pub files_made : (words : List (List ℕ)) (request : Request) → words_value words ≡ Ok request → files_in words ≡ files_of words request
files_made words request e = ap (files_by words) e

-- a run of the request that the words make
pub run_of_request : {A B : Type 0} {S : Shelf A} {K : Sink B} {before after : A} {old new : B} (words : List (List ℕ)) (request : Request) (e : Ending Product) →
    words_value words ≡ Ok request → IsRunOf S K (command_of words request) e before after old new →
    IsRun S K words (outcome_of e) before after old new
run_of_request {S = S} {K} {before} {after} {old} {new} words request e made h = record {
  usage = λ fault. ((λ is. absurd (never_usage e fault is)), (λ is. absurd (no_fault words request (faults.Usage fault) made is)));
  window = λ fault. ((λ is. absurd (never_window e fault is)), (λ is. absurd (no_fault words request (faults.Window fault) made is)));
  certificate = λ product is. product_of product (done_back asked e product h.product is);
  certificate_of_a_cut = λ product is. product_of product (cut_back asked e product h.product is);
  written = written K e old new h.written;
  causes = caused (S.held before) (files_in words) e cause;
  counts = counted_by S e before after h.counts;
  no_file = λ none. unread S (files_in words) e before after cause h.counts none;
  later = h.later;
  completeness = λ other is read held whole. done_or e (done_or_want S K (files_in words) layout e before after old new cause h.counts h.written read held whole);
  bad_catalogues = λ name at fault reads holds read. this_or (BadCatalogue fault) e (bad_catalogue_or_want S (files_in words) e before after name at fault cause h.counts reads holds read);
  bad_stations = λ name fault reads held holds read. this_or (BadStations fault) e (bad_stations_or_want S (files_in words) e before after name fault cause h.counts reads held holds read);
  long_files = λ name bytes coming told longer read. this_or TooLong e (long_or_want S (files_in words) e before after name bytes cause h.counts coming told longer read);
}
  where
    asked : Product → Type 0
    asked product = IsOfRequest (S.held before) words request product

    product_of : (product : Product) → IsOfRequest (S.held before) words request product → IsProductOf (S.held before) words product
    product_of product is = record { request = request; of_words = made; asked = is }

    cause : ends.IsCaused (S.held before) (files_in words) e
    cause = subst (λ fs. ends.IsCaused (S.held before) fs e) (sym (files_made words request made)) h.causes
