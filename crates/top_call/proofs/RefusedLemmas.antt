-- A run of words that make no request: no file is named.
use Rattle.std.proofs.Common.{◌≡◌, arith, ℕ, List, Option, Ok, Err, ap, ◌∙◌, refl, subst, inl, inr}
use Rattle.std.specs.Prelude.{ℤ}
use Rattle.outside_io.specs.declared.shelf.Shelf.{Ghosts as Shelf}
use Rattle.outside_io.specs.declared.sink.Sink.{Ghosts as Sink}
use Rattle.pass_text.specs.Refusals.{usage_line, window_fault_line}
use Rattle.pass_words.specs.Words.{words_value}
use Rattle.pass_words.specs.declared.fault.UsageFault.{UsageFault}
use Rattle.pass_words.specs.declared.fault.WindowFault.{WindowFault}
use Rattle.pass_words.specs.declared.fault.WordFault.{WordFault}
use Rattle.pass_words.specs.declared.fault.WordFault.TheVariants as faults
use Rattle.pass_words.specs.declared.request.Request.{Request}
use Rattle.run_ends.specs.Files.{Files, IsComing, ReadsCatalogue, ReadsStations, no_file}
use Rattle.run_ends.specs.Printed.{IsRefused}
use Rattle.top_call.specs.Request.{files_by, files_in}
use Rattle.top_call.specs.Run.{IsRun}
use Rattle.top_call.specs.declared.outcome.Outcome.TheVariants.{Usage, BadWindow}

-- words with a fault name no file
files_none : (words : List (List ℕ)) (fault : WordFault) → words_value words ≡ Err fault → files_in words ≡ no_file
files_none words fault e = ap (files_by words) e

no_catalogue : (files : Files) (name : List ℕ) (at : ℤ) → files ≡ no_file → ReadsCatalogue files name at → ⊥
no_catalogue files name at e reads = subst (λ fs. ReadsCatalogue fs name at) e reads

no_stations : (files : Files) (name : List ℕ) → files ≡ no_file → ReadsStations files name → ⊥
no_stations files name e reads = subst (λ fs. ReadsStations fs name) e reads

none_coming : (held : List ℕ → Option (List ℕ)) (files : Files) (name : List ℕ) → files ≡ no_file → IsComing held files name → ⊥
none_coming held files name e (inl (at, reads)) = no_catalogue files name at e reads
none_coming held files name e (inr (reads, before)) = no_stations files name e reads

no_request : (words : List (List ℕ)) (request : Request) (fault : WordFault) → words_value words ≡ Err fault → words_value words ≡ Ok request → ⊥
no_request words request fault e h = cc

pub usage_run : {A B : Type 0} {S : Shelf A} {K : Sink B} {shelf : A} {old new : B} (words : List (List ℕ)) (fault : UsageFault) →
    words_value words ≡ Err (faults.Usage fault) → IsRefused K old new (usage_line fault) → IsRun S K words (Usage fault) shelf shelf old new
usage_run {S = S} {shelf = shelf} words fault e line = record {
  usage = λ other. ((λ is. e ∙ ap (λ u. Err (faults.Usage u)) (same other is)), (λ is. ap Usage (back other is)));
  window = λ other. ((λ is. absurd (cc)), (λ is. absurd (cc)));
  certificate = λ product is. absurd (cc);
  certificate_of_a_cut = λ product is. absurd (cc);
  written = line;
  causes = tt;
  counts = record { no_fault = refl; no_over = refl };
  no_file = λ none. record { no_fault = refl; no_over = refl };
  later = record { faults = omega arith; overs = omega arith };
  completeness = λ request is read held whole. absurd (no_request words request (faults.Usage fault) e is);
  bad_catalogues = λ name at other reads holds read. absurd (no_catalogue (files_in words) name at (files_none words (faults.Usage fault) e) reads);
  bad_stations = λ name other reads held holds read. absurd (no_stations (files_in words) name (files_none words (faults.Usage fault) e) reads);
  long_files = λ name bytes coming told longer read. absurd (none_coming (S.held shelf) (files_in words) name (files_none words (faults.Usage fault) e) coming);
}
  where
    same : (other : UsageFault) → Usage fault ≡ Usage other → fault ≡ other
    same other h = cc

    back : (other : UsageFault) → words_value words ≡ Err (faults.Usage other) → fault ≡ other
    back other h = cc

pub window_run : {A B : Type 0} {S : Shelf A} {K : Sink B} {shelf : A} {old new : B} (words : List (List ℕ)) (fault : WindowFault) →
    words_value words ≡ Err (faults.Window fault) → IsRefused K old new (window_fault_line fault) → IsRun S K words (BadWindow fault) shelf shelf old new
window_run {S = S} {shelf = shelf} words fault e line = record {
  usage = λ other. ((λ is. absurd (cc)), (λ is. absurd (cc)));
  window = λ other. ((λ is. e ∙ ap (λ u. Err (faults.Window u)) (same other is)), (λ is. ap BadWindow (back other is)));
  certificate = λ product is. absurd (cc);
  certificate_of_a_cut = λ product is. absurd (cc);
  written = line;
  causes = tt;
  counts = record { no_fault = refl; no_over = refl };
  no_file = λ none. record { no_fault = refl; no_over = refl };
  later = record { faults = omega arith; overs = omega arith };
  completeness = λ request is read held whole. absurd (no_request words request (faults.Window fault) e is);
  bad_catalogues = λ name at other reads holds read. absurd (no_catalogue (files_in words) name at (files_none words (faults.Window fault) e) reads);
  bad_stations = λ name other reads held holds read. absurd (no_stations (files_in words) name (files_none words (faults.Window fault) e) reads);
  long_files = λ name bytes coming told longer read. absurd (none_coming (S.held shelf) (files_in words) name (files_none words (faults.Window fault) e) coming);
}
  where
    same : (other : WindowFault) → BadWindow fault ≡ BadWindow other → fault ≡ other
    same other h = cc

    back : (other : WindowFault) → words_value words ≡ Err (faults.Window other) → fault ≡ other
    back other h = cc
