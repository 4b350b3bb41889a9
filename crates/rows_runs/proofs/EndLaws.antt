-- Ends of the program, by their outcomes.
use Rattle.std.proofs.Common.{arith, ◌≡◌, ◌≢◌, ◌≤◌, sym, refl, ap, subst, ◌∙◌, inl, inr, ◌⊎◌, List, ℕ, Bool, true, false, Ok, Err, Some}
use Rattle.std.specs.Prelude.{Option, if◌then◌else◌}
use Rattle.outside_io.specs.Words.{AreTold}
use Rattle.pass_words.specs.Words.{words_value}
use Rattle.pass_words.specs.declared.fault.UsageFault.{UsageFault}
use Rattle.pass_words.specs.declared.fault.WindowFault.{WindowFault}
use Rattle.pass_words.specs.declared.fault.WordFault.{WordFault}
use Rattle.pass_words.specs.declared.fault.WordFault.TheVariants as faults
use Rattle.pass_words.specs.declared.request.Request.{Request}
use Rattle.run_ends.specs.Counted.{FaultsRose, OversRose}
use Rattle.top_call.specs.Ended.{IsEnded, IsWordless}
use Rattle.top_call.specs.Outcome.{IsCounted, IsWritten, is_whole, status_of}
use Rattle.top_call.specs.Request.{IsProductOf}
use Rattle.top_call.specs.Run.{IsRun}
use Rattle.top_call.specs.declared.outcome.Outcome.{Outcome}
use Rattle.top_call.specs.declared.outcome.Outcome.TheVariants.{Done, Usage, BadWindow, BadCatalogue, BadStations, ReadFault, TooLong, WriteFault, OutOfMemory}
use Rattle.top_call.specs.declared.outcome.Product.{Product}
use Rattle.rows_runs.specs.EndLaws.{IsPrinted, IsPrintedInPart, StatusesTell}
use Rattle.rows_runs.specs.Small.{Sheet, Store, sheets, stores}

-- of a product that was printed the status is 0 or 1
of_printed : (b : Bool) → (if b then 0 else 1) ≤ 1
of_printed true = omega arith
of_printed false = omega arith

-- the status of want of memory
of_want : (status : ℕ) (outcome : Outcome) → outcome ≡ OutOfMemory → status ≡ status_of outcome → status ≡ 9
of_want status outcome want is = is ∙ ap status_of want

printed_by : (told : Option (List (List ℕ))) (words : List (List ℕ)) (shelf shelf' : Store) (out out' : Sheet) (outcome : Outcome) → AreTold told words →
    ((product : Product) → outcome ≡ Done product → IsProductOf shelf.held words product) →
    IsWritten sheets outcome out out' → IsCounted stores outcome shelf shelf' → status_of outcome ≤ 1 → IsPrinted told shelf shelf' out out'
printed_by told words shelf shelf' out out' (Done product) given done written counts le =
    record { words = words; given = given; product = product; certified = done product refl; written = written.grew; read = counts; put = written.kept }
printed_by told words shelf shelf' out out' (Usage fault) given done written counts le = absurd (omega (arith, le))
printed_by told words shelf shelf' out out' (BadWindow fault) given done written counts le = absurd (omega (arith, le))
printed_by told words shelf shelf' out out' (BadCatalogue fault) given done written counts le = absurd (omega (arith, le))
printed_by told words shelf shelf' out out' (BadStations fault) given done written counts le = absurd (omega (arith, le))
printed_by told words shelf shelf' out out' ReadFault given done written counts le = absurd (omega (arith, le))
printed_by told words shelf shelf' out out' TooLong given done written counts le = absurd (omega (arith, le))
printed_by told words shelf shelf' out out' (WriteFault product) given done written counts le = absurd (omega (arith, le))
printed_by told words shelf shelf' out out' OutOfMemory given done written counts le = absurd (omega (arith, le))

unread_by : (shelf shelf' : Store) (outcome : Outcome) → IsCounted stores outcome shelf shelf' → status_of outcome ≡ 6 → FaultsRose stores shelf shelf'
unread_by shelf shelf' (Done product) counts is = let h = of_printed (is_whole product) in absurd (omega (arith, is, h))
unread_by shelf shelf' (Usage fault) counts is = absurd (omega (arith, is))
unread_by shelf shelf' (BadWindow fault) counts is = absurd (omega (arith, is))
unread_by shelf shelf' (BadCatalogue fault) counts is = absurd (omega (arith, is))
unread_by shelf shelf' (BadStations fault) counts is = absurd (omega (arith, is))
unread_by shelf shelf' ReadFault counts is = counts
unread_by shelf shelf' TooLong counts is = absurd (omega (arith, is))
unread_by shelf shelf' (WriteFault product) counts is = absurd (omega (arith, is))
unread_by shelf shelf' OutOfMemory counts is = absurd (omega (arith, is))

long_by : (shelf shelf' : Store) (outcome : Outcome) → IsCounted stores outcome shelf shelf' → status_of outcome ≡ 7 → OversRose stores shelf shelf'
long_by shelf shelf' (Done product) counts is = let h = of_printed (is_whole product) in absurd (omega (arith, is, h))
long_by shelf shelf' (Usage fault) counts is = absurd (omega (arith, is))
long_by shelf shelf' (BadWindow fault) counts is = absurd (omega (arith, is))
long_by shelf shelf' (BadCatalogue fault) counts is = absurd (omega (arith, is))
long_by shelf shelf' (BadStations fault) counts is = absurd (omega (arith, is))
long_by shelf shelf' ReadFault counts is = absurd (omega (arith, is))
long_by shelf shelf' TooLong counts is = counts
long_by shelf shelf' (WriteFault product) counts is = absurd (omega (arith, is))
long_by shelf shelf' OutOfMemory counts is = absurd (omega (arith, is))

cut_by : (told : Option (List (List ℕ))) (words : List (List ℕ)) (shelf : Store) (out out' : Sheet) (outcome : Outcome) → AreTold told words →
    ((product : Product) → outcome ≡ WriteFault product → IsProductOf shelf.held words product) →
    IsWritten sheets outcome out out' → status_of outcome ≡ 8 → IsPrintedInPart told shelf out out'
cut_by told words shelf out out' (Done product) given cut written is = let h = of_printed (is_whole product) in absurd (omega (arith, is, h))
cut_by told words shelf out out' (Usage fault) given cut written is = absurd (omega (arith, is))
cut_by told words shelf out out' (BadWindow fault) given cut written is = absurd (omega (arith, is))
cut_by told words shelf out out' (BadCatalogue fault) given cut written is = absurd (omega (arith, is))
cut_by told words shelf out out' (BadStations fault) given cut written is = absurd (omega (arith, is))
cut_by told words shelf out out' ReadFault given cut written is = absurd (omega (arith, is))
cut_by told words shelf out out' TooLong given cut written is = absurd (omega (arith, is))
cut_by told words shelf out out' (WriteFault product) given cut written is =
    record { words = words; given = given; product = product; certified = cut product refl; front = written.front; rose = written.rose }
cut_by told words shelf out out' OutOfMemory given cut written is = absurd (omega (arith, is))

-- status 2 and 3 are of faults of the words
usage_back : (outcome : Outcome) → status_of outcome ≡ 2 → (fault : UsageFault) × (outcome ≡ Usage fault)
usage_back (Done product) is = let h = of_printed (is_whole product) in absurd (omega (arith, is, h))
usage_back (Usage fault) is = (fault, refl)
usage_back (BadWindow fault) is = absurd (omega (arith, is))
usage_back (BadCatalogue fault) is = absurd (omega (arith, is))
usage_back (BadStations fault) is = absurd (omega (arith, is))
usage_back ReadFault is = absurd (omega (arith, is))
usage_back TooLong is = absurd (omega (arith, is))
usage_back (WriteFault product) is = absurd (omega (arith, is))
usage_back OutOfMemory is = absurd (omega (arith, is))

window_back : (outcome : Outcome) → status_of outcome ≡ 3 → (fault : WindowFault) × (outcome ≡ BadWindow fault)
window_back (Done product) is = let h = of_printed (is_whole product) in absurd (omega (arith, is, h))
window_back (Usage fault) is = absurd (omega (arith, is))
window_back (BadWindow fault) is = (fault, refl)
window_back (BadCatalogue fault) is = absurd (omega (arith, is))
window_back (BadStations fault) is = absurd (omega (arith, is))
window_back ReadFault is = absurd (omega (arith, is))
window_back TooLong is = absurd (omega (arith, is))
window_back (WriteFault product) is = absurd (omega (arith, is))
window_back OutOfMemory is = absurd (omega (arith, is))

-- words that make a request have no fault
no_fault : (words : List (List ℕ)) (request : Request) (fault : WordFault) → words_value words ≡ Ok request → words_value words ≡ Err fault → ⊥
no_fault words request fault e h = cc

module _ (told : Option (List (List ℕ))) (status : ℕ) (shelf shelf' : Store) (out out' : Sheet) (h : IsEnded stores sheets told status shelf shelf' out out') where
  printed : status ≤ 1 → IsPrinted told shelf shelf' out out'
  printed le = elim (h.run) [
    | inl run ↦ printed_by told h.words shelf shelf' out out' h.outcome h.given run.certificate run.written run.counts (rw (sym h.status_is) le)
    | inr want ↦ let nine = of_want status h.outcome want.want h.status_is in absurd (omega (arith, nine, le))
  ]

  unread : status ≡ 6 → FaultsRose stores shelf shelf'
  unread is = elim (h.run) [
    | inl run ↦ unread_by shelf shelf' h.outcome run.counts (sym h.status_is ∙ is)
    | inr want ↦ let nine = of_want status h.outcome want.want h.status_is in absurd (omega (arith, nine, is))
  ]

  long : status ≡ 7 → OversRose stores shelf shelf'
  long is = elim (h.run) [
    | inl run ↦ long_by shelf shelf' h.outcome run.counts (sym h.status_is ∙ is)
    | inr want ↦ let nine = of_want status h.outcome want.want h.status_is in absurd (omega (arith, nine, is))
  ]

  cut : status ≡ 8 → IsPrintedInPart told shelf out out'
  cut is = elim (h.run) [
    | inl run ↦ cut_by told h.words shelf out out' h.outcome h.given run.certificate_of_a_cut run.written (sym h.status_is ∙ is)
    | inr want ↦ let nine = of_want status h.outcome want.want h.status_is in absurd (omega (arith, nine, is))
  ]

module _ (words : List (List ℕ)) (status : ℕ) (shelf shelf' : Store) (out out' : Sheet) (h : IsEnded stores sheets (Some words) status shelf shelf' out out') where
  usage : (fault : UsageFault) → words_value words ≡ Err (faults.Usage fault) → (status ≡ 2) ⊎ (status ≡ 9)
  usage fault e = elim (h.run) [
    | inl run ↦ inl (h.status_is ∙ ap status_of ((run.usage fault).1 (ap words_value h.given ∙ e)))
    | inr want ↦ inr (of_want status h.outcome want.want h.status_is)
  ]

  window : (fault : WindowFault) → words_value words ≡ Err (faults.Window fault) → (status ≡ 3) ⊎ (status ≡ 9)
  window fault e = elim (h.run) [
    | inl run ↦ inl (h.status_is ∙ ap status_of ((run.window fault).1 (ap words_value h.given ∙ e)))
    | inr want ↦ inr (of_want status h.outcome want.want h.status_is)
  ]

  not_usage : (request : Request) → words_value words ≡ Ok request → status ≢ 2
  not_usage request e is = elim (h.run) [
    | inl run ↦
        let back = usage_back h.outcome (sym h.status_is ∙ is) in
        no_fault h.words request (faults.Usage back.0) (ap words_value h.given ∙ e) ((run.usage back.0).0 back.1)
    | inr want ↦ let nine = of_want status h.outcome want.want h.status_is in omega (arith, nine, is)
  ]

  not_window : (request : Request) → words_value words ≡ Ok request → status ≢ 3
  not_window request e is = elim (h.run) [
    | inl run ↦
        let back = window_back h.outcome (sym h.status_is ∙ is) in
        no_fault h.words request (faults.Window back.0) (ap words_value h.given ∙ e) ((run.window back.0).0 back.1)
    | inr want ↦ let nine = of_want status h.outcome want.want h.status_is in omega (arith, nine, is)
  ]

pub statuses_tell : StatusesTell
statuses_tell = record {
  printed = λ told status shelf shelf' out out' h le. printed told status shelf shelf' out out' h le;
  unread = λ told status shelf shelf' out out' h is. unread told status shelf shelf' out out' h is;
  long = λ told status shelf shelf' out out' h is. long told status shelf shelf' out out' h is;
  cut = λ told status shelf shelf' out out' h is. cut told status shelf shelf' out out' h is;
  usage = λ words fault status shelf shelf' out out' h e. usage words status shelf shelf' out out' h fault e;
  window = λ words fault status shelf shelf' out out' h e. window words status shelf shelf' out out' h fault e;
  asked = λ words request status shelf shelf' out out' h e. (not_usage words status shelf shelf' out out' h request e, not_window words status shelf shelf' out out' h request e);
}
