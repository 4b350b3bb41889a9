-- The small cases, one by one.
use Rattle.std.proofs.Common.{arith, ◌≡◌, ap, subst, inl, inr, sym, ◌∙◌, ℕ, zero, suc, ◌+◌, ◌≤◌, List, [], ◌∷◌, length, take, Some, refl, pos, codes}
use Rattle.std.proofs.lemmas.Int.{ints}
use Rattle.std.specs.Prelude.{ℤ, Err, None, Ok, Option}
use Rattle.catalogue.specs.Choice.{chosen}
use Rattle.catalogue.specs.Sets.{element_sets}
use Rattle.catalogue.specs.TwoLineFile.{sets_of}
use Rattle.catalogue.specs.declared.fault.CatFault.TheVariants.{Empty, TooMany}
use Rattle.exact.proofs.Integers.{of_int_le, le_of_int}
use Rattle.exact.specs.Rational.{of_int}
use Rattle.pass_text.specs.Refusals.{read_line}
use Rattle.pass_words.specs.Words.{words_value}
use Rattle.run_ends.proofs.OutcomeLemmas.{came_named}
use Rattle.run_ends.specs.Causes.{Came}
use Rattle.run_ends.specs.Files.{IsNamed, ReadsCatalogue, ReadsStations, no_file}
use Rattle.catalogue.specs.declared.entry.Entry.{Entry}
use Rattle.day_command.specs.Day.{GrazesNowhereLong}
use Rattle.top_call.specs.Request.{files_in}
use Rattle.rows_runs.specs.SmallCauses.{EmptyFiles, SmallCauses}
use Rattle.rows_runs.specs.SmallOutputs.{SmallProducts, SmallRefusals}
use Rattle.rows_runs.specs.SmallResolved.{SmallResolved, grazing_end}

-- a front of a text is no longer than the text
take_short : (count : ℕ) (xs : List ℕ) → length (take count xs) ≤ length xs
take_short zero xs = omega arith
take_short (suc n) [] = omega arith
take_short (suc n) (x ∷ xs) = let h = take_short n xs in omega (arith, h)

same_length : (xs ys : List ℕ) → Some xs ≡ Some ys → length xs ≡ length ys
same_length xs ys e = cc

-- a longer text is no front of a text
no_front : (xs ys : List ℕ) (count : ℕ) → length ys + 1 ≤ length xs → Some xs ≡ Some (take count ys) → ⊥
no_front xs ys count more e =
    let same = same_length xs (take count ys) e in
    let short = take_short count ys in
    omega (arith, more, same, short)

pub small_refusals : SmallRefusals
unfolding read_line
small_refusals = record {
  line = record { front = (11, omega arith, refl); whole = λ _. refl; later = omega arith };
  front = record { front = (5, omega arith, refl); whole = λ n. absurd (n (omega arith)); later = omega arith };
  nothing = λ h. let e = h.whole (λ r. omega (arith, r)) in cc;
  front_unfaulted = λ h. let e = h.whole (λ r. omega (arith, r)) in cc;
  longer = λ h. no_front (codes "error toolong\n") (codes "error read\n") h.front.0 (omega arith) h.front.2;
  fallen = λ h. omega (arith, h.later);
}

pub small_products : SmallProducts
small_products = record {
  whole = record { grew = refl; kept = refl };
  faulted = λ h. omega (arith, h.kept);
  no_end = λ h. let e = h.grew in cc;
  nothing = λ h. let e = h.grew in cc;
  cut = record { front = (12, omega arith, refl); rose = omega arith; later = omega arith };
  unfaulted = λ h. omega (arith, h.rose);
  beyond = λ h. no_front (codes "PASSSHOW 1\nEND\nEND\n") (codes "PASSSHOW 1\nEND\n") h.front.0 (omega arith) h.front.2;
}

-- two grazing ticks are not longer than two
short : GrazesNowhereLong grazing_end 2
short from inside all =
    let within = all (of_int (pos from)) (record { low = of_int_le (omega (arith, ints)); high = of_int_le (omega (arith, ints)) }) in
    let low = le_of_int within.low in
    omega (arith, ints, inside, low)

pub small_resolved : SmallResolved
small_resolved = record {
  of_spans = tt;
  of_full = tt;
  of_unresolved = λ h. h;
  of_decays = λ h. h;
  long = λ n. n 5 (omega arith) (λ place h. h);
  short = short;
  slots = refl;
}

-- no word makes no request, and names no file
no_files : files_in [] ≡ no_file
unfolding words_value
no_files = refl

none_named : (name : List ℕ) → IsNamed (files_in []) name → ⊥
none_named name named = elim (subst (λ files. IsNamed files name) no_files named) [ inl h ↦ h.1 | inr h ↦ h ]

no_catalogue : (name : List ℕ) (at : ℤ) → ReadsCatalogue (files_in []) name at → ⊥
no_catalogue name at reads = none_named name (inl (at, reads))

no_stations : (name : List ℕ) → ReadsStations (files_in []) name → ⊥
no_stations name reads = none_named name (inr reads)

none_came : (held : List ℕ → Option (List ℕ)) (name : List ℕ) → Came held (files_in []) name → ⊥
none_came held name came = none_named name (came_named held (files_in []) name came)

pub small_causes : SmallCauses
small_causes = record {
  unnamed = none_named;
  unasked = λ name reads. no_catalogue name (pos 0) reads;
  all_read = λ name named rose. none_named name named;
  all_held = record { catalogue = λ name at reads. absurd (no_catalogue name at reads); stations = λ name reads. absurd (no_stations name reads) };
  catalogue = λ h. no_catalogue h.name h.instant h.reads;
  stations_file = λ h. no_stations h.name h.reads;
  read = λ h. none_came (λ _. None) h.0 h.1;
  long = λ h. none_came (λ _. None) h.name h.came;
  memory = tt;
}

-- an empty file is empty
of_nothing : (at : ℤ) → chosen [] at ≡ Err Empty
unfolding chosen element_sets sets_of
of_nothing at = refl

no_other : (bytes : List ℕ) (at : ℤ) → bytes ≡ [] → chosen bytes at ≡ Err TooMany → ⊥
no_other bytes at told gives = let e = sym (ap (λ b. chosen b at) told ∙ of_nothing at) ∙ gives in cc

-- it gives no satellites
no_sets : (bytes : List ℕ) (at : ℤ) (sets : List Entry) → bytes ≡ [] → chosen bytes at ≡ Ok sets → ⊥
no_sets bytes at sets told gives = let e = sym (ap (λ b. chosen b at) told ∙ of_nothing at) ∙ gives in cc

pub empty_files : EmptyFiles
empty_files = record {
  held = λ at. record { bytes = []; told = refl; fits = omega arith; gives = of_nothing at };
  untold = λ at h. let e = h.told in cc;
  other = λ at h. no_other h.answer.bytes at h.answer.told h.answer.gives;
  want = λ held at h. h.other refl;
  want_of_stations = λ held h. h.other refl;
  short = λ files h. omega (arith, h.longer);
  behind = λ at h. let read = h.before (codes "a") at (refl, refl) in no_sets read.1.bytes at read.0 read.1.told read.1.gives;
  alone = λ at h. h;
}
