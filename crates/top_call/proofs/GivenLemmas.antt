-- Words that are read one after the other.
use Rattle.std.proofs.Common.{◌≡◌, ℕ, ◌+◌, ◌≤◌, ◌<◌, List, [], ◌∷◌, ◌++◌, length, drop, get_or, Option, None, Some, refl, sym, ap, ◌∙◌, inl, inr, ◌⊎◌, append_assoc}
use Rattle.std.proofs.lemmas.List.{append-nil}
use Rattle.std.proofs.lemmas.Option.{none-some, slice_get_cases}
use Rattle.std.proofs.Math.ListN.{drop_of_length-le}
use Rattle.std.specs.Prelude.{slice_get}
use Rattle.outside_io.specs.Words.{AreTold}
use Rattle.run_ends.proofs.PrintedLemmas.{drop_at}
use Rattle.top_call.specs.Given.{IsGiven}

-- the words up to this place are read
abbrev pub IsFront : Option (List (List ℕ)) → List (List ℕ) → ℕ → Type 0
IsFront None words place = Unit {0}
IsFront (Some told) words place = words ++ drop place told ≡ told

pub none_read : (told : Option (List (List ℕ))) → IsFront told [] 0
none_read None = tt
none_read (Some told) = refl

pub one_more_read : (told : Option (List (List ℕ))) (words : List (List ℕ)) (place : ℕ) (word : List ℕ) → IsFront told words place → IsGiven told place (Some word) →
    IsFront told (words ++ (word ∷ [])) (place + 1)
one_more_read None words place word h is = tt
one_more_read (Some told) words place word h is =
    append_assoc words (word ∷ []) (drop (place + 1) told) ∙ ap (λ rest. words ++ rest) (sym (drop_at told place word is)) ∙ h

nothing_left : (told : List (List ℕ)) (place : ℕ) → slice_get told place ≡ None →
    ((x : List ℕ) × (place < length told) × (slice_get told place ≡ Some x) × (get_or told place x ≡ x)) ⊎ ((length told ≤ place) × (slice_get told place ≡ None)) →
    drop place told ≡ []
nothing_left told place none (inl (x, inside, some, is)) = absurd (none-some _ (sym none ∙ some))
nothing_left told place none (inr (past, is)) = drop_of_length-le told past

pub all_read : (told : Option (List (List ℕ))) (words : List (List ℕ)) (place : ℕ) → IsFront told words place → IsGiven told place None → AreTold told words
all_read None words place h is = tt
all_read (Some told) words place h is =
    sym (append-nil words) ∙ ap (λ rest. words ++ rest) (sym (nothing_left told place is (slice_get_cases told place).1)) ∙ h

-- some words are those that are told
pub told_words : (told : Option (List (List ℕ))) → (words : List (List ℕ)) × AreTold told words
told_words None = ([], tt)
told_words (Some told) = (told, refl)
