-- A word of words in vectors.
use Rattle.std.proofs.Common.{◌≡◌, ℕ, ◌<◌, List, ◌++◌, length, get_or, take, Vec, Global, Some, map, option_map, sym, ap, subst, ◌∙◌}
use Rattle.std.proofs.Math.Seq.{take-append_seam}
use Rattle.std.proofs.lemmas.Option.{slice_get-get_or, slice_get-map}
use Rattle.std.specs.Prelude.{slice_get}

abbrev Bytes : Type 0
Bytes = Vec ℕ Global

-- the word at a place is the bytes of the vector there
word_at : (words : List Bytes) (k : ℕ) (word : Bytes) → k < length words → word ≡ get_or words k word →
    slice_get (map (λ (v : Bytes). v.items) words) k ≡ Some word.items
word_at words k word h e =
    slice_get-map (λ (v : Bytes). v.items) words k ∙ ap (option_map (λ (v : Bytes). v.items)) (slice_get-get_or words k word h ∙ ap Some (sym e))

-- it stands at the front of a buffer that its bytes were copied to
pub word_copied : (all : List (List ℕ)) (words : List Bytes) (k : ℕ) (word : Bytes) (bytes front rest : List ℕ) →
    all ≡ map (λ (v : Bytes). v.items) words → k < length words → word ≡ get_or words k word → bytes ≡ word.items → front ≡ bytes →
    slice_get all k ≡ Some (take (length bytes) (front ++ rest))
word_copied all words k word bytes front rest is h e copy at_front =
    ap (λ ws. slice_get ws k) is ∙ word_at words k word h e
    ∙ ap Some (sym copy ∙ sym (take-append_seam bytes rest) ∙ ap (λ f. take (length bytes) (f ++ rest)) (sym at_front))
