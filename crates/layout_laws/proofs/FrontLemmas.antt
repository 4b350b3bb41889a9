-- How a text tells where its first word ends, and which word that is.
use Rattle.std.proofs.Common.{◌≡◌, ℕ, zero, suc, ◌<◌, ◌≤◌, ◌^◌, ◌+◌, ◌%◌, refl, ap, arith, List, [], ◌∷◌, ◌++◌, length, drop, get_or, All, decimal, ℤ, pos, negsuc, Bool, true, false, ◌&&◌, nat_lt}
use Rattle.std.specs.Fmt.{signed_decimal}
use Rattle.std.specs.List.{list_all}
use Rattle.std.proofs.lemmas.Bool.{ltb-true}
use Rattle.std.proofs.lemmas.Fmt.{decimal_by_steps, decimal_injective, signed_decimal_injective}
use Rattle.std.proofs.lemmas.List.Elements.{All-append, All-cons, All-tail}
use lib.Signed.{mag}

-- bytes above a limit
abbrev pub Above : ℕ → List ℕ → Type 0
Above limit text = All (λ byte. limit < byte) text

-- no byte is a blank, nor the end of a line
abbrev pub IsWord : List ℕ → Type 0
IsWord text = Above 32 text

-- a byte alone
pub one_word : (limit byte : ℕ) → limit < byte → Above limit (byte ∷ [])
one_word limit byte h zero d k = h
one_word limit byte h (suc i) d k = absurd (omega arith)

-- no byte at all
pub above-nil : (limit : ℕ) → Above limit []
above-nil limit k d h = absurd (omega arith)

-- texts of bytes above a limit are told from what follows, which begins with a byte that is not above it
pub front : (limit : ℕ) (a b : List ℕ) (end : ℕ) (r s : List ℕ) → end ≤ limit → Above limit a → Above limit b → a ++ end ∷ r ≡ b ++ end ∷ s → (a ≡ b) × (r ≡ s)
front limit [] [] end r s low h k e = (refl, ap (drop 1) e)
front limit [] (y ∷ b) end r s low h k e =
    let same : end ≡ y = ap (λ t. get_or t 0 0) e in
    let high : limit < y = k 0 0 (omega arith) in
    absurd (omega arith)
front limit (x ∷ a) [] end r s low h k e =
    let same : x ≡ end = ap (λ t. get_or t 0 0) e in
    let high : limit < x = h 0 0 (omega arith) in
    absurd (omega arith)
front limit (x ∷ a) (y ∷ b) end r s low h k e =
    let same : x ≡ y = ap (λ t. get_or t 0 0) e in
    let rest = front limit a b end r s low (All-tail (λ byte. limit < byte) x a h) (All-tail (λ byte. limit < byte) y b k) (ap (drop 1) e) in
    (rw (same, rest.0) refl, rest.1)

-- texts of one length are told from what follows
pub cut : (a b r s : List ℕ) → length a ≡ length b → a ++ r ≡ b ++ s → (a ≡ b) × (r ≡ s)
cut [] [] r s l e = (refl, e)
cut [] (y ∷ b) r s l e = absurd (omega arith)
cut (x ∷ a) [] r s l e = absurd (omega arith)
cut (x ∷ a) (y ∷ b) r s l e =
    let same : x ≡ y = ap (λ t. get_or t 0 0) e in
    let rest = cut a b r s (omega arith) (ap (drop 1) e) in
    (rw (same, rest.0) refl, rest.1)

-- decimals are words
pub decimal_word : (n : ℕ) → n < 2 ^ 64 → IsWord (decimal n)
decimal_word n h =
    decimal_by_steps (λ m ds. IsWord ds)
    (λ m low. one_word 32 (48 + m) (omega arith))
    (λ m ds high word. All-append (λ byte. 32 < byte) ds ((48 + m % 10) ∷ []) word (one_word 32 (48 + m % 10) (omega arith)))
    n h

-- signed decimals are words
pub signed_word : (z : ℤ) → mag z < 2 ^ 63 → IsWord (signed_decimal z)
signed_word (pos n) h = decimal_word n (omega arith)
signed_word (negsuc n) h = All-cons (λ byte. 32 < byte) 45 (decimal (suc n)) (omega arith) (decimal_word (suc n) (omega arith))

-- a number before a blank or the end of its line
pub decimal-then : (m n end : ℕ) (r s : List ℕ) → end ≤ 32 → m < 2 ^ 64 → n < 2 ^ 64 → decimal m ++ end ∷ r ≡ decimal n ++ end ∷ s → (m ≡ n) × (r ≡ s)
decimal-then m n end r s low h k e =
    let cut = front 32 (decimal m) (decimal n) end r s low (decimal_word m h) (decimal_word n k) e in
    (decimal_injective m n h k cut.0, cut.1)

-- a signed number before a blank or the end of its line
pub signed-then : (y z : ℤ) (end : ℕ) (r s : List ℕ) → end ≤ 32 → mag y < 2 ^ 63 → mag z < 2 ^ 63 → signed_decimal y ++ end ∷ r ≡ signed_decimal z ++ end ∷ s → (y ≡ z) × (r ≡ s)
signed-then y z end r s low h k e =
    let cut = front 32 (signed_decimal y) (signed_decimal z) end r s low (signed_word y h) (signed_word z k) e in
    (signed_decimal_injective y z h k cut.0, cut.1)

-- a text that passes a test of each byte is a word
pub word_of : (text : List ℕ) → list_all (nat_lt 32) text ≡ true → IsWord text
word_of [] e = above-nil 32
word_of (first ∷ rest) e = by (nat_lt 32 first) refl (word_of rest) e
  where
    by : (passes : Bool) → nat_lt 32 first ≡ passes → (list_all (nat_lt 32) rest ≡ true → IsWord rest) → (passes && list_all (nat_lt 32) rest) ≡ true → IsWord (first ∷ rest)
    by true p below h = All-cons (λ byte. 32 < byte) first rest (ltb-true _ _ p) (below h)
    by false p below h = cc
