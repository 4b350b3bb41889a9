-- Lines of two lists side by side, printed one after the other.
use Rattle.std.proofs.Common.{◌≡◌, refl, ℕ, ◌+◌, ◌≤◌, List, [], ◌∷◌, ◌++◌, length, drop, Some, sym, subst, ap, ◌∙◌, append_assoc}
use Rattle.std.proofs.lemmas.List.{append-nil}
use Rattle.std.proofs.Math.ListN.{drop_of_length-le}
use Rattle.std.specs.Prelude.{ℤ, slice_get}
use Rattle.outside_io.specs.declared.sink.Sink.{Ghosts}
use Rattle.outside_io.proofs.Puts.{grew_nothing}
use Rattle.book_command.specs.BookLayout.{book_block, book_blocks}
use Rattle.contact_alloc.specs.declared.bid.Bid.{Bid}
use Rattle.plan_command.proofs.NumberedLemmas.{AreNumbered}
use Rattle.plan_text.specs.BookLines.{price_lines, price_text, use_lines, use_text}
use Rattle.run_ends.specs.Printed.{IsCutOff, IsWhole}
use Rattle.run_ends.proofs.PrintedLemmas.{cut_first, cut_second, drop_at, whole_then}

pub book_blocks_are : (start : ℤ) → AreNumbered (book_block start) (book_blocks start)
book_blocks_are start = record { none = λ n. refl; more = λ n booking rest. refl }

-- a text was written which the rest completes to the whole
pub record IsPrintedBut {B : Type 0} (K : Ghosts B) (old now : B) (rest all : List ℕ) : Type 0 where
  pub text : List ℕ
  pub whole : IsWhole K old now text
  pub completes : text ++ rest ≡ all

-- before the first line
pub all_left : {B : Type 0} (K : Ghosts B) (o : B) (all : List ℕ) → IsPrintedBut K o o all all
all_left K o all = record { text = []; whole = record { grew = grew_nothing (K.written o); kept = refl }; completes = refl }

-- after one more line
pub less_left : {B : Type 0} {K : Ghosts B} {o p q : B} {before line rest all : List ℕ} → before ≡ line ++ rest → IsPrintedBut K o p before all → IsWhole K p q line → IsPrintedBut K o q rest all
less_left {line = line} {rest} e h w = record {
  text = h.text ++ line;
  whole = whole_then h.text line h.whole w;
  completes = append_assoc h.text line rest ∙ ap (λ t. h.text ++ t) (sym e) ∙ h.completes;
}

-- where the next line was cut off
pub cut_left : {B : Type 0} {K : Ghosts B} {o p q : B} {before line all : List ℕ} (rest : List ℕ) → before ≡ line ++ rest → IsPrintedBut K o p before all → IsCutOff K p q line → IsCutOff K o q all
cut_left {K = K} {o} {q = q} {line = line} rest e h w =
    subst (IsCutOff K o q) (ap (λ t. h.text ++ t) (sym e) ∙ h.completes) (cut_second h.text (line ++ rest) h.whole (cut_first line rest w))

-- after the last line
pub none_left : {B : Type 0} {K : Ghosts B} {o p : B} {rest all : List ℕ} → rest ≡ [] → IsPrintedBut K o p rest all → IsWhole K o p all
none_left {K = K} {o} {p} e h = subst (IsWhole K o p) (sym (append-nil h.text) ∙ ap (λ t. h.text ++ t) (sym e) ∙ h.completes) h.whole

-- ---- contacts with their antennas
pub uses_at : (start : ℤ) (bids : List Bid) (used : List ℕ) (k : ℕ) (bid : Bid) (antenna : ℕ) → slice_get bids k ≡ Some bid → slice_get used k ≡ Some antenna →
    use_lines start (drop k bids) (drop k used) ≡ use_text start bid.contact antenna ++ use_lines start (drop (k + 1) bids) (drop (k + 1) used)
uses_at start bids used k bid antenna e f =
    ap (λ t. use_lines start t (drop k used)) (drop_at bids k bid e) ∙ ap (λ t. use_lines start (bid ∷ drop (k + 1) bids) t) (drop_at used k antenna f)

pub no_uses : (start : ℤ) (bids : List Bid) (used : List ℕ) (k : ℕ) → length bids ≤ k → use_lines start (drop k bids) (drop k used) ≡ []
no_uses start bids used k l = ap (λ t. use_lines start t (drop k used)) (drop_of_length-le bids l)

-- ---- stretches with their prices
pub prices_at : (start : ℤ) (ends prices : List ℕ) (k from to price : ℕ) → slice_get ends k ≡ Some from → slice_get ends (k + 1) ≡ Some to → slice_get prices k ≡ Some price →
    price_lines start (drop k ends) (drop k prices) ≡ price_text start from to price ++ price_lines start (drop (k + 1) ends) (drop (k + 1) prices)
prices_at start ends prices k from to price e f g =
    let next = drop_at ends (k + 1) to f in
    ap (λ t. price_lines start (drop k ends) t) (drop_at prices k price g)
    ∙ ap (λ t. price_lines start t (price ∷ drop (k + 1) prices)) (drop_at ends k from e)
    ∙ ap (λ t. price_lines start (from ∷ t) (price ∷ drop (k + 1) prices)) next
    ∙ ap (λ t. price_text start from to price ++ price_lines start t (drop (k + 1) prices)) (sym next)

-- without prices there is no line
no_price : (start : ℤ) (ends : List ℕ) → price_lines start ends [] ≡ []
no_price start [] = refl
no_price start (a ∷ []) = refl
no_price start (a ∷ b ∷ rest) = refl

pub no_prices : (start : ℤ) (ends prices : List ℕ) (k : ℕ) → length prices ≤ k → price_lines start (drop k ends) (drop k prices) ≡ []
no_prices start ends prices k l = ap (λ t. price_lines start (drop k ends) t) (drop_of_length-le prices l) ∙ no_price start (drop k ends)
