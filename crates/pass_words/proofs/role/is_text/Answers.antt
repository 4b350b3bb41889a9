use Rattle.std.proofs.Common.{◌≡◌, ℕ, List, Result, Ok, Err, sym, ◌∙◌}
use Rattle.std.proofs.lemmas.Bool.{false_from_ne_true}
use Rattle.std.proofs.lemmas.Str.{IsUtf8-from_is_utf8, is_utf8-from_IsUtf8}
use Rattle.std.specs.Result.{MatchResult, is_ok}
use Rattle.std.specs.Str.{IsUtf8, IsValidUpTo, is_utf8}
use Rattle.pass_words.proofs.role.is_text.Goals as goal

-- a reading that succeeds on UTF-8 alone is a test of it
is_ok-is_utf8 : {T E : Type 0} (bytes : List ℕ) (r : Result T E) (P : T → Type 0) (Q : E → Type 0)
    → MatchResult r (λ t. P t × IsUtf8 bytes) (λ e. (¬ (IsUtf8 bytes)) × Q e) → is_ok r ≡ is_utf8 bytes
is_ok-is_utf8 bytes (Ok t) P Q h = sym (is_utf8-from_IsUtf8 bytes h.1)
is_ok-is_utf8 bytes (Err e) P Q h = sym (false_from_ne_true _ (λ yes. h.0 (IsUtf8-from_is_utf8 bytes yes)))

pub returns : goal.returns
returns c =
    let word = c.args.word.now in
    c.is_ok.ensures.value ∙ is_ok-is_utf8 word c.from_utf8.result (λ s. s.now ≡ word) (λ e. IsValidUpTo word e.valid_up_to) c.from_utf8.ensures.cases
