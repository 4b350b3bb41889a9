-- What is printed of a decimal is read as it.
use Rattle.std.proofs.Common.{◌≡◌, arith, ℕ, zero, suc, ◌+◌, ◌-◌, ◌*◌, ◌/◌, ◌%◌, ◌^◌, ◌<◌, ◌≤◌, ◌==◌, Bool, true, false, List, [], ◌∷◌, ◌++◌, length, drop, decimal, position, None, Result, Ok, refl, sym, ap, ◌∙◌, ne_eqb, le-leb, unsigned_abs, int_lt, ℤ, pos, ◌-ℤ◌}
use Rattle.std.specs.Fmt.{sign_text}
use Rattle.std.specs.List.{list_all, position_or_len, before_first, after_first}
use Rattle.std.specs.Str.Parse.{starts_with_minus, without_leading_sign}
use Rattle.std.proofs.lemmas.List.{length-append, take_at, drop_at, drop_all, append_assoc, append-nil}
use Rattle.std.proofs.lemmas.List.Folds.{list_all-append}
use Rattle.std.proofs.lemmas.List.Sums.{fold-append}
use Rattle.std.proofs.lemmas.Nat.{div-add-mod'}
use Rattle.std.proofs.Math.Nat.{div-le_self}
use Rattle.decimals.specs.declared.fault.NumFault.{NumFault}
use Rattle.decimals.specs.Decimal.{DecimalRecord, IsDecimal}
use Rattle.decimals.specs.Normal.{signed}
use Rattle.decimals.specs.NumberText.{is_digit, is_point, is_exponent_mark, number_written, are_digits, fields_of}
use Rattle.decimals.specs.DecimalText.{as_decimal, decimal_of_fields, decimal_value}
use Rattle.decimals.specs.PrintedDecimal.{padded, decimal_text}
use Rattle.decimals.proofs.DigitLemmas.{and_left, digit_most, digit_least, Writes, decimal_writes, padded_writes, padded_length, number_behind, past_digits, position_none}
use Rattle.decimals.proofs.AsDecimalLemmas.{as_decimal-whole, as_decimal-fraction}
use Rattle.decimals.proofs.PrintLemmas.{rest_below, rest_short}
use Rattle.decimals.proofs.UnitsLemmas.{ten_pow_fits, signed_size}
use Rattle.decimals.proofs.ReadLemmas.{read_without, mantissa_value}

-- a digit is no mark
no_exponent_mark : (byte : ℕ) → is_digit byte ≡ true → is_exponent_mark byte ≡ false
no_exponent_mark byte e =
    let most = digit_most byte e in
    rw (ne_eqb byte 69 (λ k. absurd (omega (arith, most, k))), ne_eqb byte 101 (λ k. absurd (omega (arith, most, k)))) refl

no_point : (byte : ℕ) → is_digit byte ≡ true → is_point byte ≡ false
no_point byte e = let least = digit_least byte e in ne_eqb byte 46 (λ k. absurd (omega (arith, least, k)))

-- ---- the sign

body_sign : (byte : ℕ) (rest : List ℕ) → is_digit byte ≡ true → (starts_with_minus (byte ∷ rest) ≡ false) × (without_leading_sign (byte ∷ rest) ≡ byte ∷ rest)
body_sign byte rest e =
    let least = digit_least byte e in
    let no_minus : (byte == 45) ≡ false = ne_eqb byte 45 (λ k. absurd (omega (arith, least, k))) in
    let no_plus : (byte == 43) ≡ false = ne_eqb byte 43 (λ k. absurd (omega (arith, least, k))) in
    (no_minus, rw (no_minus, no_plus) refl)

minus_of_text : (minus : Bool) (byte : ℕ) (rest : List ℕ) → is_digit byte ≡ true → minus ≡ starts_with_minus (sign_text minus ++ byte ∷ rest)
minus_of_text true byte rest e = refl
minus_of_text false byte rest e = sym (body_sign byte rest e).0

body_of_text : (minus : Bool) (byte : ℕ) (rest : List ℕ) → is_digit byte ≡ true → byte ∷ rest ≡ without_leading_sign (sign_text minus ++ byte ∷ rest)
body_of_text true byte rest e = refl
body_of_text false byte rest e = sym (body_sign byte rest e).1

-- a body of digits and perhaps a point is read with its sign
read_body : (minus : Bool) (body : List ℕ) → 0 < length body → ((byte : ℕ) (rest : List ℕ) → body ≡ byte ∷ rest → is_digit byte ≡ true) → position is_exponent_mark body ≡ None →
    decimal_of_fields (fields_of minus body None) ≡ decimal_value (sign_text minus ++ body)
read_body minus [] some first none = absurd (omega arith)
read_body minus (byte ∷ rest) some first none =
    let digit = first byte rest refl in
    read_without (sign_text minus ++ byte ∷ rest) (byte ∷ rest) minus (minus_of_text minus byte rest digit) (body_of_text minus byte rest digit) none

-- ---- the body

-- a body by its two parts
cut_value : (minus : Bool) (body whole fraction : List ℕ) → before_first is_point body ≡ whole → after_first is_point body ≡ fraction → are_digits (whole ++ fraction) ≡ true →
    decimal_of_fields (fields_of minus body None) ≡ as_decimal minus (number_written (whole ++ fraction)) (pos 0 -ℤ pos (length fraction))
cut_value minus body whole fraction before after digits =
    mantissa_value minus body None refl (rw (before, after) digits)
    ∙ ap (λ t. as_decimal minus (number_written (t ++ after_first is_point body)) (pos 0 -ℤ pos (length (after_first is_point body)))) before
    ∙ ap (λ t. as_decimal minus (number_written (whole ++ t)) (pos 0 -ℤ pos (length t))) after

digits_of_both : (whole fraction : List ℕ) → list_all is_digit whole ≡ true → list_all is_digit fraction ≡ true → 0 < length whole → are_digits (whole ++ fraction) ≡ true
digits_of_both whole fraction p q some =
    let all : list_all is_digit (whole ++ fraction) ≡ true = list_all-append is_digit whole fraction ∙ rw (p, q) refl in
    let one : 1 ≤ length (whole ++ fraction) = omega (arith, some, length-append {A = ℕ} whole fraction) in
    rw (all, le-leb 1 (length (whole ++ fraction)) one) refl

-- a body without a point
whole_value : (minus : Bool) (whole : List ℕ) (n : ℕ) → Writes n whole → decimal_of_fields (fields_of minus (whole ++ []) None) ≡ as_decimal minus n (pos 0 -ℤ pos 0)
whole_value minus whole n h =
    let place : position_or_len is_point (whole ++ []) ≡ length whole + 0 = past_digits is_point no_point whole [] h.digits in
    let before : before_first is_point (whole ++ []) ≡ whole = take_at whole [] (position_or_len is_point (whole ++ [])) (omega (arith, place)) in
    let after : after_first is_point (whole ++ []) ≡ [] = drop_all (position_or_len is_point (whole ++ []) + 1) (whole ++ []) (omega (arith, place, length-append {A = ℕ} whole [])) in
    let same : number_written (whole ++ []) ≡ n = ap number_written (append-nil whole) ∙ h.number in
    cut_value minus (whole ++ []) whole [] before after (digits_of_both whole [] h.digits refl h.some)
    ∙ ap (λ t. as_decimal minus t (pos 0 -ℤ pos 0)) same

-- a body with a point
point_value : (minus : Bool) (whole fraction : List ℕ) (n r : ℕ) → Writes n whole → Writes r fraction → decimal_of_fields (fields_of minus (whole ++ 46 ∷ fraction) None) ≡ as_decimal minus (n * 10 ^ length fraction + r) (pos 0 -ℤ pos (length fraction))
point_value minus whole fraction n r h k =
    let body = whole ++ 46 ∷ fraction in
    let place : position_or_len is_point body ≡ length whole + 0 = past_digits is_point no_point whole (46 ∷ fraction) h.digits in
    let before : before_first is_point body ≡ whole = take_at whole (46 ∷ fraction) (position_or_len is_point body) (omega (arith, place)) in
    let after : after_first is_point body ≡ fraction = ap (drop (position_or_len is_point body + 1)) (sym (append_assoc whole (46 ∷ []) fraction)) ∙ drop_at (whole ++ 46 ∷ []) fraction (position_or_len is_point body + 1) (omega (arith, place, length-append {A = ℕ} whole (46 ∷ []))) in
    let same : number_written (whole ++ fraction) ≡ n * 10 ^ length fraction + r =
    fold-append (λ number byte. number * 10 + (byte - 48)) 0 whole fraction ∙ rw h.number (number_behind n fraction ∙ ap (λ t. n * 10 ^ length fraction + t) k.number) in
    cut_value minus body whole fraction before after (digits_of_both whole fraction h.digits k.digits h.some)
    ∙ ap (λ t. as_decimal minus t (pos 0 -ℤ pos (length fraction))) same

-- no exponent stands in a body
no_exponent : (whole fraction : List ℕ) → list_all is_digit whole ≡ true → position_or_len is_exponent_mark fraction ≡ length fraction → position is_exponent_mark (whole ++ fraction) ≡ None
no_exponent whole fraction digits rest =
    position_none is_exponent_mark (whole ++ fraction) (past_digits is_exponent_mark no_exponent_mark whole fraction digits ∙ rw rest (sym (length-append whole fraction)))

first_of : (n : ℕ) (whole fraction : List ℕ) → Writes n whole → (byte : ℕ) (rest : List ℕ) → whole ++ fraction ≡ byte ∷ rest → is_digit byte ≡ true
first_of n [] fraction h byte rest e = absurd (let some = h.some in omega (arith, some))
first_of n (x ∷ xs) fraction h byte rest e = let same : x ≡ byte = cc in rw (← same) (and_left _ _ h.digits)

-- ---- the text

whole_read : (minus : Bool) (size : ℕ) → size < 10 ^ 18 → decimal_value (sign_text minus ++ (decimal size ++ [])) ≡ Ok (record { digits = signed minus size; places = 0 })
whole_read minus size small =
    let h : Writes size (decimal size) = decimal_writes size (omega arith) in
    let some : 0 < length (decimal size ++ []) = omega (arith, h.some, length-append {A = ℕ} (decimal size) []) in
    sym (read_body minus (decimal size ++ []) some (first_of size (decimal size) [] h) (no_exponent (decimal size) [] h.digits refl))
    ∙ whole_value minus (decimal size) size h
    ∙ as_decimal-whole minus size 0 0 (omega arith) (omega arith)
    ∙ ap (λ t. Ok (record { digits = signed minus t; places = 0 })) (omega arith)

fraction_read : (minus : Bool) (size places : ℕ) → size < 10 ^ 18 → 0 < places → places ≤ 18 → ¬ (size % 10 ≡ 0) →
    decimal_value (sign_text minus ++ (decimal (size / 10 ^ places) ++ 46 ∷ padded places (size % 10 ^ places))) ≡ Ok (record { digits = signed minus size; places = places })
fraction_read minus size places small some most last =
    let scale = 10 ^ places in
    let whole = decimal (size / scale) in
    let fraction = padded places (size % scale) in
    let below = rest_below size places in
    let parts : size / scale * scale + size % scale ≡ size = div-add-mod' size scale in
    let fits = ten_pow_fits places most in
    let least : size / scale ≤ size = div-le_self size scale in
    let h : Writes (size / scale) whole = decimal_writes (size / scale) (omega (arith, least)) in
    let k : Writes (size % scale) fraction = padded_writes places (size % scale) (omega (arith, below, fits)) in
    let width : length fraction ≡ places = padded_length places (size % scale) (rest_short (size % scale) places some most below) in
    let digits_alone : position_or_len is_exponent_mark fraction ≡ length fraction =
    ap (position_or_len is_exponent_mark) (sym (append-nil fraction)) ∙ past_digits is_exponent_mark no_exponent_mark fraction [] k.digits ∙ omega arith in
    let marks : position_or_len is_exponent_mark (46 ∷ fraction) ≡ length (46 ∷ fraction) = omega (arith, digits_alone) in
    let filled : 0 < length (whole ++ 46 ∷ fraction) = omega (arith, h.some, length-append {A = ℕ} whole (46 ∷ fraction)) in
    sym (read_body minus (whole ++ 46 ∷ fraction) filled (first_of (size / scale) whole (46 ∷ fraction) h) (no_exponent whole (46 ∷ fraction) h.digits marks))
    ∙ point_value minus whole fraction (size / scale) (size % scale) h k
    ∙ ap (λ t. as_decimal minus (size / scale * 10 ^ t + size % scale) (pos 0 -ℤ pos t)) width
    ∙ ap (λ t. as_decimal minus t (pos 0 -ℤ pos places)) parts
    ∙ as_decimal-fraction minus size 0 places some (omega arith) last small
    ∙ ap (λ t. Ok (record { digits = signed minus size; places = t })) (omega arith)

text_read : (digits : ℤ) (places : ℕ) → unsigned_abs digits < 10 ^ 18 → places ≤ 18 → (0 < places → ¬ (unsigned_abs digits % 10 ≡ 0)) →
    decimal_value (decimal_text (record { digits = digits; places = places })) ≡ Ok (record { digits = digits; places = places })
unfolding decimal_text
text_read digits zero small most last =
    let size = unsigned_abs digits in
    let minus = int_lt digits (pos 0) in
    let one : size / 10 ^ 0 ≡ size = omega arith in
    ap decimal_value (append_assoc (sign_text minus) (decimal (size / 10 ^ 0)) [])
    ∙ ap (λ t. decimal_value (sign_text minus ++ (decimal t ++ []))) one
    ∙ whole_read minus size small
    ∙ ap (λ t. Ok (record { digits = t; places = 0 })) (signed_size digits)
text_read digits (suc places) small most last =
    let size = unsigned_abs digits in
    let minus = int_lt digits (pos 0) in
    let scale = 10 ^ suc places in
    ap decimal_value (append_assoc (sign_text minus) (decimal (size / scale)) (46 ∷ padded (suc places) (size % scale)))
    ∙ fraction_read minus size (suc places) small (omega arith) most (last (omega arith))
    ∙ ap (λ t. Ok (record { digits = t; places = suc places })) (signed_size digits)

-- what is printed is read back
pub read_back : (d : DecimalRecord) → IsDecimal d → decimal_value (decimal_text d) ≡ Ok d
read_back d is = text_read d.digits d.places is.size is.most_places is.last_digit

-- so no two decimals have one text
pub texts_differ : (a b : DecimalRecord) → IsDecimal a → IsDecimal b → decimal_text a ≡ decimal_text b → a ≡ b
texts_differ a b h k e =
    let one : decimal_value (decimal_text a) ≡ Ok b = ap decimal_value e ∙ read_back b k in
    let same : decimal_value (decimal_text a) ≡ Ok a = read_back a h in
    ok_is a b (sym same ∙ one)
  where
    ok_is : (a b : DecimalRecord) → ◌≡◌ {A = Result DecimalRecord NumFault} (Ok a) (Ok b) → a ≡ b
    ok_is a b e = cc
