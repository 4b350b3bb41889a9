-- The decimal of a text, by its fields.
use Rattle.std.proofs.Common.{◌≡◌, arith, ℕ, ◌+◌, ◌-◌, Bool, true, false, ◌&&◌, ◌↔◌, List, ◌++◌, length, take, drop, position, Option, Some, None, option_map, Err, refl, sym, ap, ◌∙◌, pos, ◌-ℤ◌}
use Rattle.std.proofs.lemmas.List.{take_all, length-drop}
use Rattle.std.specs.List.{before_first, after_first}
use Rattle.std.specs.Str.Parse.{starts_with_minus, without_leading_sign}
use Rattle.decimals.specs.declared.fault.NumFault.TheVariants.{Shape}
use Rattle.decimals.specs.NumberText.{NumberFields, number_written, is_point, is_exponent_mark, are_digits, fields_of, is_exponent, may_be_exponent, is_number, exponent_of}
use Rattle.decimals.specs.DecimalText.{as_decimal, decimal_of_fields, decimal_value}
use Rattle.decimals.proofs.CutLemmas.{before_place, before_none}

pub value_by : (fields : NumberFields) → is_number fields ≡ true → decimal_of_fields fields ≡ as_decimal fields.minus (number_written (fields.whole ++ fields.fraction)) (exponent_of fields.exponent -ℤ pos (length fields.fraction))
unfolding decimal_of_fields
value_by fields e = rw (decimal_of_fields, e) refl

pub shape_by : (fields : NumberFields) → is_number fields ≡ false → decimal_of_fields fields ≡ Err Shape
unfolding decimal_of_fields
shape_by fields e = rw (decimal_of_fields, e) refl

both : (a b : Bool) → a ≡ true → b ≡ true → (a && b) ≡ true
both a b p q = rw (p, q) refl

second : (a b : Bool) → b ≡ false → (a && b) ≡ false
second true b q = q
second false b q = refl

first : (a b : Bool) → a ≡ false → (a && b) ≡ false
first a b p = rw p refl

-- a mantissa of digits
pub mantissa_value : (minus : Bool) (mantissa : List ℕ) (text : Option (List ℕ)) → may_be_exponent text ≡ true → are_digits (before_first is_point mantissa ++ after_first is_point mantissa) ≡ true →
    decimal_of_fields (fields_of minus mantissa text) ≡ as_decimal minus (number_written (before_first is_point mantissa ++ after_first is_point mantissa)) (exponent_of text -ℤ pos (length (after_first is_point mantissa)))
mantissa_value minus mantissa text form digits = value_by (fields_of minus mantissa text) (both (may_be_exponent text) _ form digits)

-- another mantissa
pub mantissa_shape : (minus : Bool) (mantissa : List ℕ) (text : Option (List ℕ)) → are_digits (before_first is_point mantissa ++ after_first is_point mantissa) ≡ false → decimal_of_fields (fields_of minus mantissa text) ≡ Err Shape
mantissa_shape minus mantissa text digits = shape_by (fields_of minus mantissa text) (second (may_be_exponent text) _ digits)

-- a text without an exponent
pub value_without : (text : List ℕ) → position is_exponent_mark (without_leading_sign text) ≡ None → decimal_value text ≡ decimal_of_fields (fields_of (starts_with_minus text) (without_leading_sign text) None)
unfolding decimal_value
value_without text none =
    let unsigned = without_leading_sign text in
    ap (λ mantissa. decimal_of_fields (fields_of (starts_with_minus text) mantissa (option_map (λ place. drop (place + 1) unsigned) (position is_exponent_mark unsigned)))) (sym (before_none is_exponent_mark unsigned none))
    ∙ ap (λ place. decimal_of_fields (fields_of (starts_with_minus text) unsigned (option_map (λ place. drop (place + 1) unsigned) place))) none

-- a text with one
pub value_with : (text : List ℕ) (place : ℕ) → position is_exponent_mark (without_leading_sign text) ≡ Some place →
    decimal_value text ≡ decimal_of_fields (fields_of (starts_with_minus text) (take place (without_leading_sign text)) (Some (drop (place + 1) (without_leading_sign text))))
unfolding decimal_value
value_with text place is =
    let unsigned = without_leading_sign text in
    ap (λ mantissa. decimal_of_fields (fields_of (starts_with_minus text) mantissa (option_map (λ place. drop (place + 1) unsigned) (position is_exponent_mark unsigned)))) (sym (before_place is_exponent_mark unsigned place is))
    ∙ ap (λ at. decimal_of_fields (fields_of (starts_with_minus text) (take place unsigned) (option_map (λ place. drop (place + 1) unsigned) at))) is

-- an exponent of another form
pub exponent_shape : (minus : Bool) (mantissa exponent : List ℕ) → is_exponent exponent ≡ false → decimal_of_fields (fields_of minus mantissa (Some exponent)) ≡ Err Shape
exponent_shape minus mantissa exponent form = shape_by (fields_of minus mantissa (Some exponent)) (first (is_exponent exponent) _ form)

-- a test that fails with another one
pub not_so : (b : Bool) → (◌≡◌ {A = Bool} false true) ↔ (b ≡ true) → b ≡ false
not_so true h = sym (h.1 refl)
not_so false h = refl

-- ---- what the code reads: the sign, what follows it, and the exponent's text

pub read_without : (text unsigned : List ℕ) (minus : Bool) → minus ≡ starts_with_minus text → unsigned ≡ without_leading_sign text → position is_exponent_mark unsigned ≡ None →
    decimal_of_fields (fields_of minus unsigned None) ≡ decimal_value text
read_without text unsigned minus sign rest none = rw (sign, rest) (sym (value_without text (rw rest at none)))

pub read_with : (text unsigned exponent : List ℕ) (minus : Bool) (place : ℕ) → minus ≡ starts_with_minus text → unsigned ≡ without_leading_sign text → position is_exponent_mark unsigned ≡ Some place → exponent ≡ drop (place + 1) unsigned →
    decimal_of_fields (fields_of minus (take place unsigned) (Some exponent)) ≡ decimal_value text
read_with text unsigned exponent minus place sign rest is cut = rw (cut, sign, rest) (sym (value_with text place (rw rest at is)))

-- a slice to its end
pub slice_to_end : (xs : List ℕ) (i : ℕ) → take (length xs - i) (drop i xs) ≡ drop i xs
slice_to_end xs i = take_all (length xs - i) (drop i xs) (omega (arith, length-drop i xs))
