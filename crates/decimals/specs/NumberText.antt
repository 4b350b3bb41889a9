-- The form of a number's text: a sign or none, digits with at most one point among them, and an exponent or none,
-- which is E or e, a sign or none, and one to three digits.
use Rattle.std.specs.Prelude.{ℕ, ◌+◌, ◌-◌, ◌*◌, Bool, ◌&&◌, ◌||◌, ◌==◌, nat_le, List, ◌++◌, length, drop, fold, position, Option, Some, None, option_map, ℤ, pos, true}
use Rattle.std.specs.List.{before_first, after_first, list_all}
use Rattle.std.specs.Str.Parse.{starts_with_minus, without_leading_sign}
use Rattle.decimals.specs.Normal.{signed}

-- the byte is a digit
abbrev pub is_digit : ℕ → Bool
is_digit byte = nat_le 48 byte && nat_le byte 57

-- the number that digits write, where they follow those of another number
abbrev pub number_after : ℕ → List ℕ → ℕ
number_after = fold (λ number byte. number * 10 + (byte - 48))

-- the number that digits write
abbrev pub number_written : List ℕ → ℕ
number_written = number_after 0

-- the byte is the point
abbrev pub is_point : ℕ → Bool
is_point byte = byte == 46

-- the byte begins an exponent
abbrev pub is_exponent_mark : ℕ → Bool
is_exponent_mark byte = (byte == 69) || (byte == 101)

-- one digit or more, and nothing else
abbrev pub are_digits : List ℕ → Bool
are_digits bytes = list_all is_digit bytes && nat_le 1 (length bytes)

-- the fields of a text: whether it has a minus, what stands before the point and after it, and the exponent's text
pub record NumberFields : Type 0 where
  pub minus : Bool
  pub whole : List ℕ
  pub fraction : List ℕ
  pub exponent : Option (List ℕ)

-- the fields of a sign, a mantissa and an exponent: the mantissa is cut at its first point
abbrev pub fields_of : Bool → List ℕ → Option (List ℕ) → NumberFields
fields_of minus mantissa exponent = record {
  minus = minus;
  whole = before_first is_point mantissa;
  fraction = after_first is_point mantissa;
  exponent = exponent;
}

-- the fields of a text, which is cut behind its sign and where the exponent begins
abbrev pub number_fields : List ℕ → NumberFields
number_fields text =
    let unsigned = without_leading_sign text in
    fields_of (starts_with_minus text) (before_first is_exponent_mark unsigned) (option_map (λ place. drop (place + 1) unsigned) (position is_exponent_mark unsigned))

-- an exponent is a sign or none, and one to three digits
abbrev pub is_exponent : List ℕ → Bool
is_exponent text = let digits = without_leading_sign text in are_digits digits && nat_le (length digits) 3

-- where there is an exponent, it has its form
abbrev pub may_be_exponent : Option (List ℕ) → Bool
may_be_exponent None = true
may_be_exponent (Some text) = is_exponent text

-- before and after the point stand digits alone, and at least one
abbrev pub is_number : NumberFields → Bool
is_number fields = may_be_exponent fields.exponent && are_digits (fields.whole ++ fields.fraction)

-- the exponent as a whole number, and 0 where there is none
abbrev pub exponent_of : Option (List ℕ) → ℤ
exponent_of None = pos 0
exponent_of (Some text) = signed (starts_with_minus text) (number_written (without_leading_sign text))
