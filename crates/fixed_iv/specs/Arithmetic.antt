-- The arithmetic of a line of the equations, which is so written once: of exact numbers, and of what numerals say.
use Rattle.std.specs.Prelude.{ℕ, ℤ, pos}
use Rattle.exact.specs.Rational.{ℚ, ratio as fraction, ◌+ℚ◌, ◌-ℚ◌, ◌*ℚ◌, ◌/ℚ◌, neg_ℚ}
use Rattle.fixed_iv.specs.Reach.{Reach, from_to, negative, ◌+ᴿ◌, ◌-ᴿ◌, ◌*ᴿ◌, ◌/ᴿ◌}

-- numbers, their operations, and the constants among them: whole numbers, ratios, and any other with its numerals
pub record Arithmetic : Type 1 where
  infixl 6 ◌+◌ ◌-◌
  infixl 7 ◌*◌ ◌/◌
  pub Number : Type 0
  pub ◌+◌ : Number → Number → Number
  pub ◌-◌ : Number → Number → Number
  pub ◌*◌ : Number → Number → Number
  pub ◌/◌ : Number → Number → Number
  pub minus : Number → Number
  pub whole : ℕ → Number
  pub ratio : ℤ → ℕ → Number
  pub given : ℚ → Reach → Number

-- of exact numbers
abbrev pub exact : Arithmetic
exact = record {
  Number = ℚ;
  ◌+◌ = ◌+ℚ◌;
  ◌-◌ = ◌-ℚ◌;
  ◌*◌ = ◌*ℚ◌;
  ◌/◌ = ◌/ℚ◌;
  minus = neg_ℚ;
  whole = λ n. fraction (pos n) 1;
  ratio = fraction;
  given = λ x r. x;
}

-- of what numerals say: a whole number is enclosed exactly, a ratio within a unit
abbrev pub numerals : Arithmetic
numerals = record {
  Number = Reach;
  ◌+◌ = ◌+ᴿ◌;
  ◌-◌ = ◌-ᴿ◌;
  ◌*◌ = ◌*ᴿ◌;
  ◌/◌ = ◌/ᴿ◌;
  minus = negative;
  whole = λ n. from_to (pos n) (pos n) 1 0;
  ratio = λ n d. from_to n n d 1;
  given = λ x r. r;
}
