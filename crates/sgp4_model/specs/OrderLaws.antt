-- Laws of the order of exact numbers, as public functions promise them.
use Rattle.std.specs.Prelude.{◌≡◌, ◌⊎◌}
use Rattle.exact.specs.Rational.{ℚ, ◌+ℚ◌, ◌*ℚ◌, zero_ℚ, ◌≤ℚ◌}
use Rattle.sgp4_model.specs.Quotient.{IsQuotient}

-- of two numbers one is at most the other
abbrev pub OrderIsTotal : Type 0
OrderIsTotal = (x y : ℚ) → (x ≤ℚ y) ⊎ (y ≤ℚ x)

-- numbers that are at most each other are equal
abbrev pub OrderIsAntisymmetric : Type 0
OrderIsAntisymmetric = (x y : ℚ) → x ≤ℚ y → y ≤ℚ x → x ≡ y

-- at most goes on
abbrev pub OrderIsTransitive : Type 0
OrderIsTransitive = (x y z : ℚ) → x ≤ℚ y → y ≤ℚ z → x ≤ℚ z

-- sums of lesser numbers are lesser
abbrev pub SumsKeepOrder : Type 0
SumsKeepOrder = (a b c d : ℚ) → a ≤ℚ b → c ≤ℚ d → a +ℚ c ≤ℚ b +ℚ d

-- so are products by a number that is not negative
abbrev pub ProductsKeepOrder : Type 0
ProductsKeepOrder = (a b c : ℚ) → zero_ℚ ≤ℚ c → a ≤ℚ b → a *ℚ c ≤ℚ b *ℚ c

-- a quotient is one number
abbrev pub QuotientIsUnique : Type 0
QuotientIsUnique = (x y z w : ℚ) → IsQuotient x y z → IsQuotient x y w → z ≡ w

-- what is at most the four products of ends is at most each product of numbers between them
abbrev pub CornersBoundProductsBelow : Type 0
CornersBoundProductsBelow =
    (a b c d x y m : ℚ) → a ≤ℚ x → x ≤ℚ b → c ≤ℚ y → y ≤ℚ d →
    m ≤ℚ a *ℚ c → m ≤ℚ a *ℚ d → m ≤ℚ b *ℚ c → m ≤ℚ b *ℚ d → m ≤ℚ x *ℚ y

-- and so from above
abbrev pub CornersBoundProductsAbove : Type 0
CornersBoundProductsAbove =
    (a b c d x y m : ℚ) → a ≤ℚ x → x ≤ℚ b → c ≤ℚ y → y ≤ℚ d →
    a *ℚ c ≤ℚ m → a *ℚ d ≤ℚ m → b *ℚ c ≤ℚ m → b *ℚ d ≤ℚ m → x *ℚ y ≤ℚ m
