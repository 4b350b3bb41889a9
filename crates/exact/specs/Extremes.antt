-- The greater and the lesser of two numbers, and sums of lists.
use Rattle.std.specs.Prelude.{◌≡◌, true, false, List, [], ◌∷◌, ◌++◌}
use Rattle.exact.specs.Rational.{ℚ, ◌+ℚ◌, ◌-ℚ◌, ◌≤ℚ◌, at_least_0, zero_ℚ}

-- the greater of two numbers
unfoldable pub larger : ℚ → ℚ → ℚ
larger x y = elim (at_least_0 (x -ℚ y)) [ true ↦ x | false ↦ y ]

-- the lesser of two numbers
unfoldable pub lesser : ℚ → ℚ → ℚ
lesser x y = elim (at_least_0 (y -ℚ x)) [ true ↦ x | false ↦ y ]

-- the sum of a list
abbrev pub sum_of : List ℚ → ℚ
sum_of [] = zero_ℚ
sum_of (x ∷ xs) = x +ℚ sum_of xs

-- the greater of two is the least number that is at least both
abbrev pub LargerIsLeastAbove : Type 0
LargerIsLeastAbove = (x y : ℚ) → ((x ≤ℚ larger x y) × (y ≤ℚ larger x y)) × ((z : ℚ) → x ≤ℚ z → y ≤ℚ z → larger x y ≤ℚ z)

-- the lesser of two is the greatest number that is at most both
abbrev pub LesserIsGreatestBelow : Type 0
LesserIsGreatestBelow = (x y : ℚ) → ((lesser x y ≤ℚ x) × (lesser x y ≤ℚ y)) × ((z : ℚ) → z ≤ℚ x → z ≤ℚ y → z ≤ℚ lesser x y)

-- sums of lists in a row add up
abbrev pub SumsGoOn : Type 0
SumsGoOn = (xs ys : List ℚ) → sum_of (xs ++ ys) ≡ sum_of xs +ℚ sum_of ys
