-- Laws of the operators, as public functions promise them.
use Rattle.std.specs.Prelude.{ℕ, ◌+◌, ◌*◌, ◌^◌, ◌<◌, ◌≤◌}
use Rattle.exact.specs.Rational.{ℚ, ◌+ℚ◌, ◌-ℚ◌, ◌*ℚ◌, ◌/ℚ◌, neg_ℚ}
use Rattle.fixed_iv.specs.Extent.{size, width_of}
use Rattle.fixed_iv.specs.Holds.{Holds, IsBounded}
use Rattle.fixed_iv.specs.Narrow.{IsApart}
use Rattle.fixed_iv.specs.Results.{IsDifference, IsNegative, IsProduct, IsQuotient, IsSum}
use Rattle.fixed_iv.specs.declared.iv.Iv.{Iv}

-- the interval of a result holds the result of held numbers, whatever the operands
abbrev pub SumsAreHeld : Type 0
SumsAreHeld = (a b v : Iv) (x y : ℚ) → IsSum a b v → Holds a x → Holds b y → Holds v (x +ℚ y)

abbrev pub DifferencesAreHeld : Type 0
DifferencesAreHeld = (a b v : Iv) (x y : ℚ) → IsDifference a b v → Holds a x → Holds b y → Holds v (x -ℚ y)

abbrev pub NegativesAreHeld : Type 0
NegativesAreHeld = (a v : Iv) (x : ℚ) → IsNegative a v → Holds a x → Holds v (neg_ℚ x)

abbrev pub ProductsAreHeld : Type 0
ProductsAreHeld = (a b v : Iv) (x y : ℚ) → IsProduct a b v → Holds a x → Holds b y → Holds v (x *ℚ y)

-- also where the divisor is 0: then the interval holds every number
abbrev pub QuotientsAreHeld : Type 0
QuotientsAreHeld = (a b v : Iv) (x y : ℚ) → IsQuotient a b v → Holds a x → Holds b y → Holds v (x /ℚ y)

-- a bounded sum, or difference, of bounded operands is as wide as both together at most
abbrev pub SumsAreNarrow : Type 0
SumsAreNarrow = (a b v : Iv) → IsSum a b v → IsBounded a → IsBounded b → IsBounded v → width_of v ≤ width_of a + width_of b

abbrev pub DifferencesAreNarrow : Type 0
DifferencesAreNarrow = (a b v : Iv) → IsDifference a b v → IsBounded a → IsBounded b → IsBounded v → width_of v ≤ width_of a + width_of b

-- a bounded product of bounded operands: at most |a| * width b + |b| * width a, and two units
abbrev pub ProductsAreNarrow : Type 0
ProductsAreNarrow = (a b v : Iv) → IsProduct a b v → IsBounded a → IsBounded b → IsBounded v →
    width_of v * 2 ^ 48 ≤ size a * width_of b + size b * width_of a + 2 * 2 ^ 48

-- a bounded quotient by numbers that are at least m units in size: at most width a / m + |a| * width b / m^2, and two units
abbrev pub QuotientsAreNarrow : Type 0
QuotientsAreNarrow = (a b v : Iv) (m : ℕ) → 0 < m → IsQuotient a b v → IsBounded a → IsBounded b → IsApart b m → IsBounded v →
    width_of v * (m * m) ≤ width_of a * 2 ^ 48 * m + size a * width_of b * 2 ^ 48 + 2 * (m * m)
