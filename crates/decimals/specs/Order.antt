-- The order of numbers, as the answer of a comparison.
use Rattle.std.specs.Prelude.{cond, Bool}
use Rattle.std.specs.declared.cmp.Ordering.{Ordering}
use Rattle.std.specs.declared.cmp.Ordering.TheVariants.{Less, Equal, Greater}
use Rattle.std.specs.Ordering.{is_eq}
use Rattle.exact.specs.Rational.{ℚ, at_least_0, ◌-ℚ◌}

-- how two numbers stand to one another
unfoldable pub order : ℚ → ℚ → Ordering
order x y = cond (at_least_0 (x -ℚ y)) (cond (at_least_0 (y -ℚ x)) Equal Greater) Less

-- whether two numbers are the same
abbrev pub same : ℚ → ℚ → Bool
same x y = is_eq (order x y)
