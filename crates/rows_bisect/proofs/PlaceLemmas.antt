-- A cell has places.
use Rattle.std.proofs.Common.{ℕ, ◌<◌, pos, arith}
use Rattle.std.proofs.lemmas.Int.{ints}
use Rattle.std.specs.Prelude.{⊤}
use Rattle.exact.specs.Rational.{of_int}
use Rattle.exact.proofs.Integers.{of_int_le}
use Rattle.exact.proofs.Order.{le_refl}
use Rattle.sgp4_model.specs.Time.{Somewhere}

-- what holds everywhere holds somewhere in a cell
pub somewhere : (from to : ℕ) → from < to → Somewhere from to (λ _. ⊤)
somewhere from to l = (of_int (pos from), (record { low = le_refl (of_int (pos from)); high = of_int_le (omega (arith, ints, l)) }, tt))
