-- The form of a decimal that has no zeros at the end of its fraction.
use Rattle.std.specs.Prelude.{ℕ, zero, suc, ◌/◌, ◌%◌, ◌==◌, Bool, true, false, ℤ, pos, neg_ℤ, unsigned_abs, int_lt, if◌then◌else◌}
use Rattle.decimals.specs.Decimal.{DecimalRecord}

-- the digits without the zeros at their end, as long as there are places, and the places that are left
unfoldable pub shortest : ℕ → ℕ → ℕ × ℕ
shortest digits zero = (digits, 0)
shortest digits (suc places) = elim (digits % 10 == 0) [ true ↦ shortest (digits / 10) places | false ↦ (digits, suc places) ]

-- the whole number of this size, below 0 where there is a minus
abbrev pub signed : (minus : Bool) → ℕ → ℤ
signed minus size = if minus then neg_ℤ (pos size) else pos size

-- the decimal `digits / 10^places` without zeros at the end of its fraction
abbrev pub normal : ℤ → ℕ → DecimalRecord
normal digits places =
    let short = shortest (unsigned_abs digits) places in
    record { digits = signed (int_lt digits (pos 0)) short.0; places = short.1 }
