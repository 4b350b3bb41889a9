-- The digits of a number of any length without the zeros at their ends, as reading keeps them.
use Rattle.std.specs.Prelude.{◌≡◌, ℕ, ◌*◌, ◌%◌, ◌^◌, ◌<◌, ◌≤◌}
use Rattle.decimals.specs.declared.significant.Significant.{Significant}
use Rattle.decimals.specs.declared.significant.Significant.TheVariants.{Short, Long}

-- the number is at most 18 digits and so many zeros behind them
pub record IsShort (n digits zeros : ℕ) : Type 0 where
  pub number : n ≡ digits * 10 ^ zeros
  pub size : digits < 10 ^ 18
  pub last_digit : 0 < digits → ¬ (digits % 10 ≡ 0)

-- the number has more than 18 digits, even without the zeros behind them
pub record IsLong (n : ℕ) : Type 0 where
  pub digits : ℕ
  pub zeros : ℕ
  pub number : n ≡ digits * 10 ^ zeros
  pub size : 10 ^ 18 ≤ digits
  pub last_digit : ¬ (digits % 10 ≡ 0)

-- what is kept of a number
abbrev pub Keeps : Significant → ℕ → Type 0
Keeps (Short digits zeros) n = IsShort n digits zeros
Keeps Long n = IsLong n

-- how many zeros are kept
abbrev pub zeros_of : Significant → ℕ
zeros_of (Short digits zeros) = zeros
zeros_of Long = 0
