-- What is written of an instant is read as that instant.
use Rattle.std.specs.Prelude.{◌≡◌, ℕ, ◌≤◌, ℤ, Ok}
use Rattle.civil_time.specs.Scale.{IsInstant}
use Rattle.civil_time.specs.InstantText.{instant_text, IsWholeIn}
use Rattle.civil_time.specs.Utc.{utc_value}

-- the text of an instant that its decimals write in full is read as the instant
abbrev pub TextsAreReadBack : Type 0
TextsAreReadBack =
    (places : ℕ) (nanos : ℤ) → 1 ≤ places → places ≤ 9 → IsInstant nanos → IsWholeIn places nanos
    → utc_value (instant_text places nanos) ≡ Ok nanos
