-- The resolution of a window, as a word gives it in seconds.
use Rattle.std.specs.Prelude.{ℕ, ◌*◌, nat_le, ◌&&◌, List, Option, Some, None, Result, Ok, Err, if◌then◌else◌}
use Rattle.pass_words.specs.declared.fault.WindowFault.{WindowFault}
use Rattle.pass_words.specs.declared.fault.WindowFault.TheVariants as windows
use Rattle.pass_words.specs.Digits.{short_number}

-- one to sixty seconds as ticks of 100 microseconds
abbrev pub seconds_value : Option ℕ → Result ℕ WindowFault
seconds_value None = Err windows.Resolution
seconds_value (Some seconds) =
    if nat_le 1 seconds && nat_le seconds 60 then Ok (seconds * 10_000) else Err windows.Resolution

-- a resolution in ticks: one or two digits for 1 to 60 seconds
abbrev pub resolution_value : List ℕ → Result ℕ WindowFault
resolution_value text = seconds_value (short_number text)
