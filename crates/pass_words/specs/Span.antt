-- The window between two instants.
use Rattle.std.specs.Prelude.{ℕ, ◌*◌, ◌/◌, ◌%◌, ◌==◌, Bool, not, ℤ, pos, ◌-ℤ◌, int_lt, unsigned_abs, List, Result, Ok, Err, if◌then◌else◌}
use Rattle.elements.specs.Window.{WindowRecord, tick_nanos}
use Rattle.pass_words.specs.declared.fault.WindowFault.{WindowFault}
use Rattle.pass_words.specs.declared.fault.WindowFault.TheVariants as windows
use Rattle.pass_words.specs.Resolution.{resolution_value}
use Rattle.elements.specs.Steps.{◌>>=◌}

-- so many nanoseconds are a whole number of ticks
abbrev pub is_whole_tick : ℤ → Bool
is_whole_tick nanos = unsigned_abs nanos % tick_nanos == 0

-- the nanoseconds of the longest window: 864,000 seconds, which are ten days
abbrev pub longest : ℕ
longest = 864_000 * 1_000_000_000

-- the window from a start to an end at whole ticks, with this word for its resolution; or its first fault
abbrev pub span_value : ℤ → ℤ → List ℕ → Result WindowRecord WindowFault
span_value start last res =
    if not (int_lt start last) then Err windows.Order
    else (if int_lt (pos longest) (last -ℤ start) then Err windows.Long
    else do
      resolution ← resolution_value res
      Ok (record { start = start; ticks = unsigned_abs (last -ℤ start) / tick_nanos; resolution = resolution }))
