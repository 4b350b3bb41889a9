-- Starts and ends of windows, as words give them.
use Rattle.std.specs.Prelude.{ℤ, Result, Ok, Err, if◌then◌else◌}
use Rattle.civil_time.specs.declared.fault.TimeFault.{TimeFault}
use Rattle.civil_time.specs.declared.fault.TimeFault.TheVariants as times
use Rattle.pass_words.specs.declared.fault.WindowFault.{WindowFault}
use Rattle.pass_words.specs.declared.fault.WindowFault.TheVariants as windows
use Rattle.pass_words.specs.Span.{is_whole_tick}

-- an instant that was read, if it is a whole number of ticks
abbrev pub moment_read : Result ℤ TimeFault → Result ℤ WindowFault
moment_read (Ok nanos) = if is_whole_tick nanos then Ok nanos else Err windows.Shape
moment_read (Err times.Shape) = Err windows.Shape
moment_read (Err times.NotADay) = Err windows.Shape
moment_read (Err times.Year) = Err windows.Year

-- two moments, or their first fault by kind: Shape of either one stands before Year
abbrev pub moments_read : Result ℤ WindowFault → Result ℤ WindowFault → Result (ℤ × ℤ) WindowFault
moments_read (Ok start) (Ok last) = Ok (start, last)
moments_read (Err windows.Shape) last = Err windows.Shape
moments_read start (Err windows.Shape) = Err windows.Shape
moments_read (Err fault) last = Err fault
moments_read start (Err fault) = Err fault
