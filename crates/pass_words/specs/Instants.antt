-- Instants that no window is made of, as words give them.
use Rattle.std.specs.Prelude.{ℤ, Result, Ok, Err}
use Rattle.civil_time.specs.declared.fault.TimeFault.{TimeFault}
use Rattle.civil_time.specs.declared.fault.TimeFault.TheVariants as times
use Rattle.pass_words.specs.declared.fault.WindowFault.{WindowFault}
use Rattle.pass_words.specs.declared.fault.WindowFault.TheVariants as windows

-- an instant that was read, whole in ticks or not; and a day that does not exist is a fault of the shape
abbrev pub instant_read : Result ℤ TimeFault → Result ℤ WindowFault
instant_read (Ok nanos) = Ok nanos
instant_read (Err times.Shape) = Err windows.Shape
instant_read (Err times.NotADay) = Err windows.Shape
instant_read (Err times.Year) = Err windows.Year
