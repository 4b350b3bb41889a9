-- Answers that are a value or a fault.
use Rattle.std.specs.Prelude.{◌≡◌, Bool, true, false, Option, Some, None, Result, Ok, Err}
use Rattle.station_file.specs.declared.fault.StFault.{StFault}
use Rattle.station_file.specs.declared.fault.StFault.TheVariants.{OutOfMemory}

-- a value, or else a fault
abbrev pub or_fault : {A : Type 0} → StFault → Option A → Result A StFault
or_fault fault (Some x) = Ok x
or_fault fault None = Err fault

-- the fault is that of an answer, unless it is want of memory
abbrev pub IsFaultOf : {A : Type 0} → Result A StFault → StFault → Type 0
IsFaultOf answer fault = ¬ (fault ≡ OutOfMemory) → answer ≡ Err fault

-- an answer where a test holds, or else a fault
abbrev pub given : {A : Type 0} → Bool → StFault → Result A StFault → Result A StFault
given true fault answer = answer
given false fault answer = Err fault
