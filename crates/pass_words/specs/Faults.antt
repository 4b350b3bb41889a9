-- Faults of words and of windows as faults of a request.
use Rattle.std.specs.Prelude.{Result, Ok, Err}
use Rattle.pass_words.specs.declared.fault.UsageFault.{UsageFault}
use Rattle.pass_words.specs.declared.fault.WindowFault.{WindowFault}
use Rattle.pass_words.specs.declared.fault.WordFault.{WordFault}
use Rattle.pass_words.specs.declared.fault.WordFault.TheVariants.{Usage, Window}

-- an answer whose fault is one of words
abbrev pub of_usage : {A : Type 0} → Result A UsageFault → Result A WordFault
of_usage (Ok x) = Ok x
of_usage (Err fault) = Err (Usage fault)

-- an answer whose fault is one of a window
abbrev pub of_window : {A : Type 0} → Result A WindowFault → Result A WordFault
of_window (Ok x) = Ok x
of_window (Err fault) = Err (Window fault)
