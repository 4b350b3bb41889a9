-- The window that three words make.
use Rattle.std.specs.Prelude.{ℕ, List, Result}
use Rattle.elements.specs.Window.{WindowRecord}
use Rattle.civil_time.specs.Utc.{utc_value}
use Rattle.pass_words.specs.declared.fault.WindowFault.{WindowFault}
use Rattle.pass_words.specs.Moment.{moment_read, moments_read}
use Rattle.pass_words.specs.Span.{span_value}
use Rattle.elements.specs.Steps.{◌>>=◌}

-- the window of these words for its start, its end and its resolution; or its first fault by kind
abbrev pub window_value : List ℕ → List ℕ → List ℕ → Result WindowRecord WindowFault
window_value start last res = do
  moments ← moments_read (moment_read (utc_value start)) (moment_read (utc_value last))
  span_value moments.0 moments.1 res
