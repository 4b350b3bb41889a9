-- The lines of spans.
use Rattle.std.proofs.Common.{refl}
use Rattle.std.specs.Prelude.{ℤ}
use Rattle.pass_text.specs.DayLayout.{day_letter, day_span_lines, span_line}
use Rattle.run_ends.proofs.PrintedLemmas.{AreLines}

-- the lines of spans are those of each span
pub span_lines : (start : ℤ) → AreLines (λ span. span_line (day_letter span.mark) start span) (day_span_lines start)
span_lines start = record { none = refl; more = λ span rest. refl }
