-- What the command `day` prints of a window, an answer and its spans.
use Rattle.std.specs.Prelude.{ℕ, ◌/◌, ℤ, List, [], ◌∷◌, ◌++◌, codes, decimal}
use Rattle.civil_time.specs.InstantText.{instant_text}
use Rattle.elements.specs.Window.{WindowRecord, tick_instant}
use Rattle.sgp4_model.specs.Records.{AnswerRecord, spans, unresolved, full, decays}
use Rattle.sgp4_model.specs.declared.span.Mark.{Mark}
use Rattle.sgp4_model.specs.declared.span.Mark.TheVariants.{Yes, No, Undecided}
use Rattle.sgp4_model.specs.declared.span.Span.{Span}

-- a tick of the window as its instant, with four decimals
abbrev pub tick_text : ℤ → ℕ → List ℕ
tick_text start tick = instant_text 4 (tick_instant start tick)

-- `WINDOW <start> <end> <resolution in seconds>`
unfoldable pub window_line : WindowRecord → List ℕ
window_line w =
    codes "WINDOW " ++ instant_text 4 w.start ++ codes " " ++ tick_text w.start w.ticks ++ codes " "
    ++ decimal (w.resolution / 10_000) ++ codes "\n"

-- L for light, N for night, U for undecided
abbrev pub day_letter : Mark → List ℕ
day_letter Yes = codes "L"
day_letter No = codes "N"
day_letter Undecided = codes "U"

-- `<letter> <from> <to>`
unfoldable pub span_line : List ℕ → ℤ → Span → List ℕ
span_line letter start span =
    letter ++ codes " " ++ tick_text start span.from ++ codes " " ++ tick_text start span.to ++ codes "\n"

-- `UNRESOLVED <from> <to>`
unfoldable pub unresolved_line : ℤ → ℕ → ℕ → List ℕ
unresolved_line start from to =
    codes "UNRESOLVED " ++ tick_text start from ++ codes " " ++ tick_text start to ++ codes "\n"

-- `FULL <at>`
unfoldable pub full_line : ℤ → ℕ → List ℕ
full_line start at = codes "FULL " ++ tick_text start at ++ codes "\n"

-- a line for each span
abbrev pub day_span_lines : ℤ → List Span → List ℕ
day_span_lines start [] = []
day_span_lines start (span ∷ rest) = span_line (day_letter span.mark) start span ++ day_span_lines start rest

-- the lines of an answer: its spans, or the one line that says why there are none; daylight never decays, and no line says so
abbrev pub day_answer_lines : ℤ → AnswerRecord → List Span → List ℕ
day_answer_lines start (spans count) list = day_span_lines start list
day_answer_lines start (unresolved from to) list = unresolved_line start from to
day_answer_lines start (full at) list = full_line start at
day_answer_lines start (decays at) list = []

-- the whole text: the heading, the window, the answer, the end
abbrev pub day_layout : WindowRecord → AnswerRecord → List Span → List ℕ
day_layout w answer list =
    codes "PASSDAY 1\n" ++ (window_line w ++ (day_answer_lines w.start answer list ++ codes "END\n"))
