-- The lines of rows: an answer, and a line for each of its spans.
use Rattle.std.specs.Prelude.{ℕ, ◌+◌, ℤ, List, [], ◌∷◌, ◌++◌, codes, decimal}
use Rattle.sgp4_model.specs.declared.span.Mark.{Mark}
use Rattle.sgp4_model.specs.declared.span.Mark.TheVariants.{Yes, No, Undecided}
use Rattle.sgp4_model.specs.declared.span.Span.{Span}
use Rattle.pass_text.specs.DayLayout.{tick_text, span_line}
use Rattle.sgp4_model.specs.Records.{AnswerRecord, spans, unresolved, full, decays}
use Rattle.plan_text.specs.Plan.{RowRecord, SatelliteRecord, StandingRecord, refused, planned}

-- `UNRESOLVED <from> <to>`
unfoldable pub unresolved_words : ℤ → ℕ → ℕ → List ℕ
unresolved_words start from to =
    codes "UNRESOLVED " ++ tick_text start from ++ codes " " ++ tick_text start to

-- the words of an answer
unfoldable pub answer_words : ℤ → AnswerRecord → List ℕ
answer_words start (spans count) = codes "SPANS " ++ decimal count
answer_words start (unresolved from to) = unresolved_words start from to
answer_words start (full at) = codes "FULL " ++ tick_text start at
answer_words start (decays at) = codes "DECAYS " ++ tick_text start at

-- `LIT <number> <answer>`
unfoldable pub lit_line : ℤ → ℕ → AnswerRecord → List ℕ
lit_line start number answer =
    codes "LIT " ++ decimal number ++ codes " " ++ answer_words start answer ++ codes "\n"

-- `PAIR <number> <index> <answer>`
unfoldable pub pair_line : ℤ → ℕ → ℕ → AnswerRecord → List ℕ
pair_line start number index answer =
    codes "PAIR " ++ decimal number ++ codes " " ++ decimal index ++ codes " "
    ++ answer_words start answer ++ codes "\n"

-- S for sunlit, D for dark, U for undecided
abbrev pub lit_letter : Mark → List ℕ
lit_letter Yes = codes "S"
lit_letter No = codes "D"
lit_letter Undecided = codes "U"

-- V for visible, H for hidden, U for undecided
abbrev pub pair_letter : Mark → List ℕ
pair_letter Yes = codes "V"
pair_letter No = codes "H"
pair_letter Undecided = codes "U"

-- a line for each span
abbrev pub span_lines : (Mark → List ℕ) → ℤ → List Span → List ℕ
span_lines letter start [] = []
span_lines letter start (span ∷ rest) = span_line (letter span.mark) start span ++ span_lines letter start rest

-- the lines that follow an answer
abbrev pub lines_after : (Mark → List ℕ) → ℤ → AnswerRecord → List Span → List ℕ
lines_after letter start (spans count) list = span_lines letter start list
lines_after letter start (unresolved from to) list = []
lines_after letter start (full at) list = []
lines_after letter start (decays at) list = []

-- the row of a satellite's light
abbrev pub lit_block : ℤ → ℕ → RowRecord → List ℕ
lit_block start number row =
    lit_line start number row.answer ++ lines_after lit_letter start row.answer row.list

-- the row of a satellite at a station
abbrev pub pair_block : ℤ → ℕ → ℕ → RowRecord → List ℕ
pair_block start number index row =
    pair_line start number index row.answer ++ lines_after pair_letter start row.answer row.list

-- the rows of a satellite at the stations from this index on
abbrev pub pair_blocks : ℤ → ℕ → ℕ → List RowRecord → List ℕ
pair_blocks start number index [] = []
pair_blocks start number index (row ∷ rest) =
    pair_block start number index row ++ pair_blocks start number (index + 1) rest

-- the rows of a satellite
abbrev pub standing_blocks : ℤ → ℕ → StandingRecord → List ℕ
standing_blocks start number (refused fate) = []
standing_blocks start number (planned lit pairs) =
    lit_block start number lit ++ pair_blocks start number 1 pairs

-- the rows of each satellite
abbrev pub row_blocks : ℤ → List SatelliteRecord → List ℕ
row_blocks start [] = []
row_blocks start (first ∷ rest) =
    standing_blocks start first.number first.standing ++ row_blocks start rest
