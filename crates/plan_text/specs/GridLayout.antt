-- What the command `grid` prints of the counts of a plan.
use Rattle.std.specs.Prelude.{ℕ, List, ◌++◌, codes, decimal}
use Rattle.plan_text.specs.declared.summary.Summary.{Summary}

-- `<word> <count>`
unfoldable pub count_line : List ℕ → ℕ → List ℕ
count_line word count = word ++ codes " " ++ decimal count ++ codes "\n"

-- `<word> <spans> <ticks>`
unfoldable pub spans_line : List ℕ → ℕ → ℕ → List ℕ
spans_line word spans ticks = word ++ codes " " ++ decimal spans ++ codes " " ++ decimal ticks ++ codes "\n"

-- the whole text: the heading, the counts, the end
abbrev pub grid_layout : Summary → List ℕ
grid_layout s =
    codes "PASSGRID 1\n"
    ++ (count_line (codes "SATS") s.sats
    ++ (count_line (codes "REFUSED") s.refused
    ++ (spans_line (codes "VISIBLE") s.visible_spans s.visible_ticks
    ++ (spans_line (codes "HIDDEN") s.hidden_spans s.hidden_ticks
    ++ (spans_line (codes "UNDECIDED") s.undecided_spans s.undecided_ticks
    ++ (count_line (codes "UNRESOLVED") s.unresolved
    ++ (count_line (codes "FULL") s.full
    ++ (count_line (codes "DECAYS") s.decays
    ++ (count_line (codes "CELLS") s.cells ++ codes "END\n")))))))))
