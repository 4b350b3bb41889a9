-- The parts of what is printed of counts.
use Rattle.std.specs.Prelude.{ℕ, List, ◌++◌, codes}
use Rattle.plan_text.specs.GridLayout.{count_line, spans_line}
use Rattle.plan_text.specs.declared.summary.Summary.{Summary}

-- the heading and the satellites
abbrev pub head_text : Summary → List ℕ
head_text s = codes "PASSGRID 1\n" ++ (count_line (codes "SATS") s.sats ++ count_line (codes "REFUSED") s.refused)

-- the spans and their ticks
abbrev pub ticks_text : Summary → List ℕ
ticks_text s =
    spans_line (codes "VISIBLE") s.visible_spans s.visible_ticks
    ++ (spans_line (codes "HIDDEN") s.hidden_spans s.hidden_ticks
    ++ spans_line (codes "UNDECIDED") s.undecided_spans s.undecided_ticks)

-- the pairs that are not spans
abbrev pub others_text : Summary → List ℕ
others_text s =
    count_line (codes "UNRESOLVED") s.unresolved
    ++ (count_line (codes "FULL") s.full ++ count_line (codes "DECAYS") s.decays)
