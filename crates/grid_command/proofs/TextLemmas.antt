-- The parts of what is printed of counts are the whole of it.
use Rattle.std.proofs.Common.{◌≡◌, ◌++◌, codes, append_assoc}
use Rattle.grid_command.specs.Printed.{head_text, others_text, ticks_text}
use Rattle.plan_text.specs.GridLayout.{count_line, grid_layout}
use Rattle.plan_text.specs.declared.summary.Summary.{Summary}

pub layout_is : (s : Summary) → head_text s ++ (ticks_text s ++ (others_text s ++ (count_line (codes "CELLS") s.cells ++ codes "END\n"))) ≡ grid_layout s
layout_is s = simp append_assoc
