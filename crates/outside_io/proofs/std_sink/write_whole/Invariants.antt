use Rattle.std.proofs.Common.{◌≡◌, ℕ, List, ◌++◌, length}
use Rattle.outside_io.specs.Written.{Grew}
use Rattle.outside_io.proofs.std_sink.write_whole.Given as goal

-- what is written and the rest are the piece
abbrev pub invariant-loop-rest : goal.invariant-loop-rest
invariant-loop-rest g l = (done : List ℕ) × (l.piece ≡ done ++ l.rest) × Grew (g.W.Write.contents l.initial.writer) (g.W.Write.contents l.writer) done

-- each turn that goes on takes a byte
abbrev pub decreases-loop-rest : goal.decreases-loop-rest
decreases-loop-rest g l = length l.rest
