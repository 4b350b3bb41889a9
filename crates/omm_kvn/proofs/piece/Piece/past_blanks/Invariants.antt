use Rattle.std.proofs.Common.{◌≡◌, ◌+◌, length}
use Rattle.omm_kvn.specs.Pieces.{past_blanks}
use Rattle.omm_kvn.proofs.piece.Piece.past_blanks.Given as goal

abbrev pub invariant-loop-bytes : goal.invariant-loop-bytes
invariant-loop-bytes l =
    (past_blanks l.from l.bytes ≡ past_blanks l.fn.self.from l.fn.self.bytes)
    × (l.from + length l.bytes ≡ l.fn.self.from + length l.fn.self.bytes)

abbrev pub decreases-loop-bytes : goal.decreases-loop-bytes
decreases-loop-bytes l = length l.bytes
