use Rattle.std.proofs.Common.{◌≡◌, ◌≤◌, length, reverse}
use Rattle.omm_kvn.specs.Pieces.{is_trailing, skip_while}
use Rattle.omm_kvn.proofs.piece.Piece.trimmed.Given as goal

abbrev pub invariant-loop-bytes : goal.invariant-loop-bytes
invariant-loop-bytes l =
    (skip_while is_trailing (reverse l.bytes) ≡ skip_while is_trailing (reverse l.kept-inside.bytes.now))
    × (length l.bytes ≤ length l.kept-inside.bytes.now)

abbrev pub decreases-loop-bytes : goal.decreases-loop-bytes
decreases-loop-bytes l = length l.bytes
