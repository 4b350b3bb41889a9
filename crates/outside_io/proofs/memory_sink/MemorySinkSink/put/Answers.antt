use Rattle.std.proofs.Common.{inl, inr, refl, arith, ◌<◌, ◌+◌, length, Contains}
use Rattle.std.proofs.lemmas.Grind.{common_steps}
use Rattle.outside_io.specs.Counts.{one_more}
use Rattle.outside_io.proofs.memory_sink.MemorySinkSink.put.Goals as goal
use Rattle.outside_io.proofs.memory_sink.MemorySinkSink.put.Goals.{then-listed, else-listed}

pub returns-then-fails-2-clause-fails : goal.returns-then-fails-2-clause-fails
returns-then-fails-2-clause-fails c = (
  λ _. elim c.if-listed.branch [
    | then-listed w ↦
        let listed : Contains c.args.self.now.failing (one_more c.args.self.now.calls) = grind (arith, common_steps) in inl listed
    | else-listed w ↦
        let long : c.args.self.now.room < length c.args.self.now.bytes + length c.args.piece.now = grind (arith, common_steps) in inr long
  ],
  λ _. refl,
)
