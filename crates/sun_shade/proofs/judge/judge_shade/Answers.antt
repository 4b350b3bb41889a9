use Rattle.std.proofs.Common.{inl, inr, pos, ◌<ℤ◌}
use Rattle.sun_shade.proofs.JudgedLemmas.{above_0, below_0}
use Rattle.sun_shade.proofs.judge.judge_shade.Goals.{then-is_above_0, else-is_above_0}
use Rattle.sun_shade.proofs.judge.judge_shade.Goals as goal

pub returns-then-is_above_0-2-clause-yes : goal.returns-then-is_above_0-2-clause-yes
returns-then-is_above_0-2-clause-yes c _ v hp hg =
    elim c.if-is_above_0.branch [
      | then-is_above_0 w ↦ (let above : pos 0 <ℤ c.args.shade.now.p.lo = c.is_above_0.ensures.0 w.if-is_above_0.true in inl (above_0 above hp))
      | else-is_above_0 w ↦ (let over : pos 0 <ℤ c.args.shade.now.g.lo = w.is_above_0-else-is_above_0.ensures.0 (rw w.value-is at c.if-is_above_0-2.true) in inr (above_0 over hg))
    ]

pub returns-then-is_below_0-2-clause-no : goal.returns-then-is_below_0-2-clause-no
returns-then-is_below_0-2-clause-no c _ v hp hg =
    record { behind = below_0 (c.is_below_0.ensures.0 c.if-is_below_0.true) hp; inside = below_0 (c.is_below_0-then-is_below_0.ensures.0 c.if-is_below_0-2.true) hg }
