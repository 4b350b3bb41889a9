use Rattle.std.proofs.Common.{arith, ◌≡◌, ◌++◌, ◌∷◌, ◌<◌, [], length, refl, suc}
use Rattle.std.proofs.lemmas.List.{length-append}
use Rattle.span_bisect.proofs.StackLemmas.{taken, next, put, below, kept, start, alone, room}
use Rattle.span_bisect.proofs.PieceLemmas.{part_known, behind, free, rest_put, next_put, next_read}
use Rattle.span_bisect.proofs.bisect.next_part.Goals as goal
use Rattle.span_bisect.proofs.bisect.next_part.Goals.{in-Some-last+else-at-cell, in_default-last}

pub returns-then-at-cell-clause-part : goal.returns-then-at-cell-clause-part
returns-then-at-cell-clause-part g c =
    let e : c.args.stack.now.items ≡ c.pop.new.self.items ++ c.in-Some.cell ∷ [] = c.in-Some.ensures.items in
    part_known _ _ _ _ _ (next _ _ _ _ (rw e at c.requires.stack)) c.in-Some-last.is c.if-at-cell.true

pub returns-then-at-cell-clause-stack : goal.returns-then-at-cell-clause-stack
returns-then-at-cell-clause-stack g c =
    let e : c.args.stack.now.items ≡ c.pop.new.self.items ++ c.in-Some.cell ∷ [] = c.in-Some.ensures.items in
    behind _ _ _ _ (taken _ _ _ _ (rw e at c.requires.stack)) c.in-Some-last.is

pub push-requires : goal.push-requires
push-requires g c =
    let e : c.args.stack.now.items ≡ c.pop.new.self.items ++ c.in-Some.cell ∷ [] = c.in-Some.ensures.items in
    let n = next _ _ _ _ (rw e at c.requires.stack) in
    let l : c.args.at < c.in-Some.cell.to = omega (arith, n.order, c.if-at-cell.false) in
    let s = start _ _ _ _ _ n c.in-Some-last.is l in
    (omega arith, omega (arith, room _ _ (omega (arith, l)) s.width))

pub loop-to-init : goal.loop-to-init
loop-to-init g c =
    let e : c.args.stack.now.items ≡ c.pop.new.self.items ++ c.in-Some.cell ∷ [] = c.in-Some.ensures.items in
    let h = rw e at c.requires.stack in
    let n = next _ _ _ _ h in
    elim c.match-cell.branch [
      | in-Some-last+else-at-cell w ↦
          let l : c.args.at < c.in-Some.cell.to = omega (arith, n.order, w.if-at-cell.false) in
          let f : c.match-cell.stack.items ≡ c.pop.new.self.items ++ c.in-Some.cell ∷ [] = rw w.stack-is w.push.ensures.items in
          let m : length (c.pop.new.self.items ++ c.in-Some.cell ∷ []) ≡ suc (length c.pop.new.self.items) =
          omega (arith, length-append c.pop.new.self.items (c.in-Some.cell ∷ [])) in
          rw f (record {
            stack = put _ _ _ _ (taken _ _ _ _ h) (kept _ _ _ _ _ n w.in-Some-last.is);
            cell = rw m (start _ _ _ _ _ n w.in-Some-last.is l);
          })
      | in_default-last w ↦
          let f : c.match-cell.stack.items ≡ c.pop.new.self.items = rw w.stack-is refl in
          rw f (record { stack = free _ _ _ (taken _ _ _ _ h) w.in_default-last.is; cell = alone _ _ _ _ n w.in_default-last.is })
    ]

pub cut_cell-pieces-requires-clause-inside : goal.cut_cell-pieces-requires-clause-inside
cut_cell-pieces-requires-clause-inside g c = below _ _ _ c.loop-to.invariant.stack

pub put-requires : goal.put-requires
put-requires g c =
    let l = c.loop-to.invariant.cell.longer in
    record { room = omega (arith, room _ _ (omega (arith, l)) c.loop-to.invariant.cell.width) }

pub put-requires-in-Some-first : goal.put-requires-in-Some-first
put-requires-in-Some-first g c =
    let h = rest_put _ _ _ _ _ _ c.loop-to.invariant.stack c.loop-to.invariant.cell c.cut_cell-pieces.ensures c.put.ensures in
    record { room = omega (arith, h.room) }

pub returns-in-Some-first-clause-stack : goal.returns-in-Some-first-clause-stack
returns-in-Some-first-clause-stack g c =
    let h = rest_put _ _ _ _ _ _ c.loop-to.invariant.stack c.loop-to.invariant.cell c.cut_cell-pieces.ensures c.put.ensures in
    next_put _ _ _ _ _ _ _ c.put-in-Some-first.ensures h c.cut_cell-pieces.ensures c.in-Some-first.is

pub put-requires-in-loop-to : goal.put-requires-in-loop-to
put-requires-in-loop-to g c =
    let l = c.loop-to.invariant.cell.longer in
    record { room = omega (arith, room _ _ (omega (arith, l)) c.loop-to.invariant.cell.width) }

pub loop-to-preserved : goal.loop-to-preserved
loop-to-preserved g c =
    let h = rest_put _ _ _ _ _ _ c.loop-to.invariant.stack c.loop-to.invariant.cell c.cut_cell-pieces.ensures c.put-in-loop-to.ensures in
    record { stack = h.stack; cell = next_read _ _ _ _ _ h c.cut_cell-pieces.ensures c.in_default-first.is }

pub read_tick-requires-clause-inside : goal.read_tick-requires-clause-inside
read_tick-requires-clause-inside g c = below _ _ _ c.loop-to.invariant.stack
