use Rattle.std.proofs.Common.{arith, ◌≡◌, ◌≢◌, ◌≤◌, ◌+◌, length, subst, sym, ◌∙◌}
use Rattle.std.proofs.lemmas.Bool.{eqb-true}
use Rattle.sgp4_model.specs.declared.span.Mark.TheVariants.{Undecided}
use Rattle.sgp4_model.specs.Certified.{IsSoundUpTo}
use Rattle.span_pool.specs.Pool.{list_of, slots_used}
use Rattle.span_pool.proofs.HeldLemmas.{length_held}
use Rattle.span_bisect.proofs.GrownLemmas.{pushes, pushed_list}
use Rattle.span_bisect.proofs.MarkLemmas.{same_mark, other_mark}
use Rattle.span_bisect.proofs.StackLemmas.{below, emptied}
use Rattle.span_bisect.proofs.ReadingLemmas.{extend, turn, finish, unresolved, full, out_of_room, sinks}
use Rattle.span_bisect.proofs.bisect.read_track.Goals as goal
use Rattle.span_bisect.proofs.bisect.read_track.Goals.{else-eq-2-via-then-eq-2+else-run-resolution, else-eq-2-via-else-eq-2}

pub returns-in_default-next_part-clause-stopped : goal.returns-in_default-next_part-clause-stopped
returns-in_default-next_part-clause-stopped g c = sinks _ _ _ _ c.loop-stack.invariant.read c.in_default-next_part.ensures.sinks

pub returns-then-run-resolution-clause-stopped : goal.returns-then-run-resolution-clause-stopped
returns-then-run-resolution-clause-stopped g c =
    let same : c.in-Some-next_part.part.mark ≡ c.loop-stack.run.mark = same_mark _ _ (sym c.eq.ensures ∙ c.if-eq.true) in
    let undecided = same_mark _ _ (sym c.eq-then-eq.ensures ∙ c.if-eq-2.true) in
    unresolved _ _ _ _ _ c.loop-stack.invariant.read c.in-Some-next_part.ensures.part same undecided c.if-run-resolution.true
    (below _ _ _ c.in-Some-next_part.ensures.stack)

pub loop-stack-smaller-else-eq-2 : goal.loop-stack-smaller-else-eq-2
loop-stack-smaller-else-eq-2 g c = omega (arith, c.in-Some-next_part.ensures.part.longer, below _ _ _ c.in-Some-next_part.ensures.stack)

pub loop-stack-preserved-else-eq-2 : goal.loop-stack-preserved-else-eq-2
loop-stack-preserved-else-eq-2 g c =
    let same : c.in-Some-next_part.part.mark ≡ c.loop-stack.run.mark = same_mark _ _ (sym c.eq.ensures ∙ c.if-eq.true) in
    let short : c.loop-stack.run.mark ≡ Undecided → c.in-Some-next_part.part.to ≤ c.loop-stack.run.from + c.args.resolution =
    λ e. elim c.else-eq-2.branch [
      | else-eq-2-via-then-eq-2+else-run-resolution w ↦ omega arith
      | else-eq-2-via-else-eq-2 w ↦ absurd (other_mark _ _ (sym c.eq-then-eq.ensures ∙ w.if-eq-2.false) e)
    ] in
    record {
      read = extend _ _ _ _ _ c.loop-stack.invariant.read c.in-Some-next_part.ensures.part same short;
      stack = c.in-Some-next_part.ensures.stack;
      grown = c.loop-stack.invariant.grown;
    }

pub loop-stack-smaller : goal.loop-stack-smaller
loop-stack-smaller g c = omega (arith, c.in-Some-next_part.ensures.part.longer, below _ _ _ c.in-Some-next_part.ensures.stack)

pub loop-stack-preserved : goal.loop-stack-preserved
loop-stack-preserved g c =
    let other : c.in-Some-next_part.part.mark ≢ c.loop-stack.run.mark = other_mark _ _ (sym c.eq.ensures ∙ c.if-eq.false) in
    record {
      read = rw (pushed_list _ _ _ _ _ c.in-Ok.ensures.pushed)
          (turn _ _ _ _ _ c.requires.resolution.0 c.loop-stack.invariant.read c.in-Some-next_part.ensures.part other);
      stack = c.in-Some-next_part.ensures.stack;
      grown = pushes _ _ _ _ _ _ c.loop-stack.invariant.grown c.in-Ok.ensures.pushed;
    }

pub returns-in-Err-clause-stopped : goal.returns-in-Err-clause-stopped
returns-in-Err-clause-stopped g c =
    let grown = c.loop-stack.invariant.grown in
    let no_slot : length (list_of c.loop-stack.pool c.loop-stack.track) + slots_used c.args.pool.now ≡ c.args.pool.now.slots =
    omega (arith, length_held c.loop-stack.pool c.loop-stack.track grown.holds, grown.used, grown.slots, c.in-Err.ensures.full.0) in
    let inside = below _ _ _ c.loop-stack.invariant.stack in
    (full _ _ _ _ _ _ c.loop-stack.invariant.read no_slot inside, out_of_room _ _ _ _ _ _ c.loop-stack.invariant.read no_slot inside)

pub returns-in-Ok-push-clause-grown : goal.returns-in-Ok-push-clause-grown
returns-in-Ok-push-clause-grown g c = pushes _ _ _ _ _ _ c.loop-stack.invariant.grown c.in-Ok-push.ensures.pushed

pub returns-in-Ok-push-clause-read : goal.returns-in-Ok-push-clause-read
returns-in-Ok-push-clause-read g c =
    let none_left : length c.loop-stack.stack.items ≡ 0 = eqb-true _ _ (sym c.is_empty.ensures ∙ c.loop-stack-test.false) in
    rw (pushed_list _ _ _ _ _ c.in-Ok-push.ensures.pushed)
    (subst (IsSoundUpTo _ _ _) (emptied _ _ _ c.loop-stack.invariant.stack none_left) (finish _ _ _ _ c.loop-stack.invariant.read))

pub returns-in-Err-push-clause-stopped : goal.returns-in-Err-push-clause-stopped
returns-in-Err-push-clause-stopped g c =
    let grown = c.loop-stack.invariant.grown in
    let no_slot : length (list_of c.loop-stack.pool c.loop-stack.track) + slots_used c.args.pool.now ≡ c.args.pool.now.slots =
    omega (arith, length_held c.loop-stack.pool c.loop-stack.track grown.holds, grown.used, grown.slots, c.in-Err-push.ensures.full.0) in
    let inside = below _ _ _ c.loop-stack.invariant.stack in
    (full _ _ _ _ _ _ c.loop-stack.invariant.read no_slot inside, out_of_room _ _ _ _ _ _ c.loop-stack.invariant.read no_slot inside)
