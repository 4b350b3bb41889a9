use Rattle.std.proofs.Common.{◌+◌, drop, sym, ap, ◌∙◌, arith}
use Rattle.std.proofs.lemmas.List.{drop-drop}
use Rattle.catalogue.proofs.MessageLemmas.{grown-found, grown-on, grown-last}
use Rattle.catalogue.proofs.beginning.next_beginning.Goals as goal

pub returns-then-begins_message-clause-some : goal.returns-then-begins_message-clause-some
returns-then-begins_message-clause-some c = record {
  inside = omega (arith, c.loop-end.invariant.room, c.in-Some.ensures.bound);
  count = omega (arith, c.loop-end.invariant.count);
  positive = omega arith;
  cuts = sym c.loop-end.invariant.same
      ∙ grown-found c.args.number c.loop-end.next c.loop-end.at c.in-Some.end c.args.text.now c.loop-end.rest.now c.cut.result.1.now c.first_line.result.now
      (sym c.line_end.ensures.value ∙ c.in-Some.is) c.loop-end.invariant.rest c.cut.ensures.behind c.first_line.ensures.value (sym c.begins_message.ensures ∙ c.if-begins_message.true);
}

pub loop-end-preserved : goal.loop-end-preserved
loop-end-preserved c = record {
  rest = c.cut.ensures.behind ∙ ap (drop (c.in-Some.end + 1)) c.loop-end.invariant.rest ∙ drop-drop (c.in-Some.end + 1) c.loop-end.at c.args.text.now;
  room = omega (arith, c.loop-end.invariant.room, c.cut.ensures.rest);
  count = omega (arith, c.loop-end.invariant.count);
  positive = omega arith;
  same = sym (grown-on c.args.number c.loop-end.next c.loop-end.at c.in-Some.end c.args.text.now c.loop-end.rest.now c.cut.result.1.now c.first_line.result.now
      (sym c.line_end.ensures.value ∙ c.in-Some.is) c.loop-end.invariant.rest c.cut.ensures.behind c.first_line.ensures.value (sym c.begins_message.ensures ∙ c.if-begins_message.false))
      ∙ c.loop-end.invariant.same;
}

pub returns-clause-none : goal.returns-clause-none
returns-clause-none c = λ is_none. sym c.loop-end.invariant.same
    ∙ grown-last c.args.number c.loop-end.next c.loop-end.at c.args.text.now c.loop-end.rest.now (sym c.line_end.ensures.value ∙ c.in_default.is) c.loop-end.invariant.rest
