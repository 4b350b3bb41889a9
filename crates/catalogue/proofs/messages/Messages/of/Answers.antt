use Rattle.std.proofs.Common.{sym, ap, ◌∙◌, arith}
use Rattle.tle_read.specs.TwoLine.{trimmed}
use Rattle.catalogue.proofs.MessageLemmas.{among-blank, among-written, among-last}
use Rattle.catalogue.proofs.messages.Messages.of.Goals as goal

pub returns-then-not-is_empty : goal.returns-then-not-is_empty
returns-then-not-is_empty c =
    sym (among-written c.loop-end.number c.in-Some.end c.loop-end.rest.now c.trimmed.result.now c.is_empty.result (sym c.line_end.ensures.value ∙ c.in-Some.is)
    (c.trimmed.ensures.value ∙ ap trimmed c.cut.ensures.before) c.is_empty.ensures c.if-not-is_empty.true)
    ∙ c.loop-end.invariant.same

pub loop-end-preserved : goal.loop-end-preserved
loop-end-preserved c = record {
  count = omega (arith, c.cut.ensures.rest, c.loop-end.invariant.count);
  positive = omega arith;
  same = sym (among-blank c.loop-end.number c.in-Some.end c.loop-end.rest.now c.trimmed.result.now c.cut.result.1.now c.is_empty.result (sym c.line_end.ensures.value ∙ c.in-Some.is)
      (c.trimmed.ensures.value ∙ ap trimmed c.cut.ensures.before) c.cut.ensures.behind c.is_empty.ensures c.if-not-is_empty.false)
      ∙ c.loop-end.invariant.same;
}

pub returns : goal.returns
returns c =
    among-last c.loop-end.number c.is_empty-2.result c.loop-end.rest.now c.trimmed-2.result.now (sym c.line_end.ensures.value ∙ c.in_default.is) c.trimmed-2.ensures.value c.is_empty-2.ensures
    ∙ c.loop-end.invariant.same
