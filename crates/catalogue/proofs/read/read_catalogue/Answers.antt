use Rattle.std.proofs.Common.{ap, sym, ◌∙◌, ◌+◌, ◌<◌, length, Err, arith}
use Rattle.std.proofs.lemmas.Bool.{cond-true, cond-false, eq-eqb, ne_eqb}
use Rattle.catalogue.specs.Entries.{most_entries}
use Rattle.catalogue.specs.Source.{sets_left}
use Rattle.catalogue.proofs.FoldLemmas.{chosen_is, read_on}
use Rattle.catalogue.proofs.KeepingLemmas.{length-with_set}
use Rattle.catalogue.proofs.ReadLemmas.{read_on-none, read_on-full, read_on-fault, read_on-set, holds}
use Rattle.catalogue.proofs.read.read_catalogue.Goals as goal

pub returns-then-count-eq-MOST_ENTRIES : goal.returns-then-count-eq-MOST_ENTRIES
returns-then-count-eq-MOST_ENTRIES c = record {
  value = λ memory. sym (
      chosen_is c.args.bytes.now c.args.start
      ∙ sym c.loop-set.invariant.same
      ∙ read_on-full most_entries c.args.start c.loop-set.count c.loop-set.catalogue c.next_set.result c.in-Some.set _ _ c.next_set.ensures.read c.in-Some.is (omega arith));
}

pub returns-in-Err : goal.returns-in-Err
returns-in-Err c = record {
  value = λ memory. sym (
      chosen_is c.args.bytes.now c.args.start
      ∙ sym c.loop-set.invariant.same
      ∙ read_on-fault most_entries c.args.start c.loop-set.count c.loop-set.catalogue c.next_set.result c.in-Some.set c.in-Err.fault _ _ c.next_set.ensures.read c.in-Some.is c.in-Err.is (λ h. memory (ap Err h)) (omega arith));
}

pub returns-then-count-eq0 : goal.returns-then-count-eq0
returns-then-count-eq0 c = record {
  value = λ memory. sym (
      chosen_is c.args.bytes.now c.args.start
      ∙ sym c.loop-set.invariant.same
      ∙ read_on-none most_entries c.args.start c.loop-set.count c.loop-set.catalogue c.next_set.result _ _ c.next_set.ensures.read c.in_default.is
      ∙ cond-true _ _ _ (eq-eqb c.loop-set.count 0 c.if-count-eq0.true));
}

pub returns-else-count-eq0 : goal.returns-else-count-eq0
returns-else-count-eq0 c = record {
  value = λ memory. sym (
      chosen_is c.args.bytes.now c.args.start
      ∙ sym c.loop-set.invariant.same
      ∙ read_on-none most_entries c.args.start c.loop-set.count c.loop-set.catalogue c.next_set.result _ _ c.next_set.ensures.read c.in_default.is
      ∙ cond-false _ _ _ (ne_eqb c.loop-set.count 0 c.if-count-eq0.false));
}

pub loop-set-preserved : goal.loop-set-preserved
loop-set-preserved c =
    let kept = holds c.keep.result c.keep.ensures (sym c.is_err.ensures.value ∙ c.if-is_err.false) in
    let below : c.loop-set.count < most_entries = omega arith in record {
      same =
          ap (λ entries. read_on most_entries c.args.start (c.loop-set.count + 1) entries (sets_left c.next_set.new.sets)) kept
          ∙ sym (read_on-set most_entries c.args.start c.loop-set.count c.loop-set.catalogue c.next_set.result c.in-Some.set c.in-Ok.set _ _ c.next_set.ensures.read c.in-Some.is c.in-Ok.is below)
          ∙ c.loop-set.invariant.same;
      count = omega arith;
      room = let more = length-with_set c.args.start c.in-Ok.set c.loop-set.catalogue in let same = ap length kept in omega arith;
    }
