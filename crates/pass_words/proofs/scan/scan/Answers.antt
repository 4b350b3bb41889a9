use Rattle.std.proofs.Common.{◌+◌, ◌-◌, ◌∙◌, [], get_or, sym}
use Rattle.std.proofs.lemmas.List.{at_drop_all}
use Rattle.std.proofs.lemmas.Result.{err_from_is_err_and}
use Rattle.pass_words.specs.Found.{places_in}
use Rattle.pass_words.specs.Roles.{roles}
use Rattle.pass_words.proofs.OptionsLemmas.{read_on}
use Rattle.pass_words.proofs.ScanLemmas.{read_on-drop, options-drop}
use Rattle.pass_words.proofs.scan.scan.Goals as goal

pub loop-index-init : goal.loop-index-init
loop-index-init c = rw c.none-found.ensures (options-drop c.args.keys.now c.args.words.now)

pub loop-index-preserved : goal.loop-index-preserved
loop-index-preserved c =
    c.loop-index.invariant
    ∙ (read_on-drop c.args.keys.now c.loop-index.index _ _ _ c.args.words.now (places_in c.loop-index.found) _ _ c.loop-index-test.true
    c.word_at-before.ensures c.word_at-word.ensures c.word_at-next.ensures c.role_of.ensures c.taken.ensures
    ∙ rw c.in_ok-found.was)

pub returns-in_err-found : goal.returns-in_err-found
returns-in_err-found c =
    let p = err_from_is_err_and c.from_residual.result c.from_residual.ensures.1 in
    rw (p.1, p.2) (sym (c.loop-index.invariant
    ∙ (read_on-drop c.args.keys.now c.loop-index.index _ _ _ c.args.words.now (places_in c.loop-index.found) _ _ c.loop-index-test.true
    c.word_at-before.ensures c.word_at-word.ensures c.word_at-next.ensures c.role_of.ensures c.taken.ensures
    ∙ rw c.in_err-found.was)))

pub returns : goal.returns
returns c =
    let words = c.args.words.now in
    sym (c.loop-index.invariant
    ∙ at_drop_all (λ rest. read_on (c.loop-index.index + 1) (places_in c.loop-index.found) (roles c.args.keys.now (c.loop-index.index + 1) (get_or words (c.loop-index.index - 1) []) rest)) words c.loop-index.index c.loop-index-test.false)
