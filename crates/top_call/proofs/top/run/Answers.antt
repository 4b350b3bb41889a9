use Rattle.std.proofs.Common.{sym, ◌∙◌}
use Rattle.top_call.proofs.RunLemmas.{files_made, run_of_request}
use Rattle.top_call.proofs.top.run.Goals as goal

pub run_request-requires-clause-allowed : goal.run_request-requires-clause-allowed
run_request-requires-clause-allowed g c name named =
    c.requires name (rw (files_made c.args.words.now c.in-Ok.request (sym c.read_words.ensures.value ∙ c.in-Ok.is)) named)

pub returns-in-Ok : goal.returns-in-Ok
returns-in-Ok g c =
    rw c.outcome_of.ensures
    (run_of_request c.args.words.now c.in-Ok.request c.run_request.result (sym c.read_words.ensures.value ∙ c.in-Ok.is) c.run_request.ensures)
