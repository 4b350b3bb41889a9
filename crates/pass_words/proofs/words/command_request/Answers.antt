use Rattle.std.proofs.Common.{sym}
use Rattle.pass_words.specs.Found.{places_in}
use Rattle.pass_words.proofs.RequestLemmas.{request_names}
use Rattle.pass_words.proofs.words.command_request.Goals as goal

pub returns-in-Ok-clause-names : goal.returns-in-Ok-clause-names
returns-in-Ok-clause-names c =
    rw c.request_of.ensures.value (request_names c.args.command c.args.words.now (places_in c.in-Ok.found) (rw (← c.keys.ensures) (sym c.in-Ok.ensures)))
