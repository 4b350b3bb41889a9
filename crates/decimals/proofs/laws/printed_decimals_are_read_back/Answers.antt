use Rattle.decimals.proofs.RoundTrip.{read_back, texts_differ}
use Rattle.decimals.proofs.laws.printed_decimals_are_read_back.Goals as goal

pub returns-clause-read_back : goal.returns-clause-read_back
returns-clause-read_back c = read_back

pub returns-clause-differ : goal.returns-clause-differ
returns-clause-differ c = texts_differ
