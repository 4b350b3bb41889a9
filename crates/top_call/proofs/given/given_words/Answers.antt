use Rattle.top_call.proofs.GivenLemmas.{all_read, one_more_read}
use Rattle.top_call.proofs.given.given_words.Goals as goal

pub returns-in-None : goal.returns-in-None
returns-in-None g c =
    all_read (g.W.Arguments.told c.args.arguments.now) c.loop-place.words.items c.loop-place.place c.loop-place.invariant (rw c.in-None.is at c.in_ok-word.ensures)

pub loop-place-preserved : goal.loop-place-preserved
loop-place-preserved g c =
    rw c.in_ok-push-in-Some.ensures.items
    (one_more_read (g.W.Arguments.told c.args.arguments.now) c.loop-place.words.items c.loop-place.place c.in-Some.word c.loop-place.invariant
    (rw c.in-Some.is at c.in_ok-word.ensures))
