use Rattle.top_call.proofs.GivenLemmas.{IsFront}
use Rattle.top_call.proofs.given.given_words.Given as goal

abbrev pub invariant-loop-place : goal.invariant-loop-place
invariant-loop-place g l = IsFront (g.W.Arguments.told l.arguments) l.words.items l.place
