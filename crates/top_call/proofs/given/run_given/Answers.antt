use Rattle.std.proofs.Common.{inl, inr, refl, ◌∙◌}
use Rattle.top_call.proofs.GivenLemmas.{told_words}
use Rattle.top_call.specs.declared.outcome.Outcome.TheVariants.{OutOfMemory}
use Rattle.top_call.proofs.given.run_given.Goals as goal

pub run-requires : goal.run-requires
run-requires g c = c.requires c.deref.result.now (rw c.deref.ensures.value c.in-Ok.ensures)

pub returns-in-Ok : goal.returns-in-Ok
returns-in-Ok g c = record {
  words = c.deref.result.now;
  given = rw c.deref.ensures.value c.in-Ok.ensures;
  outcome = c.run.result;
  run = inl c.run.ensures;
  status_is = c.code_of.ensures;
}

pub returns-in-Err : goal.returns-in-Err
returns-in-Err g c =
    let some = told_words (g.W.Arguments.told c.args.arguments.now) in
    let line = c.bytes.ensures.value ∙ c.memory_line.ensures in record {
      words = some.0;
      given = some.1;
      outcome = OutOfMemory;
      run = inr (record { want = refl; written = rw line at c.put_refusal.ensures; counts = record { no_fault = refl; no_over = refl } });
      status_is = c.code_of-in-Err.ensures;
    }
