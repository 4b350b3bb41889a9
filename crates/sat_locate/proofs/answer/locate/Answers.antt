use Rattle.std.proofs.Common.{◌∙◌, refl, sym}
use Rattle.sat_locate.proofs.FoundLemmas.{found_of_entry}
use Rattle.sat_locate.proofs.answer.locate.Goals as goal
use Rattle.sat_locate.proofs.answer.locate.Goals.{in-Some+in_ok-name-in-Some, in-None}

pub returns-clause-answer : goal.returns-clause-answer
returns-clause-answer c =
    elim c.match-find.branch [
      | in-Some+in_ok-name-in-Some w ↦ record {
        at_is = refl;
        number_is = refl;
        found = rw w.found-is
            (found_of_entry c.args.satellites.now c.args.number c.args.at w.in-Some.entry.now w.in_ok-name-in-Some.name _ (sym w.in-Some.ensures.value)
            (w.in_ok-name-in-Some.ensures ∙ w.bytes.ensures) w.found_of-found.ensures.found);
      }
      | in-None w ↦ record { at_is = refl; number_is = refl; found = rw w.found-is (sym w.in-None.ensures.found) }
    ]
