use Rattle.std.proofs.Common.{refl}
use Rattle.std.proofs.lemmas.List.{append_assoc}
use Rattle.plan_text.specs.RowLines.{unresolved_words}
use Rattle.plan_text.proofs.row.unresolved_words.Goals as goal

pub returns-clause-text : goal.returns-clause-text
unfolding unresolved_words
returns-clause-text c =
    rw (c.instant-2.ensures.text, c.instant_at-2.ensures, c.text-2.ensures.text, c.instant.ensures.text, c.instant_at.ensures, c.text.ensures.text) (simp append_assoc refl)
