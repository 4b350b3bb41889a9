use Rattle.pass_words.proofs.scan.taken.Goals as goal

pub returns-else-is_some : goal.returns-else-is_some
returns-else-is_some c =
    rw (c.in-Opens.is, c.add.ensures, ← c.place.ensures, ← c.is_some.ensures, c.if-is_some.false)
