use Rattle.std.proofs.Common.{sym}
use Rattle.outside_io.proofs.WordLemmas.{word_copied}
use Rattle.outside_io.proofs.memory_words.MemoryWordsArguments.word.Goals as goal

pub returns-clause-word : goal.returns-clause-word
returns-clause-word c =
    word_copied c.args.self.now c.self.inside.words.items c.args.place c.in-Some.word.now c.as_slice-word.result.now c.copy_from_slice.new.self _
    (sym c.self.view_is) (rw c.deref.ensures.value at c.in-Some.ensures.lookup.3.0) (rw c.deref.ensures.value at c.in-Some.ensures.lookup.1)
    c.as_slice-word.ensures.value c.copy_from_slice.ensures.after
