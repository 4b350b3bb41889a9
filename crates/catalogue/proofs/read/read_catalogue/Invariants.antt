use Rattle.std.proofs.Common.{◌≡◌, ◌≤◌, [], length}
use Rattle.catalogue.specs.Entries.{most_entries}
use Rattle.catalogue.specs.Sets.{sets_in}
use Rattle.catalogue.specs.Source.{sets_left}
use Rattle.catalogue.proofs.FoldLemmas.{read_on}
use Rattle.catalogue.proofs.read.read_catalogue.Given as goal

-- the answer from here on is that from the first set on
abbrev pub invariant-loop-set : goal.invariant-loop-set
invariant-loop-set l = record {
  same : read_on most_entries l.start l.count l.catalogue (sets_left l.sets) ≡ read_on most_entries l.start 0 [] (sets_in l.bytes);
  count : l.count ≤ most_entries;
  room : length l.catalogue ≤ l.count;
}

abbrev pub decreases-loop-set : goal.decreases-loop-set
decreases-loop-set l = length (sets_left l.sets)
