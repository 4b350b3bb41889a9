use Rattle.std.proofs.Common.{◌≡◌, ◌+◌, ◌≤◌, length, take, drop}
use Rattle.omm_kvn.specs.Lines.{split}
use Rattle.catalogue.specs.MessageFile.{messages_from}
use Rattle.catalogue.proofs.MessageLemmas.{grown}
use Rattle.catalogue.proofs.beginning.next_beginning.Given as goal

-- the message has grown by the lines that were read
abbrev pub invariant-loop-end : goal.invariant-loop-end
invariant-loop-end l = record {
  rest : l.rest ≡ drop l.at l.text;
  room : l.at + length l.rest ≡ length l.text;
  count : l.next ≤ l.number + l.at;
  positive : 1 ≤ l.next;
  same : grown l.number (take l.at l.text) l.next (split l.rest) ≡ messages_from l.number (split l.text);
}

abbrev pub decreases-loop-end : goal.decreases-loop-end
decreases-loop-end l = length l.rest
