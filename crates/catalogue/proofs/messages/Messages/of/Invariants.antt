use Rattle.std.proofs.Common.{◌≡◌, ◌+◌, ◌≤◌, length}
use Rattle.omm_kvn.specs.Lines.{split}
use Rattle.catalogue.specs.MessageFile.{messages, messages_among}
use Rattle.catalogue.specs.Place.{most_bytes}
use Rattle.catalogue.proofs.messages.Messages.of.Given as goal

-- blank lines alone were read
abbrev pub invariant-loop-end : goal.invariant-loop-end
invariant-loop-end l = record {
  count : l.number + length l.rest ≤ most_bytes + 1;
  positive : 1 ≤ l.number;
  same : messages_among l.number (split l.rest) ≡ messages l.bytes;
}

abbrev pub decreases-loop-end : goal.decreases-loop-end
decreases-loop-end l = length l.rest
