use Rattle.std.proofs.Common.{◌≡◌, ◌≤◌}
use Rattle.catalogue.specs.Place.{lines_at, left_at}
use Rattle.catalogue.proofs.lines.Lines.next.Given as goal

-- blank lines alone were read
abbrev pub invariant-loop-self : goal.invariant-loop-self
invariant-loop-self l = (lines_at l.self ≡ lines_at l.initial.self) × (left_at l.self ≤ left_at l.initial.self)

abbrev pub decreases-loop-self : goal.decreases-loop-self
decreases-loop-self l = left_at l.self
