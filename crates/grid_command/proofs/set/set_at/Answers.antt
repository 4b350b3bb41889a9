use Rattle.std.proofs.Common.{◌+◌, subst, sym}
use Rattle.elements.specs.Elements.{IsElements}
use Rattle.grid_command.proofs.GeneratedLemmas.{set_is}
use Rattle.grid_command.proofs.set.set_at.Goals as goal

pub make-requires : goal.make-requires
make-requires c =
    subst IsElements
    (sym (λ i. record {
      number = 90_000 + c.args.k;
      epoch = c.midnight.ensures i;
      motion = c.scaled.ensures i;
      ecc = c.scaled-2.ensures i;
      incl = c.degrees.ensures i;
      node = c.degrees-2.ensures i;
      argp = c.degrees-3.ensures i;
      anomaly = c.degrees-4.ensures i;
      bstar = c.scaled-3.ensures i;
    })) (set_is c.args.k c.requires)
