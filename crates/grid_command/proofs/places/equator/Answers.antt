use Rattle.std.proofs.Common.{arith, pos, neg_ℤ, sym, subst}
use Rattle.decimals.specs.Decimal.{DecimalRecord, value}
use Rattle.elements.specs.Elements.{IsFromTo}
use Rattle.grid_command.proofs.GeneratedLemmas.{floor_is}
use Rattle.grid_command.proofs.places.equator.Goals as goal

pub flat-requires : goal.flat-requires
flat-requires c =
    subst (λ (d : DecimalRecord). IsFromTo (neg_ℤ (pos 90)) (pos 90) (value d)) (sym c.whole-4.ensures.form) (floor_is 10 (omega arith))
