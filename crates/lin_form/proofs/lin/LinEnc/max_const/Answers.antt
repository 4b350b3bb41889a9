use Rattle.std.proofs.Common.{arith, subst, sym}
use Rattle.std.proofs.lemmas.Int.{to_z-of_z}
use Rattle.lin_form.specs.Covered.{IsCovered}
use Rattle.lin_form.proofs.BandLemmas.{above_held}
use Rattle.lin_form.proofs.LinLemmas.{greater_is}
use Rattle.lin_form.proofs.lin.LinEnc.max_const.Goals as goal

pub returns-then-self-floor-clause-covers : goal.returns-then-self-floor-clause-covers
returns-then-self-floor-clause-covers c h x m z k l g =
    subst (IsCovered c.args.self h) (sym (greater_is (above_held (grind (arith, to_z-of_z, c.if-self-floor.true)) k.ranged l) g)) k

pub returns-clause-covers : goal.returns-clause-covers
returns-clause-covers c h x m z k l g = c.level.ensures h z (c.max_const.ensures.holds z (record { left = x; right = m; of_left = k.ranged; of_right = l; is = g }))
