use Rattle.std.proofs.Common.{subst, sym}
use Rattle.fixed_iv.specs.Holds.{Holds}
use Rattle.fixed_iv.proofs.HeldLemmas.{holds_sum}
use Rattle.lin_form.proofs.lin.Lin.along.Goals as goal

pub returns : goal.returns
returns c h x m s ranged centred sloped is =
    let reached = subst (Holds c.add.result) (sym is) (holds_sum c.add.ensures centred (c.swept.ensures h s sloped)) in
    record {
      middle = m;
      slope = s;
      ranged = (c.meet.ensures.common x ranged reached x).1 (ranged, reached);
      centred = centred;
      sloped = sloped;
      is = is;
    }
