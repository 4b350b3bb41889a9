use Rattle.std.proofs.Common.{arith, IsTrue}
use Rattle.fixed_iv.proofs.HeldLemmas.{holds_product}
use Rattle.station_view.proofs.JudgeLemmas.{apart, falls_short_by}
use Rattle.station_view.proofs.ScaleLemmas.{cancel_lt, scaled_le}
use Rattle.station_view.proofs.judge.is_above_up.Goals as goal

pub returns-then-lies_below-clause-sure : goal.returns-then-lies_below-clause-sure
returns-then-lies_below-clause-sure c t s v range sides above hold holds =
    cancel_lt v.up s.floor range above (apart (c.lies_below.ensures.yes c.if-lies_below.true) hold.up (holds_product c.mul.ensures sides.floor hold.range))

pub returns-else-lies_below-clause-sure : goal.returns-else-lies_below-clause-sure
returns-else-lies_below-clause-sure c t s v range sides above hold holds =
    let not : ¬ IsTrue c.may_hold.result = λ u. grind (arith, t, u) in
    absurd (c.may_hold.ensures.not not s v range sides above hold holds)

pub returns-else-lies_below-clause-unsure : goal.returns-else-lies_below-clause-unsure
returns-else-lies_below-clause-unsure c t =
    let may = c.may_hold.ensures.may (grind (arith, t)) in
    let lies : ¬ IsTrue c.lies_below.result = λ u. grind (arith, c.if-lies_below.false, u) in
    record {
      reaches = may.reaches;
      high = λ b narrow s v range sides above hold. record {
        touches = may.touches b narrow s v range sides above hold;
        up = scaled_le s.floor v.up b range above (falls_short_by narrow.bounded (narrow.floor _ c.mul.ensures) (narrow.up _ c.mul.ensures) (c.lies_below.ensures.no lies) hold.up (holds_product c.mul.ensures sides.floor hold.range));
      };
    }
