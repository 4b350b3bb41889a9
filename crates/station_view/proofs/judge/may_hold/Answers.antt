use Rattle.std.proofs.Common.{arith}
use Rattle.station_view.proofs.JudgeLemmas.{holds_cross, no_more_than, reaches, touched}
use Rattle.station_view.proofs.ScaleLemmas.{cross_at_range, scaled_cross}
use Rattle.station_view.proofs.judge.may_hold.Goals as goal

pub returns-then-reaches_0-clause-may : goal.returns-then-reaches_0-clause-may
returns-then-reaches_0-clause-may c t = record {
  reaches = reaches c.args.lengths.now.east c.args.lengths.now.north c.args.sector.now c.cross-past.ensures c.cross-short.ensures (c.reaches_0.ensures.yes c.if-reaches_0.true) (c.reaches_0-then-reaches_0.ensures.yes t);
  touches = λ b narrow s v range sides above hold. record {
    from = scaled_cross v.east s.from.cosine v.north s.from.sine b range above (touched (narrow.from _ c.cross-past.ensures) (c.reaches_0.ensures.yes c.if-reaches_0.true) (holds_cross c.cross-past.ensures sides.cos_from hold.east sides.sin_from hold.north));
    to = scaled_cross v.north s.to.sine v.east s.to.cosine b range above (touched (narrow.to _ c.cross-short.ensures) (c.reaches_0-then-reaches_0.ensures.yes t) (holds_cross c.cross-short.ensures sides.sin_to hold.north sides.cos_to hold.east));
  };
}

pub returns-then-reaches_0-clause-not : goal.returns-then-reaches_0-clause-not
returns-then-reaches_0-clause-not c t s v range sides above hold holds =
    no_more_than (c.reaches_0-then-reaches_0.ensures.no t) (holds_cross c.cross-short.ensures sides.sin_to hold.north sides.cos_to hold.east) (cross_at_range v.north s.to.sine v.east s.to.cosine range above holds.to)

pub returns-else-reaches_0-clause-not : goal.returns-else-reaches_0-clause-not
returns-else-reaches_0-clause-not c t s v range sides above hold holds =
    no_more_than (c.reaches_0.ensures.no (λ u. grind (arith, c.if-reaches_0.false, u))) (holds_cross c.cross-past.ensures sides.cos_from hold.east sides.sin_from hold.north) (cross_at_range v.east s.from.cosine v.north s.from.sine range above holds.from)
