use Rattle.station_view.proofs.parts.over_floor.Goals as goal

pub returns : goal.returns
returns c h s l sides covered = c.minus.ensures.covers h _ _ covered.up (c.times-floor.ensures.covers h _ _ (c.constant.ensures.covers h _ sides.floor) covered.range)
