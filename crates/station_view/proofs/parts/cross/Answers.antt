use Rattle.station_view.proofs.parts.cross.Goals as goal

pub returns : goal.returns
returns c h x y z w p q r s =
    c.minus.ensures.covers h _ _ (c.times-left.ensures.covers h _ _ (c.constant.ensures.covers h x p) q) (c.times.ensures.covers h _ _ (c.constant-2.ensures.covers h z r) s)
