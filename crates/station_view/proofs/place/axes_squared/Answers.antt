use Rattle.std.proofs.Common.{pos, subst}
use Rattle.fixed_iv.specs.Reach.{IsHeld, given}
use Rattle.fixed_iv.proofs.Held.{constant_held, within}
use Rattle.fixed_iv.proofs.HeldGiven.{ratio_given}
use Rattle.station_view.specs.PlaceReach.{axes_reach}
use Rattle.station_view.proofs.PlaceLemmas.{axes_are}
use Rattle.station_view.proofs.place.axes_squared.Goals as goal

pub returns : goal.returns
unfolding given
returns g c h =
    subst (λ t. IsHeld g.E.Enc.covers g.E.Enc.extent g.E.Enc.tells c.constant.result h t axes_reach) axes_are
    (within axes_reach (constant_held c.constant.ensures.covers c.constant.ensures.narrow (ratio_given (pos 88361856960383362414969) 88957371407509362414968 1 c.from_ratio.ensures tt tt)) tt)
