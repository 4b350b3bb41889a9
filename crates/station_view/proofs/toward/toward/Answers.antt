use Rattle.fixed_iv.specs.Reach.{given}
use Rattle.fixed_iv.proofs.Held.{constant_held, within}
use Rattle.fixed_iv.proofs.Promises.{difference}
use Rattle.station_view.specs.SightReach.{place_component}
use Rattle.station_view.proofs.toward.toward.Goals as goal

pub returns : goal.returns
unfolding given
returns g c h pi lat lon pair place r sine cosine n stands turn pos =
    let law = g.met.E.Enc.contained in
    let fixed = c.to_earth-fixed.ensures.held h pair r sine cosine n turn.of_sine turn.of_cosine pos in
    let at = c.args.station.now.of_place.hold pi lat lon place stands.pairs.is_pi stands.pairs.is_latitude stands.pairs.is_longitude stands.is_place in
    let x = within place_component (constant_held c.constant.ensures.covers c.constant.ensures.narrow at.x) tt in
    let y = within place_component (constant_held c.constant-2.ensures.covers c.constant-2.ensures.narrow at.y) tt in
    let z = within place_component (constant_held c.constant-3.ensures.covers c.constant-3.ensures.narrow at.z) tt in
    record { x = difference law c.minus.ensures fixed.x x; y = difference law c.minus-2.ensures fixed.y y; z = difference law c.minus-3.ensures fixed.z z }
