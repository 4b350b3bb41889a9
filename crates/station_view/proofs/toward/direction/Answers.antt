use Rattle.std.proofs.Common.{sym, subst}
use Rattle.fixed_iv.specs.Follows.{Encloses}
use Rattle.fixed_iv.proofs.Promises.{quotient}
use Rattle.station_view.specs.SightReach.{sight_reach}
use Rattle.station_view.proofs.toward.direction.Goals as goal

pub returns : goal.returns
returns g c h x lat lon d v r lengths is =
    let E = g.E.Enc in
    let law = g.met.E.Enc.contained in
    let reach = sight_reach r in
    record {
      east = subst (λ t. Encloses E c.divided.result h t reach.east) (sym is.east) (quotient law c.divided.ensures is.range_divides lengths.east lengths.range);
      north = subst (λ t. Encloses E c.divided-2.result h t reach.north) (sym is.north) (quotient law c.divided-2.ensures is.range_divides lengths.north lengths.range);
      up = subst (λ t. Encloses E c.divided-3.result h t reach.up) (sym is.up) (quotient law c.divided-3.ensures is.range_divides lengths.up lengths.range);
    }
