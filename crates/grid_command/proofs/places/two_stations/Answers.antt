use Rattle.grid_command.proofs.GeneratedLemmas.{two_rows}
use Rattle.grid_command.proofs.places.two_stations.Goals as goal

pub of-requires : goal.of-requires
of-requires c =
    two_rows c.in_ok-rows.rows.items c.push.new.self.items c.push-2.new.self.items c.in_ok-equator.field-0 c.in_ok-north.field-0 c.in_ok-rows.ensures.items c.in_ok-push.ensures.items
    c.in_ok-push-2.ensures.items c.in_ok-equator.ensures c.in_ok-north.ensures
