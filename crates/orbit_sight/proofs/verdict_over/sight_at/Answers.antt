use Rattle.std.proofs.Common.{arith, refl, ◌+◌}
use Rattle.elements.specs.Elements.{record_of_elements}
use Rattle.earth_frame.proofs.OffsetLemmas.{kept_offset}
use Rattle.orbit_sight.specs.Craft.{plain_enc}
use Rattle.orbit_sight.specs.Scene.{record_of_station}
use Rattle.orbit_sight.proofs.SideLemmas.{sight_throughout}
use Rattle.orbit_sight.proofs.verdict_over.sight_at.Goals as goal

pub returns-clause-holds : goal.returns-clause-holds
returns-clause-holds c =
    rw (c.bounds.ensures, c.bounds-2.ensures, c.bounds-3.ensures)
    (sight_throughout plain_enc (λ a h x k. k) (record_of_elements c.args.craft.now) (record_of_station c.args.station.now) c.args.window.now.start c.args.tick (c.args.tick + 1) c.args.dut1_ms c.in_ok-sight.sight (omega arith)
    (rw (kept_offset c.args.dut1_ms c.requires.offset) at c.in_ok-sight.ensures.covers))

pub returns-clause-narrow : goal.returns-clause-narrow
returns-clause-narrow c = rw (c.bounds.ensures, c.bounds-2.ensures, c.bounds-3.ensures) (c.in_ok-sight.ensures.narrow tt refl)
