use Rattle.std.proofs.Common.{◌≡◌, arith, pos, to_z, ◌*◌, ◌/◌, ◌+◌}
use Rattle.std.proofs.lemmas.Int.{ints}
use Rattle.std.specs.Int.{w64}
use Rattle.orbit_sight.proofs.CellLemmas.{tick_time_is}
use Rattle.orbit_sight.proofs.cell.tick_time.Goals as goal

pub returns : goal.returns
returns c =
    let low : to_z w64 (c.args.tick * 268435456 / 9375) ≡ pos (c.args.tick * 268435456 / 9375) = omega (arith, ints, c.requires) in
    let high : to_z w64 ((c.args.tick * 268435456 + 9374) / 9375) ≡ pos ((c.args.tick * 268435456 + 9374) / 9375) = omega (arith, ints, c.requires) in
    tick_time_is c.args.tick (rw low at c.from_ends.ensures.low) (rw high at c.from_ends.ensures.high)
