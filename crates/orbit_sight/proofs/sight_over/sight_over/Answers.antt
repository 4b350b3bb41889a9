use Rattle.std.specs.Prelude.{IfNone, IsSome, Option, None, Some, refl}
use Rattle.elements.specs.Elements.{record_of_elements}
use Rattle.orbit_sight.specs.Over.{cell_of}
use Rattle.orbit_sight.proofs.CraftLemmas.{if_there}
use Rattle.earth_frame.proofs.OffsetLemmas.{kept_offset}
use Rattle.orbit_sight.proofs.SceneLemmas.{are_fine, cover_outside, not_unseen, outside_far, sight_covered}
use Rattle.orbit_sight.proofs.sight_over.sight_over.Goals as goal

some_unless : {V N : Type 0} (o : Option V) → IfNone o N → (N → ⊥) → IsSome o
some_unless None n f = absurd (f n)
some_unless (Some v) n f = refl

pub returns-in_err-scene-clause-least : goal.returns-in_err-scene-clause-least
returns-in_err-scene-clause-least g c told least = absurd (c.in_err-scene.ensures.least told least)

pub returns-clause-covers : goal.returns-clause-covers
returns-clause-covers g c =
    let kept = kept_offset c.args.dut1_ms c.requires.offset in
    let set = record_of_elements c.args.craft.now in
    let cell = cell_of c.args.window.now.start c.args.from c.args.to in
    if_there c.sight.result c.sight.ensures.covers
    (λ v covers. sight_covered g.E.Enc set c.args.dut1_ms cell c.in_ok-scene.scene c.args.station.now (rw kept at c.in_ok-scene.ensures.covers) covers)

pub returns-clause-least : goal.returns-clause-least
returns-clause-least g c told least =
    let kept = kept_offset c.args.dut1_ms c.requires.offset in
    let set = record_of_elements c.args.craft.now in
    let cell = cell_of c.args.window.now.start c.args.from c.args.to in
    some_unless c.sight.result c.sight.ensures.none
    (not_unseen g.E.Enc set c.args.dut1_ms cell c.in_ok-scene.scene c.args.station.now (rw kept at c.in_ok-scene.ensures.covers) g.met.E.Enc.contained told c.in_ok-scene.ensures.far ((rw kept at c.in_ok-scene.ensures.least) told least))

pub returns-clause-narrow : goal.returns-clause-narrow
returns-clause-narrow g c told least =
    let kept = kept_offset c.args.dut1_ms c.requires.offset in
    let set = record_of_elements c.args.craft.now in
    let cell = cell_of c.args.window.now.start c.args.from c.args.to in
    let scene = c.in_ok-scene.scene in
    let covered = rw kept at c.in_ok-scene.ensures.covers in
    let far = c.in_ok-scene.ensures.far in
    let found = (rw kept at c.in_ok-scene.ensures.least) told least in
    if_there c.sight.result c.sight.ensures.narrow
    (λ v narrow.
    narrow.far (are_fine g.E.Enc set c.args.dut1_ms cell scene covered told far found) (cover_outside g.E.Enc set c.args.dut1_ms cell scene covered told far found)
    (outside_far g.E.Enc set c.args.dut1_ms cell scene covered told far found))
