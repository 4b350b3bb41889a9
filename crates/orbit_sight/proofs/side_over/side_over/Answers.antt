use Rattle.std.proofs.Common.{◌≡◌}
use Rattle.elements.specs.Elements.{record_of_elements}
use Rattle.earth_frame.proofs.OffsetLemmas.{kept_offset}
use Rattle.fixed_iv.specs.declared.side.Side.TheVariants.{Yes, No, Unsure}
use Rattle.sgp4_model.specs.Grazing.{GrazesMask, IsHidden, IsVisible}
use Rattle.sgp4_model.specs.Mask.{IsAbove, IsBelow}
use Rattle.orbit_sight.specs.Over.{cell_of}
use Rattle.orbit_sight.specs.Scene.{record_of_station}
use Rattle.orbit_sight.proofs.SceneLemmas.{are_fine, cover_outside}
use Rattle.orbit_sight.proofs.SideLemmas.{each_grazes, each_solution, throughout}
use Rattle.orbit_sight.proofs.side_over.side_over.Goals as goal

pub returns-in_err-scene-clause-least : goal.returns-in_err-scene-clause-least
returns-in_err-scene-clause-least g c told least = absurd (c.in_err-scene.ensures.least told least)

pub returns-clause-yes : goal.returns-clause-yes
returns-clause-yes g c is =
    let kept = kept_offset c.args.dut1_ms c.requires.offset in
    let set = record_of_elements c.args.craft.now in
    let start = c.args.window.now.start in
    let cell = cell_of start c.args.from c.args.to in
    let station = c.args.station.now in
    let side : c.judge_lengths.result ≡ Yes = cc is in
    throughout set (record_of_station station) start c.args.from c.args.to c.args.dut1_ms IsVisible c.requires.not_empty
    (each_solution g.E.Enc g.met.E.Enc.contained set c.args.dut1_ms cell c.in_ok-scene.scene station (rw kept at c.in_ok-scene.ensures.covers) c.in_ok-scene.ensures.exists c.in_ok-scene.ensures.far
    (λ range. IsAbove) c.lengths-seen.ensures.covers (rw c.ends_of.ensures at (c.judge_lengths.ensures.yes side)))

pub returns-clause-no : goal.returns-clause-no
returns-clause-no g c is =
    let kept = kept_offset c.args.dut1_ms c.requires.offset in
    let set = record_of_elements c.args.craft.now in
    let start = c.args.window.now.start in
    let cell = cell_of start c.args.from c.args.to in
    let station = c.args.station.now in
    let side : c.judge_lengths.result ≡ No = cc is in
    throughout set (record_of_station station) start c.args.from c.args.to c.args.dut1_ms IsHidden c.requires.not_empty
    (each_solution g.E.Enc g.met.E.Enc.contained set c.args.dut1_ms cell c.in_ok-scene.scene station (rw kept at c.in_ok-scene.ensures.covers) c.in_ok-scene.ensures.exists c.in_ok-scene.ensures.far
    (λ range. IsBelow) c.lengths-seen.ensures.covers (rw c.ends_of.ensures at (c.judge_lengths.ensures.no side)))

pub returns-clause-unsure : goal.returns-clause-unsure
returns-clause-unsure g c told least is =
    let kept = kept_offset c.args.dut1_ms c.requires.offset in
    let set = record_of_elements c.args.craft.now in
    let start = c.args.window.now.start in
    let cell = cell_of start c.args.from c.args.to in
    let station = c.args.station.now in
    let side : c.judge_lengths.result ≡ Unsure = cc is in
    let covered = rw kept at c.in_ok-scene.ensures.covers in
    let far = c.in_ok-scene.ensures.far in
    let found = (rw kept at c.in_ok-scene.ensures.least) told least in
    let narrow = c.lengths-seen.ensures.narrow (are_fine g.E.Enc set c.args.dut1_ms cell c.in_ok-scene.scene covered told far found) (cover_outside g.E.Enc set c.args.dut1_ms cell c.in_ok-scene.scene covered told far found) in
    throughout set (record_of_station station) start c.args.from c.args.to c.args.dut1_ms GrazesMask c.requires.not_empty
    (each_grazes g.E.Enc g.met.E.Enc.contained set c.args.dut1_ms cell c.in_ok-scene.scene station covered c.in_ok-scene.ensures.exists far
    c.lengths-seen.ensures.covers (rw c.ends_of.ensures at (c.judge_lengths.ensures.unsure side)) narrow)
