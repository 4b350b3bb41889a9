use Rattle.std.proofs.Common.{ℕ, ℤ, subst, ◌∙◌, w32}
use Rattle.std.proofs.lemmas.Int.{to_z-of_z}
use Rattle.elements.specs.Elements.{ElementsRecord}
use Rattle.elements.specs.Window.{WindowRecord}
use Rattle.orbit_sight.specs.Pairs.{track_of}
use Rattle.plan_core.specs.Kept.{IsRowMade}
use Rattle.station_view.specs.declared.station.Station.{Station}
use Rattle.plan_core.proofs.tracks.cover_pair.Goals as goal

pub returns : goal.returns
returns c =
    let judge = c.make-judge.result in
    let P : ElementsRecord → Station → WindowRecord → ℤ → ℕ → Type 0 = λ set station window dut1 resolution. IsRowMade (track_of set station window dut1) resolution c.args.pool.now c.cover.new.pool c.cover.result.answer in
    let made : P judge.craft.now judge.station.now judge.window judge.dut1_ms c.resolution.result = record { certified = c.cover.ensures.certified; pool = c.cover.ensures.pool; others = c.cover.ensures.others } in
    subst (P c.args.craft.now c.args.station.now c.args.window c.args.dut1_ms) c.resolution.ensures.value
    (subst (λ dut1. P c.args.craft.now c.args.station.now c.args.window dut1 c.resolution.result) (c.make-judge.ensures.dut1_ms ∙ to_z-of_z w32 c.args.dut1_ms c.ranges.dut1_ms)
    (subst (λ window. P c.args.craft.now c.args.station.now window judge.dut1_ms c.resolution.result) c.make-judge.ensures.window
    (subst (λ station. P c.args.craft.now station judge.window judge.dut1_ms c.resolution.result) c.make-judge.ensures.station
    (subst (λ set. P set judge.station.now judge.window judge.dut1_ms c.resolution.result) c.make-judge.ensures.craft made))))
