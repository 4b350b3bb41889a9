-- What was judged with a craft and a station that is fixed is of the satellite and the station's row.
use Rattle.std.proofs.Common.{◌≡◌, ℕ, ℤ, refl, sym, subst, ◌∙◌, List, map, Option, None, Some, slice_get}
use Rattle.std.specs.Option.{option_map}
use Rattle.std.proofs.lemmas.Option.{same_Some, slice_get-map}
use Rattle.elements.specs.Elements.{ElementsRecord, record_of_elements}
use Rattle.elements.specs.Window.{WindowRecord}
use Rattle.plan_core.specs.Certificate.{SettingRecord, sight_of}
use Rattle.plan_core.specs.Kept.{IsRowMade}
use Rattle.plan_core.specs.Readers.{where_accepted}
use Rattle.sgp4_model.specs.Grazing.{pair_track}
use Rattle.sgp4_model.specs.Records.{StationRecord}
use Rattle.sgp4_shape.specs.declared.fault.SatFault.{SatFault}
use Rattle.span_bisect.specs.declared.answer.TrackAnswer.{TrackAnswer}
use Rattle.span_pool.specs.Record.{PoolRecord}
use Rattle.station_file.specs.Rows.{record_of_station}
use Rattle.station_file.specs.declared.row.StationRow.{StationRow}

-- the craft of an accepted satellite is that of its set
craft_is : (fate : Option SatFault) (set craft : ElementsRecord) → fate ≡ None → Some craft ≡ where_accepted fate set → craft ≡ set
craft_is None set craft e h = same_Some craft set h
craft_is (Some fault) set craft e h = absurd (cc)

-- the row that was made of a craft at a station
pub pair_made : (setting : SettingRecord) (set craft : ElementsRecord) (fate : Option SatFault) (place : StationRecord) (window : WindowRecord) (dut1 : ℤ) (row : StationRow) (k : ℕ) (old new : PoolRecord) (answer : TrackAnswer) → fate ≡ None → Some craft ≡ where_accepted fate set → window ≡ setting.window → dut1 ≡ setting.stations.dut1 → Some place ≡ slice_get (map record_of_station setting.stations.rows) k → slice_get setting.stations.rows k ≡ Some row → IsRowMade (pair_track (record_of_elements craft) place window.start dut1 window.ticks) window.resolution old new answer → IsRowMade (sight_of setting set row) setting.window.resolution old new answer
pair_made setting set craft fate place window dut1 row k old new answer e h w d p r made =
    let same : place ≡ record_of_station row = same_Some place (record_of_station row) (p ∙ slice_get-map record_of_station setting.stations.rows k ∙ (λ i. option_map record_of_station (r i))) in
    let P : ElementsRecord → StationRecord → WindowRecord → ℤ → Type 0 = λ c s v o. IsRowMade (pair_track (record_of_elements c) s v.start o v.ticks) v.resolution old new answer in
    subst (λ o. P set (record_of_station row) setting.window o) d
    (subst (λ v. P set (record_of_station row) v dut1) w
    (subst (λ s. P set s window dut1) same
    (subst (λ c. P c place window dut1) (craft_is fate set craft e h) made)))
