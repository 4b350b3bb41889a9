use Rattle.std.proofs.Common.{rules, ◌∙◌, to_z, of_z, w32}
use Rattle.std.proofs.lemmas.Int.{to_z-of_z}
use mir.Val.{SFits}
use Rattle.orbit_sight.specs.Scene.{record_of_station as place_record}
use Rattle.plan_core.proofs.KeptLemmas.{made_keeps}
use Rattle.plan_core.proofs.TrackLemmas.{pair_made}
use Rattle.plan_core.proofs.tracks.track_pair.Goals as goal

pub returns-clause-row : goal.returns-clause-row
returns-clause-row c = λ row e.
    let fits : SFits w32 c.dut1_ms.result = search rules in
    pair_made c.args.setting.now c.args.satellite.now.set c.in-Some.craft.now c.args.satellite.now.fate (place_record c.station-place.result.now) c.window.result _ row c.args.station c.args.pool.now c.cover_pair.new.pool c.cover_pair.result.answer c.requires.accepted c.in-Some.ensures c.window.ensures.value (to_z-of_z w32 c.dut1_ms.result fits ∙ c.dut1_ms.ensures.value) c.station-place.ensures e c.cover_pair.ensures

pub returns-clause-kept : goal.returns-clause-kept
returns-clause-kept c = made_keeps _ _ c.args.pool.now c.cover_pair.new.pool c.cover_pair.result.answer c.cover_pair.ensures
