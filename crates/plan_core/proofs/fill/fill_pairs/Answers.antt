use Rattle.std.proofs.Common.{◌≡◌, ◌+◌, ◌<◌, ap, subst, sym, arith, ◌∙◌, length, take, slice_get, Some}
use Rattle.std.proofs.lemmas.List.{length-set}
use Rattle.plan_core.specs.Certificate.{sight_of}
use Rattle.plan_core.specs.Filled.{ArePairsMade}
use Rattle.plan_core.specs.Kept.{IsRowMade}
use Rattle.plan_core.specs.State.{SatState}
use Rattle.plan_core.proofs.StepLemmas.{pairs_step, same_but_pairs}
use Rattle.station_file.specs.declared.row.StationRow.{StationRow}
use Rattle.plan_core.proofs.fill.fill_pairs.Goals as goal

pub loop-station-preserved : goal.loop-station-preserved
loop-station-preserved c =
    let first = c.args.satellite.now in
    let mid = c.loop-station.satellite in
    let setting = c.args.setting.now in
    let answer = c.track_pair-cover.result.answer in
    let inv = c.loop-station.invariant in
    let low : c.loop-station.station < length setting.stations.rows = omega (arith, c.stations-stations.ensures.value, c.loop-station-test.true) in
    let fits : c.loop-station.station < length mid.pairs = omega (arith, low, inv.len, c.requires.ready.places c.requires.accepted) in
    let same_set : mid.set ≡ first.set = ap (λ (s : SatState). s.set) inv.same in
    let made : (row : StationRow) → slice_get setting.stations.rows c.loop-station.station ≡ Some row → IsRowMade (sight_of setting first.set row) setting.window.resolution c.loop-station.pool c.track_pair-cover.new.pool answer =
    λ row e. subst (λ s. IsRowMade (sight_of setting s row) setting.window.resolution c.loop-station.pool c.track_pair-cover.new.pool answer) same_set (c.track_pair-cover.ensures.row row e) in
    let step = pairs_step setting first.set c.args.pool.now c.loop-station.pool c.track_pair-cover.new.pool mid.pairs c.loop-station.station answer low fits inv.made made in
    let put = ap (λ (s : SatState). s.pairs) c.set_pair.ensures in
    record {
      same = same_but_pairs first mid c.set_pair.new.self _ inv.same c.set_pair.ensures;
      len = ap length put ∙ length-set mid.pairs c.loop-station.station answer ∙ inv.len;
      made = subst (λ ps. ArePairsMade setting first.set c.args.pool.now c.track_pair-cover.new.pool (take (c.loop-station.station + 1) setting.stations.rows) (take (c.loop-station.station + 1) ps)) (sym put) step;
    }
