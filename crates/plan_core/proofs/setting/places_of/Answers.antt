use Rattle.std.proofs.Common.{◌++◌, ◌∷◌, [], ap, sym, ◌∙◌, map}
use Rattle.std.proofs.lemmas.List.{map_push}
use Rattle.station_file.specs.Rows.{record_of_station}
use Rattle.orbit_sight.specs.Scene.{record_of_station as place_record}
use Rattle.plan_core.proofs.ListLemmas.{map_take_push}
use Rattle.plan_core.proofs.setting.places_of.Goals as goal

pub loop-k-preserved : goal.loop-k-preserved
loop-k-preserved c =
    ap (map place_record) c.in_ok-push.ensures.items
    ∙ map_push place_record c.loop-k.places.items c.in_ok-fixed.field-0
    ∙ (λ i. c.loop-k.invariant i ++ c.in_ok-fixed.ensures i ∷ [])
    ∙ sym (map_take_push record_of_station c.args.stations.now.rows c.loop-k.k c.row.result.now (sym c.row.ensures.value))
