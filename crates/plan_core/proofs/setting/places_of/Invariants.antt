use Rattle.std.proofs.Common.{◌≡◌, map, take}
use Rattle.station_file.specs.Rows.{record_of_station}
use Rattle.orbit_sight.specs.Scene.{record_of_station as place_record}
use Rattle.plan_core.proofs.setting.places_of.Given as goal

-- the stations so far
abbrev pub invariant-loop-k : goal.invariant-loop-k
invariant-loop-k l = map place_record l.places.items ≡ map record_of_station (take l.k l.stations.rows)
