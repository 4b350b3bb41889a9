-- The track of a satellite and a station over a window.
use Rattle.std.specs.Prelude.{ℕ, ℤ, ◌+◌}
use Rattle.elements.specs.Elements.{ElementsRecord, record_of_elements}
use Rattle.elements.specs.Window.{WindowRecord}
use Rattle.fixed_iv.specs.declared.iv.Iv.{Iv}
use Rattle.sgp4_model.specs.Certified.{TrackRecord}
use Rattle.sgp4_model.specs.Grazing.{pair_track}
use Rattle.sgp4_model.specs.Solution.{IsSolution, SolutionRecord}
use Rattle.sgp4_model.specs.Time.{Throughout, instant_of_place}
use Rattle.station_view.specs.Bounds.{HoldSight}
use Rattle.station_view.specs.declared.station.Station.{Station}
use Rattle.station_view.specs.declared.vector.Sight.{Sight}
use Rattle.orbit_sight.specs.Scene.{record_of_station}

-- where UT1 is so many milliseconds more than UTC
abbrev pub track_of : ElementsRecord → Station → WindowRecord → ℤ → TrackRecord
track_of set station window dut1 = pair_track (record_of_elements set) (record_of_station station) window.start dut1 window.ticks

-- the bounds hold the direction of each solution at each place of the closed least cell that begins at a tick
abbrev pub HoldsEachSight : ElementsRecord → Station → WindowRecord → ℤ → ℕ → Sight Iv → Type 0
HoldsEachSight set station window dut1 tick sight =
    Throughout tick (tick + 1)
    (λ place. (s : SolutionRecord) → IsSolution (record_of_elements set) (record_of_station station) (instant_of_place window.start place) dut1 s →
    HoldSight sight s.sight)
