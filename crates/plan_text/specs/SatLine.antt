-- The lines that say which satellites are planned, and why the others are refused.
use Rattle.std.specs.Prelude.{ℕ, List, [], ◌∷◌, ◌++◌}
use Rattle.pass_text.specs.SatLine.{sat_line}
use Rattle.plan_text.specs.Plan.{SatelliteRecord, fate_of}

-- a line for each satellite
abbrev pub sat_lines : List SatelliteRecord → List ℕ
sat_lines [] = []
sat_lines (first ∷ rest) = sat_line first.number (fate_of first.standing) first.name ++ sat_lines rest
