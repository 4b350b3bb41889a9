-- The line that says whether a satellite is taken, or why it is refused.
use Rattle.std.specs.Prelude.{ℕ, List, ◌++◌, codes, decimal, Option, None, Some}
use Rattle.sgp4_shape.specs.declared.fault.SatFault.{SatFault}
use Rattle.sgp4_shape.specs.declared.fault.SatFault.TheVariants.{Eccentric, Inclined, Drag, Deep, Low, Edge, Far}

-- OK, or the word for why the satellite is refused
abbrev pub fate_word : Option SatFault → List ℕ
fate_word None = codes "OK"
fate_word (Some Eccentric) = codes "ECCENTRIC"
fate_word (Some Inclined) = codes "INCLINED"
fate_word (Some Drag) = codes "DRAG"
fate_word (Some Deep) = codes "DEEP"
fate_word (Some Low) = codes "LOW"
fate_word (Some Edge) = codes "EDGE"
fate_word (Some Far) = codes "FAR"

-- `SAT <number> <OK or the fate> <name>`
unfoldable pub sat_line : ℕ → Option SatFault → List ℕ → List ℕ
sat_line number fate name =
    codes "SAT " ++ decimal number ++ codes " " ++ fate_word fate ++ codes " " ++ name ++ codes "\n"
