-- What is printed of a satellite's place tells it.
use Rattle.std.specs.Prelude.{◌≡◌, ◌<◌, ◌-◌, ◌^◌, ℤ, pos, neg_ℤ, ⊤}
use Rattle.jiff_core.specs.Calendar.{IsBetween}
use Rattle.catalogue.specs.Entries.{IsName}
use Rattle.civil_time.specs.Scale.{IsInstant}
use Rattle.pass_text.specs.LocateLayout.{EdgeRecord, FoundRecord, LocateRecord, missing, refused, inside, decayed, locate_layout}

-- a bound is a number of 64 bits
abbrev pub IsBound : ℤ → Type 0
IsBound bound = IsBetween (neg_ℤ (pos (2 ^ 63))) (pos (2 ^ 63 - 1)) bound

-- so are both bounds of a coordinate
pub record IsEdge (edge : EdgeRecord) : Type 0 where
  pub low : IsBound edge.low
  pub high : IsBound edge.high

-- what was found has a catalogue's name, and bounds of 64 bits
abbrev pub IsFound : FoundRecord → Type 0
IsFound missing = ⊤
IsFound (refused fault name) = IsName name
IsFound (inside name x y z) = IsName name × IsEdge x × IsEdge y × IsEdge z
IsFound (decayed name) = IsName name

-- an instant, a number of 32 bits, and what was found
pub record IsPlace (place : LocateRecord) : Type 0 where
  pub at : IsInstant place.at
  pub number : place.number < 2 ^ 32
  pub found : IsFound place.found

-- places of one text are the same
abbrev pub LayoutsTellPlaces : Type 0
LayoutsTellPlaces = (a b : LocateRecord) → IsPlace a → IsPlace b → locate_layout a ≡ locate_layout b → a ≡ b
