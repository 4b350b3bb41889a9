-- What is found of a satellite of a catalogue at an instant, and what that says of its position.
use Rattle.std.specs.Prelude.{◌≡◌, ◌≤ℤ◌, ◌+ℤ◌, ℕ, ℤ, pos, Bool, true, false, List, Some, ⊤}
use Rattle.exact.specs.Rational.{ℚ}
use Rattle.catalogue.specs.Entries.{IsName, entry_with, has_number}
use Rattle.catalogue.specs.declared.entry.Entry.{Entry}
use Rattle.elements.specs.Elements.{ElementsRecord, record_of_elements}
use Rattle.pass_text.specs.LocateLayout.{EdgeRecord, FoundRecord, LocateRecord, missing, refused, inside, decayed}
use Rattle.sgp4_model.specs.PositionAt.{IsPositionAt}
use Rattle.sgp4_model.specs.Time.{instant_of_nanos}
use Rattle.sgp4_model.specs.Vector.{Vector}
use Rattle.sgp4_motion.specs.Fate.{MayAccept, MayRefuse}
use Rattle.sgp4_shape.specs.declared.fault.SatFault.{SatFault}
use Rattle.sat_locate.specs.Edge.{IsBetween}
use Rattle.sat_locate.specs.declared.edge.Edge.{Edge}
use Rattle.sat_locate.specs.declared.found.Found.{Found}
use Rattle.sat_locate.specs.declared.found.Found.TheVariants.{Missing, Refused, Inside, Decayed}
use Rattle.sat_locate.specs.declared.found.LocAnswer.{LocAnswer}

-- the plain record of an answer
abbrev pub edge_record : Edge → EdgeRecord
edge_record edge = record { low = edge.low; high = edge.high }

abbrev pub found_record : Found → FoundRecord
found_record Missing = missing
found_record (Refused fault name) = refused fault name
found_record (Inside name x y z) = inside name (edge_record x) (edge_record y) (edge_record z)
found_record (Decayed name) = decayed name

abbrev pub locate_record : LocAnswer → LocateRecord
locate_record answer = record { at = answer.at; number = answer.number; found = found_record answer.found }

-- whether bounds of a position were found
abbrev pub is_placed : FoundRecord → Bool
is_placed missing = false
is_placed (refused fault name) = false
is_placed (inside name x y z) = true
is_placed (decayed name) = false

-- the name, where there is one, is that of a catalogue: 1 to 64 printable bytes
abbrev pub IsWellNamed : FoundRecord → Type 0
IsWellNamed missing = ⊤
IsWellNamed (refused fault name) = IsName name
IsWellNamed (inside name x y z) = IsName name
IsWellNamed (decayed name) = IsName name

-- a coordinate lies between its bounds
abbrev pub IsInEdge : EdgeRecord → ℚ → Type 0
IsInEdge edge x = IsBetween edge.low edge.high x

-- bounds of a coordinate are at most 10 metres apart
abbrev pub IsNarrowEdge : EdgeRecord → Type 0
IsNarrowEdge edge = edge.high ≤ℤ (edge.low +ℤ pos 10000)

-- the set has a position at the instant, and each coordinate of each position lies between its bounds, which are near each other
pub record IsInside (set : ElementsRecord) (at : ℤ) (x y z : EdgeRecord) : Type 0 where
  pub exists : (r : Vector) × IsPositionAt (record_of_elements set) (instant_of_nanos at) r
  pub x_between : (r : Vector) → IsPositionAt (record_of_elements set) (instant_of_nanos at) r → IsInEdge x r.x
  pub y_between : (r : Vector) → IsPositionAt (record_of_elements set) (instant_of_nanos at) r → IsInEdge y r.y
  pub z_between : (r : Vector) → IsPositionAt (record_of_elements set) (instant_of_nanos at) r → IsInEdge z r.z
  pub x_narrow : IsNarrowEdge x
  pub y_narrow : IsNarrowEdge y
  pub z_narrow : IsNarrowEdge z

-- the satellite with the number has this name, and its element set is such
pub record IsOf (entries : List Entry) (number : ℕ) (name : List ℕ) (holds : ElementsRecord → Type 0) : Type 0 where
  pub entry : Entry
  pub entry_is : entry_with number entries ≡ Some entry
  pub name_is : name ≡ entry.name
  pub holds_it : holds entry.elements

-- the set may be refused at the instant for this fault
abbrev pub IsRefusedAt : ℤ → SatFault → ElementsRecord → Type 0
IsRefusedAt at fault set = MayRefuse (record_of_elements set) at at fault

-- the set may be accepted at the instant, and is inside these bounds
pub record IsPlacedAt (at : ℤ) (x y z : EdgeRecord) (set : ElementsRecord) : Type 0 where
  pub accepted : MayAccept (record_of_elements set) at at
  pub bounds : IsInside set at x y z

-- what was found of a set with a name: not that it is missing, nor that no bounds of its position are known
abbrev pub IsFoundFor : ElementsRecord → List ℕ → ℤ → FoundRecord → Type 0
IsFoundFor set name at missing = ⊥
IsFoundFor set name at (refused fault given) = (given ≡ name) × IsRefusedAt at fault set
IsFoundFor set name at (inside given x y z) = (given ≡ name) × IsPlacedAt at x y z set
IsFoundFor set name at (decayed given) = ⊥

-- What was found of the satellite with a number at an instant: there is none; its set may be refused, for this fault; or it may
-- be accepted, a position exists and each lies between the bounds. So it is refused as far if and only if the instant is more
-- than seven days from the epoch and the set has no other fault; and that no bounds are known never comes.
abbrev pub IsFoundOf : List Entry → ℕ → ℤ → FoundRecord → Type 0
IsFoundOf entries number at missing = has_number number entries ≡ false
IsFoundOf entries number at (refused fault name) = IsOf entries number name (IsRefusedAt at fault)
IsFoundOf entries number at (inside name x y z) = IsOf entries number name (IsPlacedAt at x y z)
IsFoundOf entries number at (decayed name) = ⊥

-- the answer is for this number and this instant
pub record IsAnswerFor (entries : List Entry) (number : ℕ) (at : ℤ) (answer : LocateRecord) : Type 0 where
  pub at_is : answer.at ≡ at
  pub number_is : answer.number ≡ number
  pub found : IsFoundOf entries number at answer.found
