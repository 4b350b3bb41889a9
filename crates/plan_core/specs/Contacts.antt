-- The contacts of a station, satellite by satellite.
use Rattle.std.specs.Prelude.{◌≤◌, ℕ, List, [], length, map, Option, None, Some}
use Rattle.std.specs.List.{filter}
use Rattle.plan_text.specs.Plan.{SatelliteRecord, most_spans}
use Rattle.plan_text.specs.Timetable.{contact_of, contacts_with, is_visible}
use Rattle.sgp4_model.specs.declared.span.Span.{Span}
use Rattle.contact_alloc.specs.declared.bid.Contact.{Contact}

-- a timetable has no more contacts than a plan has spans
abbrev pub IsTable : List Contact → Type 0
IsTable contacts = length contacts ≤ most_spans

-- the contacts of the visible ones among the spans of a satellite
abbrev pub visible_in : ℕ → List Span → List Contact
visible_in number list = map (contact_of number) (filter (λ (span : Span). is_visible span.mark) list)

-- those of a satellite, if there is one
abbrev pub contacts_of : ℕ → Option SatelliteRecord → List Contact
contacts_of station None = []
contacts_of station (Some satellite) = contacts_with station satellite
