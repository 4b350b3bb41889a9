-- The timetable of a station: the visible spans of its rows, in order.
use Rattle.std.specs.declared.cmp.Ordering.{Ordering}
use Rattle.std.specs.Prelude.{ℕ, Bool, true, false, if◌then◌else◌, List, [], ◌∷◌, map, slice_get, Option, None, Some}
use Rattle.std.specs.Ordering.{nat_cmp, ordering_then, is_lt}
use Rattle.std.specs.List.{filter, flat_map}
use Rattle.sgp4_model.specs.declared.span.Mark.{Mark}
use Rattle.sgp4_model.specs.declared.span.Mark.TheVariants.{Yes, No, Undecided}
use Rattle.sgp4_model.specs.declared.span.Span.{Span}
use Rattle.contact_alloc.specs.declared.bid.Contact.{Contact}
use Rattle.plan_text.specs.Plan.{RowRecord, SatelliteRecord, PlanRecord, pairs_of}

-- the spans of a row, where there is one
abbrev pub list_of : Option RowRecord → List Span
list_of None = []
list_of (Some row) = row.list

-- the mark says that the satellite is visible
abbrev pub is_visible : Mark → Bool
is_visible Yes = true
is_visible No = false
is_visible Undecided = false

-- a span of a satellite, as a contact
abbrev pub contact_of : ℕ → Span → Contact
contact_of number span = record { from = span.from; to = span.to; number = number }

-- the visible spans of a satellite at a station, counted from 0
abbrev pub contacts_with : ℕ → SatelliteRecord → List Contact
contacts_with station satellite =
    map (contact_of satellite.number)
    (filter (λ (span : Span). is_visible span.mark) (list_of (slice_get (pairs_of satellite.standing) station)))

-- those of all satellites, in the order of the satellites
abbrev pub contacts_at : ℕ → List SatelliteRecord → List Contact
contacts_at station satellites = flat_map (contacts_with station) satellites

-- contacts compare by where they begin, then by where they end, then by the satellites' numbers
abbrev pub order : Contact → Contact → Ordering
order a b = ordering_then (nat_cmp a.from b.from) (ordering_then (nat_cmp a.to b.to) (nat_cmp a.number b.number))

-- a contact comes before another
abbrev pub comes_before : Contact → Contact → Bool
comes_before a b = is_lt (order a b)

-- these contacts with another, before the first of them that comes not before it
abbrev pub inserted : Contact → List Contact → List Contact
inserted contact [] = contact ∷ []
inserted contact (first ∷ rest) =
    if comes_before first contact then first ∷ inserted contact rest else contact ∷ first ∷ rest

-- contacts in order
abbrev pub in_order : List Contact → List Contact
in_order [] = []
in_order (first ∷ rest) = inserted first (in_order rest)

-- the timetable of a station, counted from 0: its visible spans in the order of where they begin, where they end, and
-- the satellites' numbers
unfoldable pub timetable : PlanRecord → ℕ → List Contact
timetable plan station = in_order (contacts_at station plan.satellites)
