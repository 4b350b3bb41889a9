-- Bids of contacts that lie in a window, and bookings one after another.
use Rattle.std.proofs.Common.{◌≡◌, refl, arith, ℕ, suc, ◌+◌, ◌-◌, ◌*◌, ◌^◌, ◌<◌, ◌≤◌, ◌⊎◌, inl, inr, Bool, true, false, if◌then◌else◌, nat_lt, List, [], ◌∷◌, ◌++◌, length, map, drop, append_assoc, All, Some, sym, subst, ap, ◌∙◌}
use Rattle.std.proofs.lemmas.List.{append-nil, length_push}
use Rattle.std.proofs.lemmas.List.Elements.{All-cons, All-head, All-map, All-nil, All-same, All-tail, All-weaker}
use Rattle.std.proofs.lemmas.List.Sums.{sum_by-cons}
use Rattle.std.proofs.lemmas.Option.{none-some}
use Rattle.std.proofs.Math.ListN.{drop_of_length-le}
use Rattle.std.specs.List.{sum_by}
use Rattle.std.specs.Prelude.{slice_get}
use Rattle.book_command.specs.Bookings.{AreAllotted, AreBooked, IsBooked, IsForward, bid_of, bids_at}
use Rattle.book_command.specs.Printable.{IsPrintable}
use Rattle.book_command.specs.declared.station.StationBooking.{StationBooking}
use Rattle.book_command.specs.declared.station.StationBooking.TheVariants.{TooMany, Booked}
use Rattle.contact_alloc.specs.Allocation.{allocation_value}
use Rattle.contact_alloc.specs.Booked.{BookingRecord}
use Rattle.contact_alloc.specs.Prices.{Certifies}
use Rattle.contact_alloc.specs.Stretches.{ends, stretch_count, with_end}
use Rattle.contact_alloc.specs.declared.bid.Bid.{Bid}
use Rattle.contact_alloc.specs.declared.bid.Contact.{Contact}
use Rattle.elements.specs.Window.{most_ticks}
use Rattle.plan_command.proofs.TableLemmas.{at_pushed, timetable_within}
use Rattle.plan_command.specs.Tables.{IsContactWithin}
use Rattle.run_ends.proofs.PrintedLemmas.{drop_at}
use Rattle.plan_text.specs.Plan.{IsPlan, PlanRecord}
use Rattle.plan_text.specs.Timetable.{timetable}

-- the contact of a bid lies in a window of so many ticks
abbrev pub IsBidWithin : ℕ → Bid → Type 0
IsBidWithin ticks bid = IsContactWithin ticks bid.contact

-- ---- bids
-- the contacts of bids end after they begin
pub bids_forward : (table : List Contact) → All IsForward table → All (λ (bid : Bid). bid.contact.from < bid.contact.to) (map bid_of table)
bids_forward table h = All-map (λ (bid : Bid). bid.contact.from < bid.contact.to) bid_of table h

-- they lie in the window where the contacts do
pub bids_within : (ticks : ℕ) (table : List Contact) → All (IsContactWithin ticks) table → All (IsBidWithin ticks) (map bid_of table)
bids_within ticks table h = All-map (IsBidWithin ticks) bid_of table h

-- contacts that lie in a window lie in a longer one
pub within_longer : (ticks most : ℕ) (table : List Contact) → ticks ≤ most → All (IsContactWithin ticks) table → All (IsContactWithin most) table
within_longer ticks most table l h =
    All-weaker (IsContactWithin ticks) (IsContactWithin most)
    (λ contact w. record { from = omega (arith, w.from, l); to = omega (arith, w.to, l) }) table h

-- the values of bids together
abbrev pub values_of : List Bid → ℕ
values_of bids = sum_by (λ (bid : Bid). bid.value) bids

-- those of contacts that lie in the longest window are at most its ticks for each
values_few : (table : List Contact) → All (IsContactWithin most_ticks) table → values_of (map bid_of table) ≤ length table * 8640000000
values_few [] h = let none : values_of [] ≡ 0 = refl in omega (arith, none)
values_few (contact ∷ rest) h =
    let first : contact.to ≤ 8640000000 = (All-head (IsContactWithin most_ticks) contact rest h).to in
    let others = values_few rest (All-tail (IsContactWithin most_ticks) contact rest h) in
    let sum : values_of (map bid_of (contact ∷ rest)) ≡ (contact.to - contact.from) + values_of (map bid_of rest) =
    sum_by-cons (λ (bid : Bid). bid.value) (bid_of contact) (map bid_of rest) in
    omega (arith, first, others, sum)

-- so their sum has 64 bits
pub values_fit : (table : List Contact) → All (IsContactWithin most_ticks) table → length table ≤ 65536 → values_of (map bid_of table) < 2 ^ 64
values_fit table h few =
    let most : 2 ^ 64 ≡ 18446744073709551616 = refl in
    omega (arith, values_few table h, few, most)

-- one more contact as a bid
pub one_bid_more : (table : List Contact) (k : ℕ) (contact : Contact) (bids next : List Bid) → slice_get table k ≡ Some contact →
    bids ++ map bid_of (drop k table) ≡ map bid_of table → next ≡ bids ++ bid_of contact ∷ [] → next ++ map bid_of (drop (k + 1) table) ≡ map bid_of table
one_bid_more table k contact bids next e h is =
    ap (λ t. t ++ map bid_of (drop (k + 1) table)) is ∙ append_assoc bids (bid_of contact ∷ []) (map bid_of (drop (k + 1) table))
    ∙ ap (λ t. bids ++ map bid_of t) (sym (drop_at table k contact e)) ∙ h

-- all contacts as bids
pub all_bids : (table : List Contact) (k : ℕ) (bids : List Bid) → length table ≤ k → bids ++ map bid_of (drop k table) ≡ map bid_of table → bids ≡ map bid_of table
all_bids table k bids l h = sym (append-nil bids) ∙ ap (λ t. bids ++ map bid_of t) (sym (drop_of_length-le table l)) ∙ h

-- bids of a timetable that are allotted
pub allotted : {bids wanted : List Bid} {antennas : ℕ} {booking : BookingRecord} → bids ≡ wanted → Certifies bids antennas booking.used booking.prices →
    booking.value ≡ allocation_value bids booking.used → AreAllotted wanted antennas (record { bids = bids; booking = booking })
allotted {antennas = antennas} {booking} e certified value = record {
  bids_are = e;
  certified = subst (λ bs. Certifies bs antennas booking.used booking.prices) e certified;
  value = value ∙ ap (λ bs. allocation_value bs booking.used) e;
}

-- ---- ends
-- an end put among numbers of a kind
with_end_all : (P : ℕ → Type 0) (e : ℕ) (list : List ℕ) → P e → All P list → All P (with_end e list)
with_end_all P e [] p h = All-cons P e [] p h
with_end_all P e (x ∷ xs) p h = by (nat_lt e x) (nat_lt x e) (with_end_all P e xs p (All-tail P x xs h))
  where
    by : (less more : Bool) → All P (with_end e xs) → All P (if less then e ∷ x ∷ xs else (if more then x ∷ with_end e xs else x ∷ xs))
    by true more later = All-cons P e (x ∷ xs) p h
    by false true later = All-cons P x (with_end e xs) (All-head P x xs h) later
    by false false later = h

-- the ends of bids lie in the window where the contacts do
pub ends_within : (ticks : ℕ) (bids : List Bid) → All (IsBidWithin ticks) bids → All (λ at. at ≤ ticks) (ends bids)
ends_within ticks [] h = All-nil (λ at. at ≤ ticks)
ends_within ticks (bid ∷ bids) h =
    let first = All-head (IsBidWithin ticks) bid bids h in
    let others = ends_within ticks bids (All-tail (IsBidWithin ticks) bid bids h) in
    with_end_all (λ at. at ≤ ticks) bid.contact.from _ first.from (with_end_all (λ at. at ≤ ticks) bid.contact.to (ends bids) first.to others)

-- ---- bookings one after another
-- these are the bookings of the first so many stations
pub record AreFirst (plan : PlanRecord) (antennas : ℕ) (bookings : List StationBooking) (k : ℕ) : Type 0 where
  pub count : length bookings ≡ k
  pub each : (j : ℕ) (booking : StationBooking) → slice_get bookings j ≡ Some booking → IsBooked (bids_at plan j) antennas booking

pub none_booked : (plan : PlanRecord) (antennas : ℕ) → AreFirst plan antennas [] 0
none_booked plan antennas = record { count = refl; each = λ j booking e. absurd (none-some booking e) }

pub one_booked_more : (plan : PlanRecord) (antennas : ℕ) (bookings next : List StationBooking) (k : ℕ) (booking : StationBooking) →
    AreFirst plan antennas bookings k → IsBooked (bids_at plan k) antennas booking → next ≡ bookings ++ booking ∷ [] → AreFirst plan antennas next (k + 1)
one_booked_more plan antennas bookings next k booking h is e = record {
  count = rw e (omega (arith, h.count, length_push bookings booking));
  each = λ j other f. at (at_pushed bookings booking j other (subst (λ t. slice_get t j ≡ Some other) e f));
}
  where
    at : {j : ℕ} {other : StationBooking} → (slice_get bookings j ≡ Some other) ⊎ ((j ≡ length bookings) × (booking ≡ other)) → IsBooked (bids_at plan j) antennas other
    at {j} {other} (inl f) = h.each j other f
    at {j} {other} (inr f) = subst (IsBooked (bids_at plan j) antennas) f.1 (subst (λ n. IsBooked (bids_at plan n) antennas booking) (sym (f.0 ∙ h.count)) is)

-- ---- bookings that can be printed
printable : (plan : PlanRecord) (antennas station : ℕ) (booking : StationBooking) → IsPlan plan → IsBooked (bids_at plan station) antennas booking → IsPrintable plan.window.ticks booking
printable plan antennas station (TooMany contacts) is h = tt
printable plan antennas station (Booked booked) is h =
    let all = h.1 in
    record {
      few = omega (arith, h.0, ap length all.bids_are);
      one_each = all.certified.allocation.one_each ∙ ap length (sym all.bids_are);
      prices = all.certified.one_each ∙ ap stretch_count (sym all.bids_are);
      within = All-same (IsBidWithin plan.window.ticks) _ _ all.bids_are
          (bids_within plan.window.ticks (timetable plan station) (timetable_within plan station is));
    }

-- what holds of each element at its place holds of all
all_of : {A : Type 0} (P : A → Type 0) (xs : List A) → ((k : ℕ) (x : A) → slice_get xs k ≡ Some x → P x) → All P xs
all_of P [] h = All-nil P
all_of P (x ∷ xs) h = All-cons P x xs (h 0 x refl) (all_of P xs (λ k y e. h (suc k) y e))

pub all_printable : (plan : PlanRecord) (antennas : ℕ) (bookings : List StationBooking) → IsPlan plan → AreBooked plan antennas bookings → All (IsPrintable plan.window.ticks) bookings
all_printable plan antennas bookings is h =
    all_of (IsPrintable plan.window.ticks) bookings (λ k booking e. printable plan antennas k booking is (h.each k booking e))

pub bookings_few : (plan : PlanRecord) (antennas : ℕ) (bookings : List StationBooking) → IsPlan plan → AreBooked plan antennas bookings → length bookings ≤ 64
bookings_few plan antennas bookings is h = omega (arith, h.count, is.most)
