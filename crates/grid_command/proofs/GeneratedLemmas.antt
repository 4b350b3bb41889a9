-- The generated satellites are a catalogue, and the two stations are stations.
use Rattle.std.proofs.Common.{◌≡◌, refl, arith, ℕ, zero, suc, pred, ◌+◌, ◌-◌, ◌*◌, ◌%◌, ◌^◌, ◌<◌, ◌≤◌, List, [], ◌∷◌, ◌++◌, length, Bool, true, false, not, sym, subst, ap, ◌∙◌, add-one, ne_eqb}
use Rattle.std.proofs.lemmas.Int.{ints}
use Rattle.std.proofs.lemmas.List.{length-append, map-append}
use Rattle.std.proofs.lemmas.List.Folds.{list_any-append}
use Rattle.std.proofs.Math.Nat.{suc-pred-eq_of_pos, zero-lt-suc}
use Rattle.std.specs.List.{list_any}
use Rattle.std.proofs.lemmas.Bool.{lt-ltb}
use Rattle.std.proofs.lemmas.List.Elements.{All-cons, All-nil}
use Rattle.std.specs.Prelude.{◌||◌, ◌≤ℤ◌, AllPairs, codes, nat_eq, nat_lt}
use lib.IntN.{ℤ, pos, neg_ℤ}
use Rattle.catalogue.specs.Entries.{has_number, is_full, numbers}
use Rattle.catalogue.specs.declared.entry.Entry.{Entry}
use Rattle.decimals.specs.Decimal.{value}
use Rattle.decimals.specs.Normal.{normal}
use Rattle.decimals.specs.OrderLaws.{lt_of_not_le}
use Rattle.decimals.proofs.UnitsLemmas.{value_normal, value_whole}
use Rattle.elements.specs.Elements.{ElementsRecord, IsElements, IsFromTo}
use Rattle.exact.proofs.Fractions.{cross_of_le, le_of_cross}
use Rattle.exact.proofs.Integers.{of_int_is, of_int_le}
use Rattle.exact.proofs.Order.{known, le_of_not_negative, le_trans}
use Rattle.exact.specs.Rational.{ratio, number, of_int, zero_ℚ, ◌≤ℚ◌, ◌<ℚ◌}
use Rattle.grid_command.specs.Generated.{equator, midnight, north, satellite, satellites, set_of, stations}
use Rattle.jiff_core.specs.Calendar as calendar
use Rattle.station_file.proofs.FlatLemmas.{flat_is_mask}
use Rattle.station_file.specs.Masks.{IsMask, flat_sectors, whole}
use Rattle.station_file.specs.Rows.{IsStationRow, IsStations}
use Rattle.station_file.specs.declared.row.StationRow.{StationRow}

-- ---- numbers
-- the satellites are as many as is asked for
pub how_many : (count : ℕ) → length (satellites count) ≡ count
how_many zero = refl
how_many (suc k) = omega (arith, length-append (satellites k) (satellite k ∷ []), how_many k)

-- no satellite has the number of a later one
pub number_is_new : (count k : ℕ) → count ≤ k → has_number (90_000 + k) (satellites count) ≡ false
number_is_new zero k h = refl
number_is_new (suc j) k h =
    let others : list_any (nat_eq (90_000 + k)) (numbers (satellites j)) ≡ false = number_is_new j k (omega (arith, h)) in
    let last : nat_eq (90_000 + k) (90_000 + j) ≡ false = ne_eqb (90_000 + k) (90_000 + j) (λ e. omega (arith, e, h)) in
    ap (list_any (nat_eq (90_000 + k))) (map-append (λ (entry : Entry). entry.elements.number) (satellites j) (satellite j ∷ []))
    ∙ list_any-append (nat_eq (90_000 + k)) (numbers (satellites j)) ((90_000 + j) ∷ [])
    ∙ rw (others, last) refl

-- the catalogue has room for each of the first thousand
pub is_added : (k : ℕ) → k < 1000 → not (has_number (90_000 + k) (satellites k) || is_full (satellites k)) ≡ true
is_added k h =
    let new : has_number (90_000 + k) (satellites k) ≡ false = number_is_new k k (omega arith) in
    let room : nat_lt (length (satellites k)) 16_384 ≡ true = lt-ltb (length (satellites k)) 16_384 (omega (arith, h, how_many k)) in
    rw (new, room) refl

-- so each is added behind those before it
pub added_satellite : (k : ℕ) → k < 1000 → (old new : List Entry) (set : ElementsRecord) (name : List ℕ) (done : Bool) → old ≡ satellites k → set ≡ set_of k → name ≡ codes "-" →
    done ≡ not (has_number set.number old || is_full old) → (done ≡ true → new ≡ old ++ record { elements = set; name = name } ∷ []) → new ≡ satellites (k + 1)
added_satellite k h old new set name done o s n d a =
    let yes : done ≡ true = d ∙ (λ i. not (has_number (s i).number (o i) || is_full (o i))) ∙ is_added k h in
    a yes ∙ (λ i. o i ++ record { elements = s i; name = n i } ∷ []) ∙ ap satellites (sym (add-one k))

-- ---- ranges
-- a whole number of degrees
pub whole_range : (low : ℤ) (high n : ℕ) → low ≤ℤ pos n → n ≤ high → IsFromTo low (pos high) (value (whole n))
whole_range low high n least most = rw (value_whole (pos n)) (record { least = of_int_le least; most = of_int_le (omega (arith, ints, most)) })

-- a fraction is above 0
positive : (n d : ℕ) → 0 < n → zero_ℚ <ℚ ratio (pos n) d
unfolding ratio number
positive n d some =
    lt_of_not_le _ _ (λ back.
    let cross = cross_of_le (record { num = pos n; den = suc (pred d); fits = zero-lt-suc _ }) (record { num = pos 0; den = 1; fits = zero-lt-suc _ }) back in
    omega (arith, ints))

-- and below a whole number
below : (n d k : ℕ) → 0 < d → n < k * d → ratio (pos n) d <ℚ ratio (pos k) 1
unfolding ratio number
below n d k some h =
    lt_of_not_le _ _ (λ back.
    let cross = cross_of_le (record { num = pos k; den = 1; fits = zero-lt-suc _ }) (record { num = pos n; den = suc (pred d); fits = zero-lt-suc _ }) back in
    let whole = rw (suc-pred-eq_of_pos some) at cross in
    omega (arith, ints))

-- and at most one
at_most : (n d k : ℕ) → 0 < d → n ≤ k * d → ratio (pos n) d ≤ℚ of_int (pos k)
unfolding ratio number of_int
at_most n d k some h =
    le_of_cross (record { num = pos n; den = suc (pred d); fits = zero-lt-suc _ }) (record { num = pos k; den = 1; fits = zero-lt-suc _ })
    (rw (suc-pred-eq_of_pos some) (omega (arith, ints)))

-- a decimal that is written with places
pub is_positive : (n places : ℕ) → 0 < n → zero_ℚ <ℚ value (normal (pos n) places)
is_positive n places some = subst (λ t. zero_ℚ <ℚ t) (sym (value_normal (pos n) places)) (positive n (10 ^ places) some)

pub is_not_negative : (n places : ℕ) → zero_ℚ ≤ℚ value (normal (pos n) places)
is_not_negative n places = subst (λ t. zero_ℚ ≤ℚ t) (sym (value_normal (pos n) places)) (le_of_not_negative (known n (10 ^ places)))

pub is_below : (n places k : ℕ) → 0 < 10 ^ places → n < k * 10 ^ places → value (normal (pos n) places) <ℚ ratio (pos k) 1
is_below n places k some h = subst (λ t. t <ℚ ratio (pos k) 1) (sym (value_normal (pos n) places)) (below n (10 ^ places) k some h)

-- each generated set is one
pub set_is : (k : ℕ) → k < 1000 → IsElements (set_of k)
set_is k h = record {
  motion = is_positive (15_000 - k) 3 (omega (arith, h));
  ecc = is_not_negative (k % 200) 4;
  ecc_below = is_below (k % 200) 4 1 (omega arith) (omega arith);
  incl = whole_range (pos 0) 180 (7 * k % 176) (omega (arith, ints)) (omega arith);
  node = whole_range (neg_ℤ (pos 360)) 360 (37 * k % 360) (omega (arith, ints)) (omega arith);
  argp = whole_range (neg_ℤ (pos 360)) 360 (91 * k % 360) (omega (arith, ints)) (omega arith);
  anomaly = whole_range (neg_ℤ (pos 360)) 360 (137 * k % 360) (omega (arith, ints)) (omega arith);
}

-- ---- stations
-- a latitude with one place
tenths_range : (low : ℤ) (high n : ℕ) → low ≤ℤ pos 0 → n ≤ high * 10 → IsFromTo low (pos high) (value (normal (pos n) 1))
tenths_range low high n least most =
    rw (value_normal (pos n) 1) (record {
      least = le_trans (of_int_le least) (subst (λ t. t ≤ℚ ratio (pos n) 10) (sym (of_int_is (pos 0))) (le_of_not_negative (known n 10)));
      most = at_most n 10 high (omega arith) most;
    })

flat : (n : ℕ) → n ≤ 90 → IsMask (flat_sectors (whole n))
flat n h = flat_is_mask (whole n) (whole_range (neg_ℤ (pos 90)) 90 n (omega (arith, ints)) h)

equator_is : IsStationRow equator
equator_is = record {
  name = record { least = omega arith; most = omega arith };
  lat = whole_range (neg_ℤ (pos 90)) 90 0 (omega (arith, ints)) (omega arith);
  lon = whole_range (neg_ℤ (pos 180)) 360 0 (omega (arith, ints)) (omega arith);
  height = whole_range (neg_ℤ (pos 500)) 9000 0 (omega (arith, ints)) (omega arith);
  mask = flat 10 (omega arith);
}

north_is : IsStationRow north
north_is = record {
  name = record { least = omega arith; most = omega arith };
  lat = tenths_range (neg_ℤ (pos 90)) 90 679 (omega (arith, ints)) (omega arith);
  lon = whole_range (neg_ℤ (pos 180)) 360 21 (omega (arith, ints)) (omega arith);
  height = whole_range (neg_ℤ (pos 500)) 9000 0 (omega (arith, ints)) (omega arith);
  mask = flat 5 (omega arith);
}

-- the elevation of a mask is one
pub floor_is : (n : ℕ) → n ≤ 90 → IsFromTo (neg_ℤ (pos 90)) (pos 90) (value (whole n))
floor_is n h = whole_range (neg_ℤ (pos 90)) 90 n (omega (arith, ints)) h

names_differ : AllPairs (λ (a b : StationRow). ¬ (a.name ≡ b.name)) stations.rows
names_differ zero zero d h k = absurd (omega (arith, h))
names_differ zero (suc zero) d h k = λ e. let longer = ap length e in omega (arith, longer)
names_differ zero (suc (suc j)) d h k = absurd (omega (arith, k))
names_differ (suc i) zero d h k = absurd (omega (arith, h))
names_differ (suc i) (suc j) d h k = absurd (omega (arith, h, k))

-- the two are stations
pub stations_are : IsStations stations.rows
stations_are = record {
  least = omega arith;
  most = omega arith;
  rows_are = record {
    each = All-cons IsStationRow equator (north ∷ []) equator_is (All-cons IsStationRow north [] north_is (All-nil IsStationRow));
    names_differ = names_differ;
  };
}

-- rows that are pushed one after the other
pub two_rows : (none one two : List StationRow) (first second : StationRow) → none ≡ [] → one ≡ none ++ first ∷ [] → two ≡ one ++ second ∷ [] → first ≡ equator → second ≡ north → IsStations two
two_rows none one two first second p q r s t =
    let rows : two ≡ stations.rows = r ∙ (λ i. q i ++ t i ∷ []) ∙ (λ i. (p i ++ s i ∷ []) ++ north ∷ []) in
    subst IsStations (sym rows) stations_are

-- ---- the epoch
pub midnight_is : pos 15_422_400_000_000_000 ≡ midnight
unfolding calendar.days_from_civil calendar.day_count calendar.days_of_years calendar.days_of_months
midnight_is = refl
