-- What is in its ranges passes the tests.
use Rattle.std.proofs.Common.{◌≡◌, arith, ℕ, zero, suc, ◌+◌, ◌<◌, Bool, true, false, ◌&&◌, ◌||◌, not, nat_le, nat_eq, T, List, [], ◌∷◌, ◌++◌, length, get_or, refl, ap, subst, ℤ, pos, negsuc, neg_ℤ, unsigned_abs, ◌≤◌, All, Some, Result, Ok, Err}
use Rattle.std.proofs.lemmas.Bool.{false_from_ne_true}
use Rattle.std.proofs.lemmas.Bool.Decides.{nat_tests}
use Rattle.std.proofs.lemmas.Int.{ints}
use Rattle.std.proofs.lemmas.List.{length-append, length-map}
use Rattle.std.proofs.lemmas.Slice.Eq.{bytes_eq-Decides}
use Rattle.std.proofs.Math.ListN.{get_or-append}
use Rattle.std.proofs.Math.Seq.{get_or-append_seam}
use Rattle.std.specs.List.{list_all}
use Rattle.std.specs.Str.{bytes_eq}
use Rattle.exact.specs.Rational.{ℚ, at_least_0, of_int, ◌+ℚ◌, ◌-ℚ◌, ◌≤ℚ◌, ◌<ℚ◌}
use Rattle.decimals.specs.Decimal.{DecimalRecord, value}
use Rattle.elements.specs.Elements.{IsFromTo}
use Rattle.toml.specs.Data.{Items, no_items, item, Members}
use Rattle.station_file.specs.declared.fault.StFault.{StFault}
use Rattle.station_file.specs.declared.fault.StKey.{StKey}
use Rattle.station_file.specs.declared.fault.StKey.TheVariants.{Name, Lat, Lon, Height}
use Rattle.station_file.specs.declared.row.StationRow.{StationRow}
use Rattle.station_file.specs.declared.sector.Sector.{Sector}
use Rattle.elements.specs.Ranges.{is_from_to, at_most, below}
use Rattle.station_file.specs.Fields.{decimal_at, is_name, name_at, number_at, place_at}
use Rattle.station_file.specs.InRange.{borders_of, floors_of, Gives, MasksAreRead, OffsetsAreRead, RowsAreRead, StationsAreRead}
use Rattle.station_file.specs.MaskFields.{is_floor, sectors_of}
use Rattle.station_file.specs.MaskTests.{is_azimuth, follows, goes_round, is_round}
use Rattle.station_file.specs.Masks.{degrees, IsAzimuth, Follows, GoesRound, IsRound}
use Rattle.elements.specs.Offset.{IsOffset}
use Rattle.station_file.specs.Rows.{AreRows, IsName, IsStationRow}
use Rattle.station_file.specs.StationFile.{count, is_taken, next_index, row_of, rows_after}
use Rattle.elements.specs.Steps.{◌>>=◌}
use Rattle.station_file.specs.Tables.{string_at}

is_true : (t : Bool) → T t → t ≡ true
is_true true h = refl
is_true false h = absurd h

both : (a b : Bool) → a ≡ true → b ≡ true → a && b ≡ true
both a b p q = rw (p, q) refl

at_most_of_le : (x y : ℚ) → x ≤ℚ y → at_most x y ≡ true
at_most_of_le x y h = is_true (at_least_0 (y -ℚ x)) h.le

below_of_lt : (x y : ℚ) → x <ℚ y → below x y ≡ true
below_of_lt x y h = is_true (not (at_least_0 (x -ℚ y))) h.lt

-- ---- the offset
small : (z : ℤ) → IsOffset z → unsigned_abs z ≤ 900
small (pos n) is = omega (arith, ints, is.high)
small (negsuc n) is = omega (arith, ints, is.low)

pub offsets_are_read : OffsetsAreRead
offsets_are_read table dut1 at is =
    let less = small dut1 is in
    let passes : nat_le (unsigned_abs dut1) 900 ≡ true = grind (arith, nat_tests, less) in
    rw (at, passes) refl

-- ---- masks
azimuth_passes : (border : DecimalRecord) → IsAzimuth (value border) → is_azimuth border ≡ true
azimuth_passes border h = both (at_most (degrees 0) (value border)) (below (value border) (degrees 360)) (at_most_of_le _ _ h.least) (below_of_lt _ _ h.most)

follows_passes : (before border : ℚ) → Follows before border → follows before border ≡ true
follows_passes before border h = both (below before border) (at_most border (before +ℚ degrees 90)) (below_of_lt _ _ h.above) (at_most_of_le _ _ h.near)

between_passes : (low high : ℤ) (number : DecimalRecord) → IsFromTo low high (value number) → is_from_to low high number ≡ true
between_passes low high number h = both (at_most (of_int low) (value number)) (at_most (value number) (of_int high)) (at_most_of_le _ _ h.least) (at_most_of_le _ _ h.most)

goes_round_passes : (first border : ℚ) (sectors : List Sector) → GoesRound first border sectors → goes_round first border (borders_of sectors) ≡ true
goes_round_passes first border [] h = follows_passes border (first +ℚ degrees 360) h
goes_round_passes first border (sector ∷ sectors) h =
    both (follows border (value sector.border)) (goes_round first (value sector.border) (borders_of sectors)) (follows_passes border (value sector.border) h.0) (goes_round_passes first (value sector.border) sectors h.1)

is_round_passes : (sectors : List Sector) → IsRound sectors → is_round (borders_of sectors) ≡ true
is_round_passes [] h = absurd h
is_round_passes (sector ∷ sectors) h = goes_round_passes (value sector.border) (value sector.border) sectors h

azimuths_pass : (sectors : List Sector) → All (λ (sector : Sector). IsAzimuth (value sector.border)) sectors → list_all is_azimuth (borders_of sectors) ≡ true
azimuths_pass [] h = refl
azimuths_pass (sector ∷ sectors) h =
    both (is_azimuth sector.border) (list_all is_azimuth (borders_of sectors)) (azimuth_passes sector.border (h zero sector (omega arith))) (azimuths_pass sectors (λ k d below. h (suc k) d (omega arith)))

floors_pass : (sectors : List Sector) → All (λ (sector : Sector). IsFromTo (neg_ℤ (pos 90)) (pos 90) (value sector.floor)) sectors → list_all is_floor (floors_of sectors) ≡ true
floors_pass [] h = refl
floors_pass (sector ∷ sectors) h =
    both (is_floor sector.floor) (list_all is_floor (floors_of sectors)) (between_passes _ _ sector.floor (h zero sector (omega arith))) (floors_pass sectors (λ k d below. h (suc k) d (omega arith)))

parts_joined : (sectors : List Sector) → sectors_of (borders_of sectors) (floors_of sectors) ≡ sectors
parts_joined [] = refl
parts_joined (sector ∷ sectors) = ap (λ (rest : List Sector). sector ∷ rest) (parts_joined sectors)

pub masks_are_read : MasksAreRead
masks_are_read index sectors h =
    let in_range = floors_pass sectors h.floors in
    let azimuths = azimuths_pass sectors h.azimuths in
    let round = is_round_passes sectors h.round in
    let long : nat_le 4 (length sectors) ≡ true = grind (arith, nat_tests, h.least) in
    let short : nat_le (length sectors) 360 ≡ true = grind (arith, nat_tests, h.most) in
    let same : nat_eq (length sectors) (length sectors) ≡ true = grind (arith, nat_tests) in
    rw (in_range, azimuths, round, length-map, length-map, long, short, same, parts_joined sectors) refl

-- ---- stations
name_passes : (name : List ℕ) → IsName name → is_name name ≡ true
name_passes name h =
    let some : nat_le 1 (length name) ≡ true = grind (arith, nat_tests, h.least) in
    let few : nat_le (length name) 64 ≡ true = grind (arith, nat_tests, h.most) in
    both (nat_le 1 (length name)) (nat_le (length name) 64) some few

neither : (a b : Bool) → a ≡ false → b ≡ false → a || b ≡ false
neither a b p q = rw (p, q) refl

not_taken : (rows : List StationRow) (name : List ℕ) → ((k : ℕ) (d : StationRow) → k < length rows → ¬ ((get_or rows k d).name ≡ name)) → is_taken rows name ≡ false
not_taken [] name h = refl
not_taken (row ∷ rows) name h =
    neither (bytes_eq row.name name) (is_taken rows name) (false_from_ne_true _ (λ e. h zero row (omega arith) ((bytes_eq-Decides row.name name).0 e))) (not_taken rows name (λ k d below. h (suc k) d (omega arith)))

number_passes : (index : ℕ) (key : StKey) (low high : ℤ) (table : Members) (number : DecimalRecord) → decimal_at key table ≡ Some number → IsFromTo low high (value number) → number_at index key low high table ≡ Ok number
number_passes index key low high table number given range = rw (given, between_passes low high number range) refl

name_given : (index : ℕ) (table : Members) (name : List ℕ) → string_at Name table ≡ Some name → IsName name → name_at index table ≡ Ok name
name_given index table name given range = rw (given, name_passes name range) refl

place_given : (index : ℕ) (table : Members) (row : StationRow) → Gives index table row → IsStationRow row → place_at index table ≡ Ok (record { lat = row.lat; lon = row.lon; height = row.height })
place_given index table row given is =
    rw (number_passes index Lat (neg_ℤ (pos 90)) (pos 90) table row.lat given.lat is.lat, number_passes index Lon (neg_ℤ (pos 180)) (pos 360) table row.lon given.lon is.lon, number_passes index Height (neg_ℤ (pos 500)) (pos 9000) table row.height given.height is.height) refl

last_is : (earlier : List StationRow) (row : StationRow) → AreRows (earlier ++ row ∷ []) → IsStationRow row
last_is earlier row are =
    let long = length-append earlier (row ∷ []) in
    subst IsStationRow (get_or-append_seam earlier row [] row) (are.each (length earlier) row (omega (arith, long)))

new_name : (earlier : List StationRow) (row : StationRow) → AreRows (earlier ++ row ∷ []) → is_taken earlier row.name ≡ false
new_name earlier row are =
    let long = length-append earlier (row ∷ []) in
    not_taken earlier row.name (λ k d below same. are.names_differ k (length earlier) d below (omega (arith, long)) (rw (get_or-append earlier (row ∷ []) d k below, get_or-append_seam earlier row [] d) same))

pub rows_are_read : RowsAreRead
rows_are_read earlier table row given are =
    let is = last_is earlier row are in
    rw (name_given (next_index earlier) table row.name given.name is.name, place_given (next_index earlier) table row given is, new_name earlier row are, given.mask) refl

-- ---- arrays
of_ok : {A B : Type 0} (answer : Result A StFault) (next : A → Result B StFault) (y : B) (P : Type 0) → answer >>= next ≡ Ok y → ((x : A) → next x ≡ Ok y → P) → P
of_ok (Ok x) next y P e f = f x e
of_ok (Err fault) next y P e f = cc e

counted : (earlier : List StationRow) (values : Items) (rows : List StationRow) → rows_after earlier values ≡ Ok rows → length rows ≡ length earlier + count values
counted earlier no_items rows e = let same : rows ≡ earlier = cc e in rw same (omega arith)
counted earlier (item d ds) rows e =
    of_ok (row_of earlier d) (λ (row : StationRow). rows_after (earlier ++ row ∷ []) ds) rows (length rows ≡ length earlier + (count ds + 1)) e
    (λ row more. let long = length-append earlier (row ∷ []) in let rest = counted (earlier ++ row ∷ []) ds rows more in omega (arith, long, rest))

pub stations_are_read : StationsAreRead
stations_are_read values rows e is =
    let counts = counted [] values rows e in
    let as_many : length rows ≡ count values = omega (arith, counts) in
    let some : nat_le 1 (count values) ≡ true = grind (arith, nat_tests, as_many, is.least) in
    let few : nat_le (count values) 64 ≡ true = grind (arith, nat_tests, as_many, is.most) in
    rw (some, few, e) refl
