-- Steps of the reading of a station file.
use Rattle.std.proofs.Common.{◌≡◌, arith, ℕ, ◌+◌, ◌<◌, ◌≤◌, true, false, nat_le, List, [], ◌∷◌, ◌++◌, length, get_or, drop, Ok, Err, Result, refl, sym}
use Rattle.std.proofs.lemmas.Bool.{false_from_ne_true}
use Rattle.std.proofs.lemmas.Bool.Decides.{nat_tests}
use Rattle.std.proofs.lemmas.Str.{IsUtf8-from_is_utf8, is_utf8-from_IsUtf8}
use Rattle.std.specs.Str.{IsUtf8, is_utf8}
use Rattle.toml.proofs.Views.{items_view-drop}
use Rattle.toml.specs.declared.value.Value.{Value}
use Rattle.toml.specs.View.{items_view, view}
use Rattle.station_file.specs.declared.fault.StFault.{StFault}
use Rattle.station_file.specs.declared.fault.StFault.TheVariants.{Empty, NotUtf8, TooMany}
use Rattle.station_file.specs.declared.row.StationRow.{StationRow}
use Rattle.station_file.specs.Rows.{StationsRecord}
use Rattle.station_file.specs.StationFile.{count, row_of, rows_after, rows_of, station_value, text_value}

-- as many items as values
pub count_view : (values : List Value) → count (items_view values) ≡ length values
count_view [] = refl
count_view (value ∷ values) = omega (arith, count_view values)

-- the array has stations
pub no_stations : (values : List Value) → length values ≡ 0 → rows_of (items_view values) ≡ Err Empty
no_stations values h = let none : nat_le 1 (length values) ≡ false = grind (arith, nat_tests) in rw (count_view values, none) refl

pub too_many : (values : List Value) → 64 < length values → rows_of (items_view values) ≡ Err TooMany
too_many values h =
    let some : nat_le 1 (length values) ≡ true = grind (arith, nat_tests) in
    let many : nat_le (length values) 64 ≡ false = grind (arith, nat_tests) in
    rw (count_view values, some, many) refl

pub few_enough : (values : List Value) (answer : Result (List StationRow) StFault) → 1 ≤ length values → length values ≤ 64 → rows_after [] (items_view values) ≡ answer → rows_of (items_view values) ≡ answer
few_enough values answer h k e =
    let some : nat_le 1 (length values) ≡ true = grind (arith, nat_tests) in
    let few : nat_le (length values) 64 ≡ true = grind (arith, nat_tests) in
    rw (count_view values, some, few) e

-- one value further
pub next_row : (earlier : List StationRow) (values : List Value) (i : ℕ) (value : Value) (row : StationRow) → i < length values → value ≡ get_or values i value → row_of earlier (view value) ≡ Ok row
    → rows_after earlier (items_view (drop i values)) ≡ rows_after (earlier ++ row ∷ []) (items_view (drop (i + 1) values))
next_row earlier values i value row h here e = rw (items_view-drop values i value h, ← here, e) refl

-- the answer of a text is that of its bytes
pub answer_of_text : (bytes text : List ℕ) (answer : Result StationsRecord StFault) → IsUtf8 bytes → text ≡ bytes → text_value text ≡ answer → answer ≡ station_value bytes
unfolding station_value
answer_of_text bytes text answer is same e = rw (is_utf8-from_IsUtf8 bytes is, ← same) (sym e)

pub answer_of_no_text : (bytes : List ℕ) → ¬ (IsUtf8 bytes) → Err NotUtf8 ≡ station_value bytes
unfolding station_value
answer_of_no_text bytes not_utf8 = rw (false_from_ne_true (is_utf8 bytes) (λ yes. not_utf8 (IsUtf8-from_is_utf8 bytes yes))) refl
