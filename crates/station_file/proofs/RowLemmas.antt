-- Stations, and one more.
use Rattle.std.proofs.Common.{◌≡◌, arith, ℕ, zero, suc, ◌<◌, ◌≤◌, Bool, true, false, ◌||◌, List, [], ◌∷◌, ◌++◌, length, get_or, refl, ◌∙◌, sym}
use Rattle.std.proofs.lemmas.Bool.{false≢true}
use Rattle.std.proofs.lemmas.List.Elements.{All-push}
use Rattle.std.proofs.lemmas.List.Quantifiers.{all_pairs_push}
use Rattle.std.proofs.lemmas.Slice.Eq.{bytes_eq-Decides}
use Rattle.std.specs.Str.{bytes_eq}
use Rattle.station_file.specs.declared.row.StationRow.{StationRow}
use Rattle.station_file.specs.Rows.{AreRows, IsStationRow, IsStations}
use Rattle.station_file.specs.StationFile.{is_taken}

-- no station
pub no_rows : AreRows []
no_rows = record { each = λ k d h. absurd (omega arith); names_differ = λ i j d h k. absurd (omega arith) }

or_parts : (a b : Bool) → a || b ≡ false → (a ≡ false) × (b ≡ false)
or_parts false b e = (refl, e)
or_parts true b e = absurd (false≢true (sym e))

other_name : (rows : List StationRow) (name : List ℕ) → is_taken rows name ≡ false → (k : ℕ) (d : StationRow) → k < length rows → ¬ ((get_or rows k d).name ≡ name)
other_name [] name e k d h same = absurd (omega arith)
other_name (row ∷ rows) name e zero d h same =
    false≢true (sym ((or_parts (bytes_eq row.name name) (is_taken rows name) e).0) ∙ (bytes_eq-Decides row.name name).1 same)
other_name (row ∷ rows) name e (suc k) d h same = other_name rows name (or_parts (bytes_eq row.name name) (is_taken rows name) e).1 k d (omega arith) same

-- a station whose name is not taken
pub one_more_row : (rows : List StationRow) (row : StationRow) → AreRows rows → IsStationRow row → is_taken rows row.name ≡ false → AreRows (rows ++ row ∷ [])
one_more_row rows row are is new = record {
  each = All-push IsStationRow rows row are.each is;
  names_differ = all_pairs_push (λ (a b : StationRow). ¬ (a.name ≡ b.name)) rows row are.names_differ (other_name rows row.name new);
}

-- rows of one to 64 are stations
pub rows_are_stations : (rows : List StationRow) → 1 ≤ length rows → length rows ≤ 64 → AreRows rows → IsStations rows
rows_are_stations rows least most are = record { least = least; most = most; rows_are = are }
