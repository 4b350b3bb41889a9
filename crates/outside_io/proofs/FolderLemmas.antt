-- A folder's entries and the map of its files.
use Rattle.std.proofs.Common.{◌≡◌, ℕ, List, [], ◌∷◌, Vec, Global, Some, map as list_map, option_map, cond, true, false, refl, sym, ap, ◌∙◌, Ordering, Less, Equal, Greater}
use Rattle.std.specs.Ordering.{nat_cmp, is_eq, eq_by_cmp, match_ordering}
use Rattle.std.specs.Cmp.Lexicographic.{slice_cmp, nat_list_cmp_total}
use Rattle.std.specs.Map.{lookup}
use Rattle.std.specs.BTreeMap.{insert_entry, is_at}
use Rattle.std.specs.FinMap.{get, insert, from_entries, find, put, get-from_entries, get-insert, same_map, slice_cmp-IsAntisymmetric, nat_cmp-IsAntisymmetric}
use Rattle.std.specs.FinMap.Entries.{find-put, by_order}
use Rattle.outside_io.specs.Folder.{files_of}

abbrev Bytes : Type 0
Bytes = Vec ℕ Global

-- the order of names
abbrev name_cmp : List ℕ → List ℕ → Ordering
name_cmp = slice_cmp nat_cmp

abbrev entry_of : Bytes × Bytes → List ℕ × List ℕ
entry_of e = (e.0.items, e.1.items)

-- a name is found among the entries as in the list of what they hold
lookup-entries : (name : List ℕ) (es : List (Bytes × Bytes)) → option_map (λ (v : Bytes). v.items) (lookup (is_at (λ (k : Bytes). name_cmp name k.items)) es) ≡ find name_cmp name (list_map entry_of es)
lookup-entries name [] = refl
lookup-entries name (e ∷ es) =
    elim (is_eq (name_cmp name e.0.items)) as (λ b. option_map (λ (v : Bytes). v.items) (cond b (Some e.1) (lookup (is_at (λ (k : Bytes). name_cmp name k.items)) es)) ≡ cond b (Some e.1.items) (find name_cmp name (list_map entry_of es))) [
      | true ↦ refl
      | false ↦ lookup-entries name es
    ]

-- an entry goes to the place of its name
entries-insert : (k v : Bytes) (es : List (Bytes × Bytes)) → list_map entry_of (insert_entry (λ (a b : Bytes). name_cmp a.items b.items) es k v) ≡ put name_cmp k.items v.items (list_map entry_of es)
entries-insert k v [] = refl
entries-insert k v (e ∷ es) =
    elim (name_cmp k.items e.0.items) as (λ r. list_map entry_of (match_ordering r ((k, v) ∷ e ∷ es) ((e.0, v) ∷ es) (e ∷ insert_entry (λ (a b : Bytes). name_cmp a.items b.items) es k v)) ≡ by_order r ((k.items, v.items) ∷ entry_of e ∷ list_map entry_of es) ((e.0.items, v.items) ∷ list_map entry_of es) (entry_of e ∷ put name_cmp k.items v.items (list_map entry_of es))) [
      | Less ↦ refl
      | Equal ↦ refl
      | Greater ↦ ap (λ rest. entry_of e ∷ rest) (entries-insert k v es)
    ]

-- the map of a list with an entry put in its place
from_entries-put : (k v : List ℕ) (es : List (List ℕ × List ℕ)) → from_entries {R = name_cmp} (put name_cmp k v es) ≡ insert (from_entries es) k v
from_entries-put k v es = same_map nat_list_cmp_total (slice_cmp-IsAntisymmetric nat_cmp-IsAntisymmetric) _ _ (λ q. get-from_entries nat_list_cmp_total _ q ∙ find-put name_cmp nat_list_cmp_total q k v es ∙ sym (get-insert nat_list_cmp_total _ k v q ∙ ap (cond (eq_by_cmp name_cmp q k) (Some v)) (get-from_entries nat_list_cmp_total es q)))

-- the bytes that a folder has of a name
pub get-files_of : (name : List ℕ) (es : List (Bytes × Bytes)) → option_map (λ (v : Bytes). v.items) (lookup (is_at (λ (k : Bytes). name_cmp name k.items)) es) ≡ get (files_of es) name
get-files_of name es = lookup-entries name es ∙ sym (get-from_entries nat_list_cmp_total (list_map entry_of es) name)

-- a folder with one file more
pub files_of-insert : (k v : Bytes) (es : List (Bytes × Bytes)) → files_of (insert_entry (λ (a b : Bytes). name_cmp a.items b.items) es k v) ≡ insert (files_of es) k.items v.items
files_of-insert k v es = ap from_entries (entries-insert k v es) ∙ from_entries-put k.items v.items (list_map entry_of es)
