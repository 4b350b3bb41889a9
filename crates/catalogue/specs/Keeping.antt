-- The satellites that are kept while a file is read, one set after another.
use Rattle.std.specs.Prelude.{◌==◌, nat_lt, Bool, true, List, [], ◌∷◌, Option, None, Some, ℤ, if◌then◌else◌}
use Rattle.catalogue.specs.declared.entry.Entry.{Entry}
use Rattle.catalogue.specs.Choice.{distance}

-- the epoch of a set is nearer to an instant than that of the one that is kept
abbrev pub is_nearer : ℤ → Entry → Entry → Bool
is_nearer start set kept = nat_lt (distance start set) (distance start kept)

-- the satellites, and one more set: it goes behind them where its number is new; else it stands for its satellite where
-- it is nearer than the one that is kept
abbrev pub with_set : ℤ → Entry → List Entry → List Entry
with_set start set [] = set ∷ []
with_set start set (kept ∷ others) =
    if set.elements.number == kept.elements.number then (if is_nearer start set kept then set else kept) ∷ others
    else kept ∷ with_set start set others

-- a set is to be kept: its number is new, or it is nearer than the one that is kept
abbrev pub is_wanted : ℤ → Entry → Option Entry → Bool
is_wanted start set None = true
is_wanted start set (Some kept) = is_nearer start set kept

-- the satellites with a set in the place of the kept one of its number, and behind them where there is none
abbrev pub with_entry : Entry → List Entry → List Entry
with_entry set [] = set ∷ []
with_entry set (kept ∷ others) = if set.elements.number == kept.elements.number then set ∷ others else kept ∷ with_entry set others
