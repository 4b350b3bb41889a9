-- One element set for each satellite: that whose epoch is nearest to an instant.
use Rattle.std.specs.Prelude.{ℕ, ◌==◌, nat_le, not, Bool, List, [], ◌∷◌, filter, filter_map, find, Option, ℤ, ◌-ℤ◌, unsigned_abs, Result, Ok}
use Rattle.std.specs.List.{list_all}
use Rattle.elements.specs.Steps.{◌>>=◌}
use Rattle.catalogue.specs.declared.entry.Entry.{Entry}
use Rattle.catalogue.specs.declared.fault.CatFault.{CatFault}
use Rattle.catalogue.specs.Entries.{numbers}
use Rattle.catalogue.specs.Sets.{element_sets}

-- how far the epoch of a set is from an instant, in nanoseconds
abbrev pub distance : ℤ → Entry → ℕ
distance start set = unsigned_abs (set.elements.epoch -ℤ start)

-- each number once, in the order of first appearance
abbrev pub once_each : List ℕ → List ℕ
once_each [] = []
once_each (number ∷ others) = number ∷ filter (λ other. not (number == other)) (once_each others)

-- the sets of one catalogue number
abbrev pub sets_with : ℕ → List Entry → List Entry
sets_with number sets = filter (λ set. number == set.elements.number) sets

-- no set has an epoch that is nearer to the instant than that of this one
abbrev pub is_nearest : ℤ → List Entry → Entry → Bool
is_nearest start sets set = list_all (λ other. nat_le (distance start set) (distance start other)) sets

-- the first of the sets with the nearest epoch, if there is a set
abbrev pub nearest : ℤ → List Entry → Option Entry
nearest start sets = find (is_nearest start sets) sets

-- for each catalogue number, in the order of first appearance, the first of its sets with the nearest epoch
unfoldable pub chosen_of : ℤ → List Entry → List Entry
chosen_of start sets = filter_map (λ number. nearest start (sets_with number sets)) (once_each (numbers sets))

-- the satellites of a file, each by its set whose epoch is nearest to the start, or the first fault of the file
unfoldable pub chosen : List ℕ → ℤ → Result (List Entry) CatFault
chosen bytes start = do
  sets ← element_sets bytes
  Ok (chosen_of start sets)
