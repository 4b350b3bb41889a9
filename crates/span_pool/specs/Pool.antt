-- The lists of a pool, and what each call makes of them.
use Rattle.std.specs.Prelude.{◌≡◌, ◌≢◌, ℕ, ◌+◌, ◌<◌, List, [], ◌∷◌, ◌++◌, length, Option, Some, None, slice_index_or, slice_set}
use Rattle.std.specs.List.{sum_by}
use Rattle.sgp4_model.specs.declared.span.Span.{Span}
use Rattle.span_pool.specs.Record.{PoolRecord}
use Rattle.span_pool.specs.declared.track.Track.{Track}

-- the list that begins at a slot
abbrev pub list_at : PoolRecord → ℕ → List Span
list_at pool head = slice_index_or pool.lists head []

-- how many slots are in use: the sum of the counts of all lists
abbrev pub slots_used : PoolRecord → ℕ
slots_used pool = sum_by length pool.lists

-- the pool where this list begins at a slot, and every other list is as before
abbrev pub with_list : PoolRecord → ℕ → List Span → PoolRecord
with_list pool head list = record pool { lists = slice_set pool.lists head list }

-- the list that begins at the head, if there is one
abbrev pub list_from : PoolRecord → Option ℕ → List Span
list_from pool None = []
list_from pool (Some head) = list_at pool head

-- the list of a track
abbrev pub list_of : PoolRecord → Track → List Span
list_of pool track = list_from pool track.head

-- the head of a list of so many spans, or of none
abbrev pub IsHead : PoolRecord → Option ℕ → ℕ → Type 0
IsHead pool None count = count ≡ 0
IsHead pool (Some head) count = (0 < count) × (length (list_at pool head) ≡ count)

-- a pool holds a track that is empty, or at whose head a list of its count begins
abbrev pub Holds : PoolRecord → Track → Type 0
Holds pool track = IsHead pool track.head track.count

-- the pool still holds a track, with the same list
abbrev pub IsStill : PoolRecord → PoolRecord → Track → Type 0
IsStill old new track = Holds new track × (list_of new track ≡ list_of old track)

-- every track that the pool held with another head is still there
abbrev pub KeepsOthers : PoolRecord → PoolRecord → Option ℕ → Type 0
KeepsOthers old new head = (other : Track) → other.head ≢ head → Holds old other → IsStill old new other

-- the slot is the head of the list, or begins none where the list was empty
abbrev pub IsSameHead : PoolRecord → Option ℕ → ℕ → Type 0
IsSameHead pool None at = list_at pool at ≡ []
IsSameHead pool (Some head) at = at ≡ head

-- the track's list has the span last, one slot more is in use, and nothing else is written over
pub record IsPushed (old new : PoolRecord) (before after : Track) (span : Span) : Type 0 where
  pub at : ℕ
  pub head : after.head ≡ Some at
  pub same_head : IsSameHead old before.head at
  pub count : after.count ≡ before.count + 1
  pub list : list_at new at ≡ list_of old before ++ span ∷ []
  pub pool : new ≡ with_list old at (list_of old before ++ span ∷ [])
  pub used : slots_used new ≡ slots_used old + 1

-- the list at the head is gone, and nothing else is written over
abbrev pub IsWithout : PoolRecord → Option ℕ → PoolRecord → Type 0
IsWithout old None new = new ≡ old
IsWithout old (Some head) new = new ≡ with_list old head []

-- the track's list is gone, its slots are free, and nothing else is written over
pub record IsReleased (old new : PoolRecord) (track : Track) : Type 0 where
  pub gone : IsWithout old track.head new
  pub used : slots_used new + track.count ≡ slots_used old
