-- How a pool lays out its lists in slots. No public clause cites this file.
use Rattle.std.specs.Prelude.{◌≡◌, ◌≢◌, ◌⊎◌, ℕ, zero, suc, ◌+◌, ◌-◌, ◌<◌, ◌≤◌, List, [], ◌∷◌, length, map, slice_index_or}
use Rattle.std.specs.List.{sum_by, range_with_len}
use Rattle.sgp4_model.specs.declared.span.Mark.TheVariants.{Yes}
use Rattle.sgp4_model.specs.declared.span.Span.{Span}
use Rattle.span_pool.specs.declared.slot.Slot.{Slot}

-- the link of the last slot of a chain
abbrev pub no_link : ℕ
no_link = 4294967295

-- a slot that begins no list
abbrev pub no_slot : Slot
no_slot = record { from = 0; to = 0; next = no_link; last = no_link; count = 0; mark = Yes }

-- the slot with a number
abbrev pub slot_at : List Slot → ℕ → Slot
slot_at slots at = slice_index_or slots at no_slot

-- the span of a slot
abbrev pub span_of : Slot → Span
span_of slot = record { mark = slot.mark; from = slot.from; to = slot.to }

-- so many spans of a chain, from a slot on
abbrev pub spans_from : List Slot → ℕ → ℕ → List Span
spans_from slots zero at = []
spans_from slots (suc n) at = span_of (slot_at slots at) ∷ spans_from slots n (slot_at slots at).next

-- the list that begins at a slot
abbrev pub chain_at : List Slot → ℕ → List Span
chain_at slots head = spans_from slots (slot_at slots head).count head

-- the list that begins at each slot
abbrev pub lists_of : List Slot → ℕ → List (List Span)
lists_of slots limit = map (chain_at slots) (range_with_len 0 limit)

-- so many slots of one owner, each linked to the next one, lead from a slot to another
abbrev pub IsRun : List Slot → (ℕ → ℕ) → ℕ → ℕ → ℕ → ℕ → Type 0
IsRun slots owner name zero from to = from ≡ to
IsRun slots owner name (suc n) from to = (from < length slots) × (owner from ≡ name) × IsRun slots owner name n (slot_at slots from).next to

-- the list that begins at a slot owns its slots, up to its last one, whose link is none
pub record IsList (slots : List Slot) (owner : ℕ → ℕ) (head : ℕ) : Type 0 where
  pub run : IsRun slots owner (suc head) ((slot_at slots head).count - 1) head (slot_at slots head).last
  pub inside : (slot_at slots head).last < length slots
  pub owned : owner (slot_at slots head).last ≡ suc head
  pub ends : (slot_at slots (slot_at slots head).last).next ≡ no_link

-- Each slot is owned by one list, or by the free chain, which all slots that no list has are on. So lists are apart.
pub record IsPool (slots : List Slot) (capacity limit used free : ℕ) : Type 0 where
  pub owner : ℕ → ℕ
  pub free_chain : IsRun slots owner 0 (length slots - used) free no_link
  pub lists : (head : ℕ) → 0 < (slot_at slots head).count → IsList slots owner head
  pub total : sum_by length (lists_of slots limit) ≡ used
  pub made : used ≤ length slots
  pub fits : length slots ≤ limit
  pub room : limit ≤ capacity
  pub most : limit ≤ 1048576

-- a slot was put in place of the first free one, or behind all others
pub record IsTaken (old new : List Slot) (free free_after : ℕ) (slot : Slot) (at : ℕ) : Type 0 where
  pub put : slot_at new at ≡ slot
  pub others : (i : ℕ) → i ≢ at → slot_at new i ≡ slot_at old i
  pub place : ((free ≢ no_link) × (at ≡ free) × (length new ≡ length old) × (free_after ≡ (slot_at old free).next))
      ⊎ ((free ≡ no_link) × (at ≡ length old) × (length new ≡ length old + 1) × (free_after ≡ no_link))

-- a slot was linked behind the last one of a list
pub record IsLinked (old new : List Slot) (head at : ℕ) : Type 0 where
  pub same_length : length new ≡ length old
  pub head_last : (slot_at new head).last ≡ at
  pub head_count : (slot_at new head).count ≡ (slot_at old head).count + 1
  pub other_counts : (i : ℕ) → i ≢ head → (slot_at new i).count ≡ (slot_at old i).count
  pub other_lasts : (i : ℕ) → i ≢ head → (slot_at new i).last ≡ (slot_at old i).last
  pub spans : (i : ℕ) → span_of (slot_at new i) ≡ span_of (slot_at old i)
  pub link : (slot_at new (slot_at old head).last).next ≡ at
  pub other_links : (i : ℕ) → i ≢ (slot_at old head).last → (slot_at new i).next ≡ (slot_at old i).next

-- a list of one slot was begun
pub record IsBegun (old new : List Slot) (at : ℕ) : Type 0 where
  pub same_length : length new ≡ length old
  pub last : (slot_at new at).last ≡ at
  pub count : (slot_at new at).count ≡ 1
  pub span : span_of (slot_at new at) ≡ span_of (slot_at old at)
  pub link : (slot_at new at).next ≡ (slot_at old at).next
  pub others : (i : ℕ) → i ≢ at → slot_at new i ≡ slot_at old i

-- a list was put before the free chain
pub record IsFreed (old new : List Slot) (head free : ℕ) : Type 0 where
  pub same_length : length new ≡ length old
  pub no_list : (slot_at new head).count ≡ 0
  pub other_counts : (i : ℕ) → i ≢ head → (slot_at new i).count ≡ (slot_at old i).count
  pub lasts : (i : ℕ) → (slot_at new i).last ≡ (slot_at old i).last
  pub spans : (i : ℕ) → span_of (slot_at new i) ≡ span_of (slot_at old i)
  pub link : (slot_at new (slot_at old head).last).next ≡ free
  pub other_links : (i : ℕ) → i ≢ (slot_at old head).last → (slot_at new i).next ≡ (slot_at old i).next
