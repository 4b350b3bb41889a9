-- The lists of a pool: what each is made of, and what stays where one of them changes.
use Rattle.std.proofs.Common.{arith, ◌≡◌, ◌≢◌, ⊎_elim, ℕ, suc, ◌+◌, ◌-◌, ◌<◌, ◌≤◌, List, [], ◌∷◌, ◌++◌, length, get_or, set, sym, ap, ◌∙◌}
use Rattle.std.specs.List.{sum_by}
use Rattle.std.proofs.lemmas.Bool.{cases_eq}
use Rattle.std.proofs.Math.Nat.{eq-zero-or-pos}
use Rattle.std.proofs.lemmas.List.{ext_get_or, get_or_past, get_or-set_same, get_or-set_other, length-set}
use Rattle.std.proofs.lemmas.List.FromFn.{length-map-range_with_len, get_or-map-range_with_len}
use Rattle.std.proofs.lemmas.List.Sums.{sum_by-set}
use Rattle.sgp4_model.specs.declared.span.Span.{Span}
use Rattle.span_pool.specs.declared.slot.Slot.{Slot}
use Rattle.span_pool.specs.Slots.{IsRun, IsList, IsPool, chain_at, lists_of, no_slot, slot_at, span_of, spans_from}
use Rattle.span_pool.proofs.RunLemmas.{IsKept, run_kept, spans_kept, spans_snoc, run_owner, run_inside, length_spans}

-- a slot past all others begins no list
pub past : (slots : List Slot) (at : ℕ) → length slots ≤ at → slot_at slots at ≡ no_slot
past slots at l = get_or_past slots at no_slot l

pub no_run_past : (slots : List Slot) (owner : ℕ → ℕ) (name m at to : ℕ) → length slots ≤ at → ¬ (IsRun slots owner name (suc m) at to)
no_run_past slots owner name m at to l r = omega (arith, l, r.0)

pub length_chain : (slots : List Slot) (at : ℕ) → length (chain_at slots at) ≡ (slot_at slots at).count
length_chain slots at = length_spans slots (slot_at slots at).count at

-- a slot that counts none begins the empty list
pub no_chain : (slots : List Slot) (at : ℕ) → (slot_at slots at).count ≡ 0 → chain_at slots at ≡ []
no_chain slots at e = ap (λ n. spans_from slots n at) e

-- the first slot of a list is its own
pub head_owned : (slots : List Slot) (owner : ℕ → ℕ) (head : ℕ) → IsList slots owner head → owner head ≡ suc head
head_owned slots owner head l = run_owner slots owner (suc head) _ head _ l.run l.owned

pub head_inside : (slots : List Slot) (owner : ℕ → ℕ) (head : ℕ) → IsList slots owner head → head < length slots
head_inside slots owner head l = run_inside slots owner (suc head) _ head _ l.run l.inside

-- a list is the spans of its run and its last one
pub chain_split : (slots : List Slot) (owner : ℕ → ℕ) (head : ℕ) → IsList slots owner head → 0 < (slot_at slots head).count →
    chain_at slots head ≡ spans_from slots ((slot_at slots head).count - 1) head ++ span_of (slot_at slots (slot_at slots head).last) ∷ []
chain_split slots owner head l more =
    let e : (slot_at slots head).count ≡ suc ((slot_at slots head).count - 1) = omega (arith, more) in
    ap (λ n. spans_from slots n head) e ∙ spans_snoc slots owner (suc head) ((slot_at slots head).count - 1) head (slot_at slots head).last l.run

-- every list but the one that begins at a slot stays
pub record IsChange (old new : List Slot) (owner owner' : ℕ → ℕ) (head : ℕ) : Type 0 where
  pub kept : (other : ℕ) → other ≢ head → IsKept old new owner owner' (suc other) (suc other) (length old)
  pub counts : (other : ℕ) → other ≢ head → (slot_at new other).count ≡ (slot_at old other).count
  pub lasts : (other : ℕ) → other ≢ head → 0 < (slot_at old other).count → (slot_at new other).last ≡ (slot_at old other).last

pub other_list : (old new : List Slot) (owner owner' : ℕ → ℕ) (head : ℕ) → IsChange old new owner owner' head → (other : ℕ) → other ≢ head →
    0 < (slot_at old other).count → IsList old owner other → IsList new owner' other
other_list old new owner owner' head c other e more l =
    let k = c.kept other e in
    let count = c.counts other e in
    let last = c.lasts other e more in
    let not_past : (slot_at old other).last ≢ length old = λ p. omega (arith, p, l.inside) in
    let run : IsRun new owner' (suc other) ((slot_at old other).count - 1) other (slot_at old other).last =
    run_kept old new owner owner' (suc other) (suc other) (length old) _ other _ k (λ m _. no_run_past old owner (suc other) m (length old) _ (omega arith)) l.run in
    record {
      run = rw (count, last) run;
      inside = rw last (omega (arith, l.inside, k.longer));
      owned = rw last (k.owners _ l.inside not_past l.owned);
      ends = rw last (k.links _ l.inside not_past l.owned ∙ l.ends);
    }

pub other_chain : (old new : List Slot) (owner owner' : ℕ → ℕ) (head : ℕ) → IsChange old new owner owner' head → (other : ℕ) → other ≢ head →
    (0 < (slot_at old other).count → IsList old owner other) → chain_at new other ≡ chain_at old other
other_chain old new owner owner' head c other e l = ⊎_elim none some (eq-zero-or-pos (slot_at old other).count)
  where
    none : (slot_at old other).count ≡ 0 → chain_at new other ≡ chain_at old other
    none z = no_chain new other (c.counts other e ∙ z) ∙ sym (no_chain old other z)

    some : 0 < (slot_at old other).count → chain_at new other ≡ chain_at old other
    some more =
        let was = l more in
        let is = other_list old new owner owner' head c other e more was in
        let k = c.kept other e in
        let not_past : (slot_at old other).last ≢ length old = λ p. omega (arith, p, was.inside) in
        let run : spans_from new ((slot_at old other).count - 1) other ≡ spans_from old ((slot_at old other).count - 1) other =
        spans_kept old new owner owner' (suc other) (suc other) (length old) _ other _ k (λ m _. no_run_past old owner (suc other) m (length old) _ (omega arith)) was.run in
        let split : chain_at new other ≡ spans_from new ((slot_at old other).count - 1) other ++ span_of (slot_at new (slot_at old other).last) ∷ [] =
        rw (← c.counts other e, ← c.lasts other e more) (chain_split new owner' other is (rw (c.counts other e) more)) in
        split ∙ ap (λ (xs : List Span). xs ++ span_of (slot_at new (slot_at old other).last) ∷ []) run
        ∙ ap (λ s. spans_from old ((slot_at old other).count - 1) other ++ s ∷ []) (k.spans _ was.inside not_past was.owned)
        ∙ sym (chain_split old owner other was more)

-- the list at a place
pub list_there : (slots : List Slot) (limit at : ℕ) → at < limit → get_or (lists_of slots limit) at [] ≡ chain_at slots at
list_there slots limit at l = get_or-map-range_with_len (chain_at slots) 0 limit at at [] l (omega arith)

pub length_lists : (slots : List Slot) (limit : ℕ) → length (lists_of slots limit) ≡ limit
length_lists slots limit = length-map-range_with_len (chain_at slots) 0 limit

-- where one list changes, it is written over in the lists
pub lists_changed : (old new : List Slot) (limit head : ℕ) (list : List Span) → head < limit → chain_at new head ≡ list →
    ((other : ℕ) → other ≢ head → chain_at new other ≡ chain_at old other) → lists_of new limit ≡ set (lists_of old limit) head list
lists_changed old new limit head list inside is others =
    ext_get_or [] (lists_of new limit) (set (lists_of old limit) head list)
    (length_lists new limit ∙ sym (length-set (lists_of old limit) head list ∙ length_lists old limit))
    (λ i l. let below : i < limit = omega (arith, l, length_lists new limit) in
    ⊎_elim (same i below) (differs i below) (cases_eq i head))
  where
    same : (i : ℕ) → i < limit → i ≡ head → get_or (lists_of new limit) i [] ≡ get_or (set (lists_of old limit) head list) i []
    same i below e =
        list_there new limit i below ∙ ap (chain_at new) e ∙ is
        ∙ sym (ap (λ j. get_or (set (lists_of old limit) head list) j []) e
        ∙ get_or-set_same (lists_of old limit) head list [] (omega (arith, inside, length_lists old limit)))

    differs : (i : ℕ) → i < limit → i ≢ head → get_or (lists_of new limit) i [] ≡ get_or (set (lists_of old limit) head list) i []
    differs i below e =
        list_there new limit i below ∙ others i e ∙ sym (get_or-set_other (lists_of old limit) head i list [] e ∙ list_there old limit i below)

-- and so many slots are in use
pub total_changed : (old new : List Slot) (limit head used used' : ℕ) (list : List Span) → head < limit → lists_of new limit ≡ set (lists_of old limit) head list →
    sum_by length (lists_of old limit) ≡ used → used' + (slot_at old head).count ≡ used + length list → sum_by length (lists_of new limit) ≡ used'
total_changed old new limit head used used' list inside changed total e =
    let counted = sum_by-set length (lists_of old limit) head list [] (omega (arith, inside, length_lists old limit)) in
    let there : length (get_or (lists_of old limit) head []) ≡ (slot_at old head).count = ap length (list_there old limit head inside) ∙ length_chain old head in
    let sum : sum_by length (set (lists_of old limit) head list) ≡ used' = omega (arith, counted, there, total, e) in
    ap (sum_by length) changed ∙ sum

-- a slot that no list owns begins none
pub free_counts_none : (slots : List Slot) (capacity limit used free : ℕ) (p : IsPool slots capacity limit used free) (at : ℕ) → (at < length slots → p.owner at ≡ 0) →
    (slot_at slots at).count ≡ 0
free_counts_none slots capacity limit used free p at unowned = ⊎_elim (λ z. z) some (eq-zero-or-pos (slot_at slots at).count)
  where
    some : 0 < (slot_at slots at).count → (slot_at slots at).count ≡ 0
    some more =
        let l = p.lists at more in
        absurd (omega (arith, unowned (head_inside slots p.owner at l), head_owned slots p.owner at l))

-- no list has more spans than slots are in use
pub list_fits : (slots : List Slot) (limit used head : ℕ) → head < limit → sum_by length (lists_of slots limit) ≡ used → (slot_at slots head).count ≤ used
list_fits slots limit used head below total =
    let sum = sum_by-set length (lists_of slots limit) head [] [] (omega (arith, below, length_lists slots limit)) in
    let list : length (get_or (lists_of slots limit) head []) ≡ (slot_at slots head).count = ap length (list_there slots limit head below) ∙ length_chain slots head in
    omega (arith, sum, list, total)
