-- What the slots show of a pool.
use Rattle.std.proofs.Common.{arith, ◌≡◌, ◌⊎◌, ⊎_elim, ℕ, ◌+◌, ◌<◌, ◌≤◌, List, [], ◌∷◌, ◌++◌, length, get_or, replicate, Option, None, Some, refl, sym, ap, subst, ◌∙◌}
use Rattle.std.specs.List.{sum_by}
use Rattle.std.proofs.lemmas.List.{ext_get_or, get_or_past, get_or-set_same, get_or-replicate, length-replicate}
use Rattle.std.proofs.lemmas.List.Folds.{sum_by-replicate}
use Rattle.sgp4_model.specs.declared.span.Span.{Span}
use Rattle.span_pool.specs.declared.slot.Slot.{Slot}
use Rattle.span_pool.specs.declared.track.Track.{Track}
use Rattle.span_pool.specs.Record.{PoolRecord}
use Rattle.span_pool.specs.Pool.{IsHead, IsPushed, IsReleased, IsSameHead, IsWithout, list_at, list_from, list_of, slots_used, with_list}
use Rattle.span_pool.specs.Slots.{IsPool, chain_at, lists_of, no_link, slot_at}
use Rattle.span_pool.proofs.ListLemmas.{past, no_chain, length_chain, list_there, length_lists, list_fits}
use Rattle.span_pool.proofs.PushLemmas.{IsMore}
use Rattle.span_pool.proofs.ReleaseLemmas.{IsLess}

-- the pool of these slots
abbrev pub pool_of : List Slot → ℕ → PoolRecord
pool_of slots limit = record { slots = limit; lists = lists_of slots limit }

-- the pool before its first span
pub empty_lists : (limit : ℕ) → lists_of [] limit ≡ replicate limit []
empty_lists limit = ext_get_or [] (lists_of [] limit) (replicate limit [])
    (length_lists [] limit ∙ sym (length-replicate limit []))
    (λ i l. let below : i < limit = omega (arith, l, length_lists [] limit) in
    list_there [] limit i below ∙ no_chain [] i (ap (λ (s : Slot). s.count) (past [] i (omega arith))) ∙ sym (get_or-replicate limit i [] [] below))

pub empty_list : (limit head : ℕ) → get_or (lists_of [] limit) head [] ≡ []
empty_list limit head = ⊎_elim (λ l. ap (λ (xs : List (List Span)). get_or xs head []) (empty_lists limit) ∙ get_or-replicate limit head [] [] l)
    (λ l. get_or_past (lists_of [] limit) head [] (omega (arith, l, length_lists [] limit))) (below_or_not head limit)
  where
    below_or_not : (m n : ℕ) → (m < n) ⊎ (n ≤ m)
    below_or_not m n = grind arith

pub nothing_used : (limit : ℕ) → sum_by length (lists_of [] limit) ≡ 0
nothing_used limit = ap (sum_by length) (empty_lists limit) ∙ sum_by-replicate length limit [] ∙ omega arith

pub empty : (capacity limit : ℕ) → limit ≤ capacity → limit ≤ 1048576 → IsPool [] capacity limit 0 no_link
empty capacity limit room most = record {
  owner = λ _. 0;
  free_chain = refl;
  lists = λ head m. absurd (omega (arith, m, ap (λ (s : Slot). s.count) (past [] head (omega arith))));
  total = nothing_used limit;
  made = omega arith;
  fits = omega arith;
  room = room;
  most = most;
}

-- a list that a track tells begins at its head
pub record IsThere (slots : List Slot) (limit head count : ℕ) : Type 0 where
  pub some : 0 < count
  pub below : head < limit
  pub count_is : (slot_at slots head).count ≡ count
  pub list_is : get_or (lists_of slots limit) head [] ≡ chain_at slots head

there : (slots : List Slot) (limit head count : ℕ) → IsHead (pool_of slots limit) (Some head) count → IsThere slots limit head count
there slots limit head count h =
    let below : head < limit = grind (arith, h.0, h.1, get_or_past (lists_of slots limit) head [], length_lists slots limit) in
    let list = list_there slots limit head below in
    record { some = h.0; below = below; count_is = sym (length_chain slots head) ∙ sym (ap length list) ∙ h.1; list_is = list }

pub held : (slots : List Slot) (limit : ℕ) (pool : PoolRecord) (head : Option ℕ) (at count : ℕ) → pool_of slots limit ≡ pool → head ≡ Some at → IsHead pool head count →
    IsThere slots limit at count
held slots limit pool head at count view is h =
    there slots limit at count (subst (λ o. IsHead (pool_of slots limit) o count) is (subst (λ (p : PoolRecord). IsHead p head count) (sym view) h))

pub listed : (slots : List Slot) (limit : ℕ) (pool : PoolRecord) (head : Option ℕ) (at count : ℕ) → pool_of slots limit ≡ pool → head ≡ Some at → IsHead pool head count →
    list_from pool head ≡ chain_at slots at
listed slots limit pool head at count view is h =
    let i = held slots limit pool head at count view is h in
    ap (list_from pool) is ∙ ap (λ (p : PoolRecord). list_at p at) (sym view) ∙ i.list_is

pub track_fits : (slots : List Slot) (capacity limit used free : ℕ) (pool : PoolRecord) (head : Option ℕ) (count : ℕ) → IsPool slots capacity limit used free →
    pool_of slots limit ≡ pool → IsHead pool head count → count ≤ used
track_fits slots capacity limit used free pool None count p view h = omega (arith, h)
track_fits slots capacity limit used free pool (Some at) count p view h =
    let i = held slots limit pool (Some at) at count view refl h in
    omega (arith, list_fits slots limit used at i.below p.total, i.count_is)

-- where a list is begun there was none
pub nothing_there : (slots : List Slot) (limit : ℕ) (pool : PoolRecord) (head : Option ℕ) (at : ℕ) → pool_of slots limit ≡ pool → at < limit →
    (slot_at slots at).count ≡ 0 → head ≡ None → IsSameHead pool head at
nothing_there slots limit pool head at view below none is =
    let empty : list_at pool at ≡ [] = ap (λ (p : PoolRecord). list_at p at) (sym view) ∙ list_there slots limit at below ∙ no_chain slots at none in
    subst (λ o. IsSameHead pool o at) (sym is) empty

-- a list that a push begins, and one that goes on
pub begins : (pool : PoolRecord) (before : Track) (span : Span) → before.head ≡ None → span ∷ [] ≡ list_of pool before ++ span ∷ []
begins pool before span is = sym (ap (λ o. list_from pool o ++ span ∷ []) is)

pub goes_on : (pool : PoolRecord) (before : Track) (at : ℕ) → before.head ≡ Some at → IsSameHead pool before.head at
goes_on pool before at is = subst (λ o. IsSameHead pool o at) (sym is) refl

-- a push, as a contract sees it
pub pushed : (old new : List Slot) (capacity capacity' limit used free free' at : ℕ) (list : List Span) (pool : PoolRecord) (before after : Track) (span : Span) →
    IsPool old capacity limit used free → IsMore old new capacity' limit used free' at list → pool_of old limit ≡ pool → IsSameHead pool before.head at →
    list ≡ list_of pool before ++ span ∷ [] → after.head ≡ Some at → after.count ≡ before.count + 1 → IsPushed pool (pool_of new limit) before after span
pushed old new capacity capacity' limit used free free' at list pool before after span p m view same is head count = record {
  at = at;
  head = head;
  same_head = same;
  count = count;
  list = ap (λ (l : List (List Span)). get_or l at []) m.changed ∙ get_or-set_same (lists_of old limit) at list [] (omega (arith, m.inside, length_lists old limit)) ∙ is;
  pool = whole;
  used = omega (arith, m.pool.total, ap (λ (q : PoolRecord). slots_used q) view, p.total);
}
  where
    changed : pool_of new limit ≡ with_list (pool_of old limit) at list
    changed = ap (λ (l : List (List Span)). record { slots = limit; lists = l }) m.changed

    whole : pool_of new limit ≡ with_list pool at (list_of pool before ++ span ∷ [])
    whole = changed ∙ ap (λ (q : PoolRecord). with_list q at list) view ∙ ap (λ l. with_list pool at l) is

-- and a release
pub gone : (old new : List Slot) (capacity capacity' limit used free at : ℕ) (pool : PoolRecord) (track : Track) →
    IsPool old capacity limit used free → IsLess old new capacity' limit used track.count at → pool_of old limit ≡ pool → track.head ≡ Some at →
    IsReleased pool (pool_of new limit) track
gone old new capacity capacity' limit used free at pool track p m view is = record {
  gone = subst (λ o. IsWithout pool o (pool_of new limit)) (sym is) whole;
  used = omega (arith, m.pool.total, m.enough, ap (λ (q : PoolRecord). slots_used q) view, p.total);
}
  where
    whole : pool_of new limit ≡ with_list pool at []
    whole = ap (λ (l : List (List Span)). record { slots = limit; lists = l }) m.changed ∙ ap (λ (q : PoolRecord). with_list q at []) view
