-- A span put into a free slot: a list is begun there, or goes on there.
use Rattle.std.proofs.Common.{arith, ◌≡◌, ◌≢◌, ⊎_elim, ℕ, zero, suc, ◌+◌, ◌-◌, ◌<◌, ◌≤◌, List, [], ◌∷◌, ◌++◌, length, set, refl, sym, ap, subst, ◌∙◌}
use Rattle.std.proofs.lemmas.Bool.{cases_eq}
use Rattle.std.proofs.lemmas.List.{length_push}
use Rattle.sgp4_model.specs.declared.span.Span.{Span}
use Rattle.span_pool.specs.declared.slot.Slot.{Slot}
use Rattle.span_pool.specs.Slots.{IsRun, IsList, IsPool, IsTaken, IsBegun, IsLinked, chain_at, lists_of, no_link, slot_at, span_of, spans_from}
use Rattle.span_pool.proofs.RunLemmas.{IsKept, IsOff, run_kept, spans_kept, run_snoc, spans_snoc, run_unique, put, put_same, put_other}
use Rattle.span_pool.proofs.ListLemmas.{IsChange, length_chain, head_owned, head_inside, other_list, other_chain, lists_changed, total_changed, free_counts_none}

-- the slot that was taken: no list had it, and it begins none
pub record IsFree (old mid : List Slot) (limit : ℕ) (owner : ℕ → ℕ) (at : ℕ) : Type 0 where
  pub below : at < limit
  pub inside : at < length mid
  pub longer : length old ≤ length mid
  pub fits : length mid ≤ limit
  pub unowned : at < length old → owner at ≡ 0

pub taken_is_free : (old mid : List Slot) (capacity limit used free free' at : ℕ) (slot : Slot) (p : IsPool old capacity limit used free) → used < limit →
    IsTaken old mid free free' slot at → IsFree old mid limit p.owner at
taken_is_free old mid capacity limit used free free' at slot p room t = ⊎_elim (λ h. chained h (length old - used) refl p.free_chain) (λ h. behind h (length old - used) refl p.free_chain) t.place
  where
    chained : ((free ≢ no_link) × (at ≡ free) × (length mid ≡ length old) × (free' ≡ (slot_at old free).next)) → (n : ℕ) → n ≡ length old - used →
        IsRun old p.owner 0 n free no_link → IsFree old mid limit p.owner at
    chained h zero e r = absurd (h.0 r)
    chained h (suc n) e r = record {
      below = omega (arith, r.0, p.fits, h.1);
      inside = omega (arith, r.0, h.1, h.2);
      longer = omega (arith, h.2);
      fits = omega (arith, h.2, p.fits);
      unowned = λ _. subst (λ i. p.owner i ≡ 0) (sym h.1) r.1;
    }

    behind : ((free ≡ no_link) × (at ≡ length old) × (length mid ≡ length old + 1) × (free' ≡ no_link)) → (n : ℕ) → n ≡ length old - used →
        IsRun old p.owner 0 n free no_link → IsFree old mid limit p.owner at
    behind h (suc n) e r = absurd (omega (arith, r.0, h.0, p.fits, p.most))
    behind h zero e r = record {
      below = omega (arith, e, h.1, p.made, room);
      inside = omega (arith, h.1, h.2);
      longer = omega (arith, h.2);
      fits = omega (arith, e, h.2, p.made, room);
      unowned = λ l. absurd (omega (arith, l, h.1));
    }

-- so the first slot of a list, and its last one, are others
pub first_stays : (old mid : List Slot) (capacity limit used free free' at head : ℕ) (slot : Slot) (p : IsPool old capacity limit used free) → used < limit →
    IsTaken old mid free free' slot at → 0 < (slot_at old head).count → slot_at mid head ≡ slot_at old head
first_stays old mid capacity limit used free free' at head slot p room t some =
    let was = p.lists head some in
    let f = taken_is_free old mid capacity limit used free free' at slot p room t in
    t.others head (λ e.
    let free_at : p.owner at ≡ 0 = f.unowned (subst (λ j. j < length old) e (head_inside old p.owner head was)) in
    omega (arith, head_owned old p.owner head was, ap p.owner e, free_at))

-- the free chain goes on behind it
pub free_rest : (old mid new : List Slot) (capacity limit used free free' at : ℕ) (slot : Slot) (owner' : ℕ → ℕ) (p : IsPool old capacity limit used free) → used < limit →
    IsTaken old mid free free' slot at → IsKept old new p.owner owner' 0 0 at → length new ≡ length mid → IsRun new owner' 0 (length new - (used + 1)) free' no_link
free_rest old mid new capacity limit used free free' at slot owner' p room t k same =
    ⊎_elim (λ h. chained h (length old - used) refl p.free_chain) (λ h. behind h (length old - used) refl p.free_chain) t.place
  where
    chained : ((free ≢ no_link) × (at ≡ free) × (length mid ≡ length old) × (free' ≡ (slot_at old free).next)) → (n : ℕ) → n ≡ length old - used →
        IsRun old p.owner 0 n free no_link → IsRun new owner' 0 (length new - (used + 1)) free' no_link
    chained h zero e r = absurd (h.0 r)
    chained h (suc n) e r =
        let count : length new - (used + 1) ≡ n = omega (arith, same, h.2, e) in
        let off : IsOff old p.owner 0 at n no_link =
        λ m l s. omega (arith, l, run_unique old p.owner 0 (suc m) (suc n) free no_link (omega (arith, p.fits, p.most)) (subst (λ i. IsRun old p.owner 0 (suc m) i no_link) h.1 s) r) in
        rw (count, h.3) (run_kept old new p.owner owner' 0 0 at n (slot_at old free).next no_link k off r.2)

    behind : ((free ≡ no_link) × (at ≡ length old) × (length mid ≡ length old + 1) × (free' ≡ no_link)) → (n : ℕ) → n ≡ length old - used →
        IsRun old p.owner 0 n free no_link → IsRun new owner' 0 (length new - (used + 1)) free' no_link
    behind h (suc n) e r = absurd (omega (arith, r.0, h.0, p.fits, p.most))
    behind h zero e r =
        let count : length new - (used + 1) ≡ 0 = omega (arith, same, h.2, e, p.made) in
        rw (count, h.3) refl

-- what a push makes of a pool
pub record IsMore (old new : List Slot) (capacity limit used free head : ℕ) (list : List Span) : Type 0 where
  pub pool : IsPool new capacity limit (used + 1) free
  pub changed : lists_of new limit ≡ set (lists_of old limit) head list
  pub inside : head < limit

-- the slots of the others are kept
kept_by : (old new : List Slot) (owner : ℕ → ℕ) (name name' at but : ℕ) → length old ≤ length new → (at < length old → owner at ≡ 0) → (name ≡ 0 → at ≡ but) →
    ((i : ℕ) → i ≢ at → i ≢ but → owner i ≡ name → i < length old → (slot_at new i).next ≡ (slot_at old i).next) →
    ((i : ℕ) → i ≢ at → span_of (slot_at new i) ≡ span_of (slot_at old i)) → IsKept old new owner (put owner at name') name name but
kept_by old new owner name name' at but longer unowned only links spans = record {
  longer = longer;
  links = λ i l n o. links i (other i l n o) n o l;
  owners = λ i l n o. put_other owner at name' i (other i l n o) ∙ o;
  spans = λ i l n o. spans i (other i l n o);
}
  where
    other : (i : ℕ) → i < length old → i ≢ but → owner i ≡ name → i ≢ at
    other i l n o e =
        let none : owner i ≡ 0 = subst (λ j. owner j ≡ 0) (sym e) (unowned (subst (λ j. j < length old) e l)) in
        let free : name ≡ 0 = sym o ∙ none in
        n (e ∙ only free)

-- a list was begun
pub begun : (old mid new : List Slot) (capacity capacity' limit used free free' at : ℕ) (slot : Slot) (p : IsPool old capacity limit used free) → used < limit → capacity ≤ capacity' →
    slot.next ≡ no_link → IsTaken old mid free free' slot at → IsBegun mid new at → IsMore old new capacity' limit used free' at (span_of slot ∷ [])
begun old mid new capacity capacity' limit used free free' at slot p room more link t b = record {
  pool = record {
    owner = put p.owner at (suc at);
    free_chain = free_rest old mid new capacity limit used free free' at slot (put p.owner at (suc at)) p room t (kept 0 at (λ _. refl)) b.same_length;
    lists = lists;
    total = total_changed old new limit at used (used + 1) (span_of slot ∷ []) f.below changed p.total (omega (arith, none));
    made = omega (arith, f.longer, f.inside, b.same_length, p.made, lengths);
    fits = omega (arith, f.fits, b.same_length);
    room = omega (arith, more, p.room);
    most = p.most;
  };
  changed = changed;
  inside = f.below;
}
  where
    f : IsFree old mid limit p.owner at
    f = taken_is_free old mid capacity limit used free free' at slot p room t

    none : (slot_at old at).count ≡ 0
    none = free_counts_none old capacity limit used free p at f.unowned

    lengths : used + 1 ≤ length mid
    lengths = ⊎_elim (λ h. by_chain h (length old - used) refl p.free_chain) (λ h. omega (arith, h.2, p.made)) t.place
      where
        by_chain : ((free ≢ no_link) × (at ≡ free) × (length mid ≡ length old) × (free' ≡ (slot_at old free).next)) → (n : ℕ) → n ≡ length old - used →
            IsRun old p.owner 0 n free no_link → used + 1 ≤ length mid
        by_chain h zero e r = absurd (h.0 r)
        by_chain h (suc n) e r = omega (arith, h.2, e)

    same : (i : ℕ) → i ≢ at → slot_at new i ≡ slot_at old i
    same i n = b.others i n ∙ t.others i n

    kept : (name but : ℕ) → (name ≡ 0 → at ≡ but) → IsKept old new p.owner (put p.owner at (suc at)) name name but
    kept name but z =
        kept_by old new p.owner name (suc at) at but (omega (arith, f.longer, b.same_length)) f.unowned z
        (λ i n _ _ _. ap (λ (s : Slot). s.next) (same i n)) (λ i n. ap span_of (same i n))

    change : IsChange old new p.owner (put p.owner at (suc at)) at
    change = record {
      kept = λ other e. kept (suc other) (length old) (λ z. absurd (omega (arith, z)));
      counts = λ other e. ap (λ (s : Slot). s.count) (same other e);
      lasts = λ other e _. ap (λ (s : Slot). s.last) (same other e);
    }

    chain : chain_at new at ≡ span_of slot ∷ []
    chain = ap (λ n. spans_from new n at) b.count ∙ ap (λ (s : Span). s ∷ []) (b.span ∙ ap span_of t.put)

    changed : lists_of new limit ≡ set (lists_of old limit) at (span_of slot ∷ [])
    changed = lists_changed old new limit at (span_of slot ∷ []) f.below chain (λ other e. other_chain old new p.owner (put p.owner at (suc at)) at change other e (p.lists other))

    list : IsList new (put p.owner at (suc at)) at
    list = record {
      run = rw (b.count, b.last) refl;
      inside = rw b.last (omega (arith, f.inside, b.same_length));
      owned = rw b.last (put_same p.owner at (suc at));
      ends = rw b.last (b.link ∙ ap (λ (s : Slot). s.next) t.put ∙ link);
    }

    lists : (head : ℕ) → 0 < (slot_at new head).count → IsList new (put p.owner at (suc at)) head
    lists head some = ⊎_elim (λ e. subst (IsList new (put p.owner at (suc at))) (sym e) list)
        (λ e. other_list old new p.owner (put p.owner at (suc at)) at change head e (rw (← change.counts head e) some) (p.lists head (rw (← change.counts head e) some)))
        (cases_eq head at)

-- a list goes on
pub linked : (old mid new : List Slot) (capacity capacity' limit used free free' head at : ℕ) (slot : Slot) (p : IsPool old capacity limit used free) → used < limit →
    capacity ≤ capacity' → slot.next ≡ no_link → slot.count ≡ 0 → 0 < (slot_at old head).count → IsTaken old mid free free' slot at → IsLinked mid new head at →
    IsMore old new capacity' limit used free' head (chain_at old head ++ span_of slot ∷ [])
linked old mid new capacity capacity' limit used free free' head at slot p room more link no_count some t b = record {
  pool = record {
    owner = put p.owner at (suc head);
    free_chain = free_rest old mid new capacity limit used free free' at slot (put p.owner at (suc head)) p room t
        (kept 0 at (λ _. refl) (λ i n o l e. omega (arith, o, ap p.owner e, was.owned))) b.same_length;
    lists = lists;
    total = total_changed old new limit head used (used + 1) (chain_at old head ++ span_of slot ∷ []) below changed p.total
        (omega (arith, length_push (chain_at old head) (span_of slot), length_chain old head));
    made = omega (arith, f.longer, f.inside, b.same_length, p.made, lengths);
    fits = omega (arith, f.fits, b.same_length);
    room = omega (arith, more, p.room);
    most = p.most;
  };
  changed = changed;
  inside = below;
}
  where
    f : IsFree old mid limit p.owner at
    f = taken_is_free old mid capacity limit used free free' at slot p room t

    was : IsList old p.owner head
    was = p.lists head some

    below : head < limit
    below = omega (arith, head_inside old p.owner head was, p.fits)

    none : (slot_at old at).count ≡ 0
    none = free_counts_none old capacity limit used free p at f.unowned

    lengths : used + 1 ≤ length mid
    lengths = ⊎_elim (λ h. by_chain h (length old - used) refl p.free_chain) (λ h. omega (arith, h.2, p.made)) t.place
      where
        by_chain : ((free ≢ no_link) × (at ≡ free) × (length mid ≡ length old) × (free' ≡ (slot_at old free).next)) → (n : ℕ) → n ≡ length old - used →
            IsRun old p.owner 0 n free no_link → used + 1 ≤ length mid
        by_chain h zero e r = absurd (h.0 r)
        by_chain h (suc n) e r = omega (arith, h.2, e)

    not_at : (i name : ℕ) → i < length old → p.owner i ≡ suc name → i ≢ at
    not_at i name l o e =
        let free_at : p.owner at ≡ 0 = f.unowned (subst (λ j. j < length old) e l) in
        omega (arith, o, ap p.owner e, free_at)

    head_there : slot_at mid head ≡ slot_at old head
    head_there = first_stays old mid capacity limit used free free' at head slot p room t some

    last : (slot_at mid head).last ≡ (slot_at old head).last
    last = ap (λ (s : Slot). s.last) head_there

    last_not_at : (slot_at old head).last ≢ at
    last_not_at = not_at (slot_at old head).last head was.inside was.owned

    links : (i : ℕ) → i ≢ at → i ≢ (slot_at old head).last → (slot_at new i).next ≡ (slot_at old i).next
    links i n k = b.other_links i (λ e. k (e ∙ last)) ∙ ap (λ (s : Slot). s.next) (t.others i n)

    kept : (name but : ℕ) → (name ≡ 0 → at ≡ but) → ((i : ℕ) → i ≢ but → p.owner i ≡ name → i < length old → i ≢ (slot_at old head).last) →
        IsKept old new p.owner (put p.owner at (suc head)) name name but
    kept name but only off =
        kept_by old new p.owner name (suc head) at but (omega (arith, f.longer, b.same_length)) f.unowned only
        (λ i n k o l. links i n (off i k o l)) (λ i n. b.spans i ∙ ap span_of (t.others i n))

    change : IsChange old new p.owner (put p.owner at (suc head)) head
    change = record {
      kept = λ other e. kept (suc other) (length old) (λ z. absurd (omega (arith, z))) (λ i n o l k. e (omega (arith, o, ap p.owner k, was.owned)));
      counts = λ other e. b.other_counts other e ∙ count_there other;
      lasts = λ other e m. b.other_lasts other e ∙ ap (λ (s : Slot). s.last) (t.others other (λ k. omega (arith, m, ap (λ i. (slot_at old i).count) k, none)));
    }
      where
        count_there : (i : ℕ) → (slot_at mid i).count ≡ (slot_at old i).count
        count_there i = ⊎_elim (λ e. ap (λ j. (slot_at mid j).count) e ∙ ap (λ (s : Slot). s.count) t.put ∙ no_count ∙ sym (ap (λ j. (slot_at old j).count) e ∙ none))
            (λ n. ap (λ (s : Slot). s.count) (t.others i n)) (cases_eq i at)

    own : IsKept old new p.owner (put p.owner at (suc head)) (suc head) (suc head) (slot_at old head).last
    own = kept (suc head) (slot_at old head).last (λ z. absurd (omega (arith, z))) (λ i n _ _. n)

    off : IsOff old p.owner (suc head) (slot_at old head).last ((slot_at old head).count - 1) (slot_at old head).last
    off zero l r = omega (arith, ap (λ x. x) r.2, was.ends, was.inside, p.fits, p.most)
    off (suc m) l r = omega (arith, r.2.0, was.ends, p.fits, p.most)

    count : (slot_at new head).count ≡ (slot_at old head).count + 1
    count = rw (← ap (λ (s : Slot). s.count) head_there) b.head_count

    link_there : (slot_at new (slot_at old head).last).next ≡ at
    link_there = rw (← last) b.link

    run : IsRun new (put p.owner at (suc head)) (suc head) ((slot_at old head).count - 1) head (slot_at old head).last
    run = run_kept old new p.owner (put p.owner at (suc head)) (suc head) (suc head) (slot_at old head).last _ head _ own off was.run

    whole : (n : ℕ) → suc n ≡ (slot_at old head).count → IsRun new (put p.owner at (suc head)) (suc head) n head (slot_at old head).last →
        spans_from new n head ≡ spans_from old n head → (IsRun new (put p.owner at (suc head)) (suc head) (suc n) head at) × (spans_from new (suc n) head ≡ spans_from old (suc n) head)
    whole n e r s = (
      subst (λ i. IsRun new (put p.owner at (suc head)) (suc head) (suc n) head i) link_there
          (run_snoc new (put p.owner at (suc head)) (suc head) n head (slot_at old head).last r (omega (arith, was.inside, f.longer, b.same_length))
          (put_other p.owner at (suc head) (slot_at old head).last last_not_at ∙ was.owned)),
      spans_snoc new (put p.owner at (suc head)) (suc head) n head (slot_at old head).last r
          ∙ ap (λ (l : List Span). l ++ span_of (slot_at new (slot_at old head).last) ∷ []) s
          ∙ ap (λ x. spans_from old n head ++ x ∷ []) (b.spans (slot_at old head).last ∙ ap span_of (t.others (slot_at old head).last last_not_at))
          ∙ sym (spans_snoc old p.owner (suc head) n head (slot_at old head).last (subst (λ k. IsRun old p.owner (suc head) k head (slot_at old head).last) (omega (arith, e)) was.run)),
    )

    grown : (IsRun new (put p.owner at (suc head)) (suc head) (suc ((slot_at old head).count - 1)) head at)
        × (spans_from new (suc ((slot_at old head).count - 1)) head ≡ spans_from old (suc ((slot_at old head).count - 1)) head)
    grown = whole ((slot_at old head).count - 1) (omega (arith, some)) run
        (spans_kept old new p.owner (put p.owner at (suc head)) (suc head) (suc head) (slot_at old head).last _ head _ own off was.run)

    same_count : suc ((slot_at old head).count - 1) ≡ (slot_at old head).count
    same_count = omega (arith, some)

    chain : chain_at new head ≡ chain_at old head ++ span_of slot ∷ []
    chain =
        let e : (slot_at new head).count ≡ suc (slot_at old head).count = omega (arith, count) in
        ap (λ n. spans_from new n head) e
        ∙ spans_snoc new (put p.owner at (suc head)) (suc head) (slot_at old head).count head at (rw (← same_count) grown.0)
        ∙ ap (λ (l : List Span). l ++ span_of (slot_at new at) ∷ []) (rw (← same_count) grown.1)
        ∙ ap (λ x. chain_at old head ++ x ∷ []) (b.spans at ∙ ap span_of t.put)

    changed : lists_of new limit ≡ set (lists_of old limit) head (chain_at old head ++ span_of slot ∷ [])
    changed = lists_changed old new limit head (chain_at old head ++ span_of slot ∷ []) below chain
        (λ other e. other_chain old new p.owner (put p.owner at (suc head)) head change other e (p.lists other))

    list : IsList new (put p.owner at (suc head)) head
    list =
        let e : (slot_at new head).count - 1 ≡ suc ((slot_at old head).count - 1) = omega (arith, count, some) in
        record {
          run = rw (e, b.head_last) grown.0;
          inside = rw b.head_last (omega (arith, f.inside, b.same_length));
          owned = rw b.head_last (put_same p.owner at (suc head));
          ends = rw b.head_last (b.other_links at (λ e. last_not_at (sym (e ∙ last))) ∙ ap (λ (s : Slot). s.next) t.put ∙ link);
        }

    lists : (other : ℕ) → 0 < (slot_at new other).count → IsList new (put p.owner at (suc head)) other
    lists other m = ⊎_elim (λ e. subst (IsList new (put p.owner at (suc head))) (sym e) list)
        (λ e. other_list old new p.owner (put p.owner at (suc head)) head change other e (rw (← change.counts other e) m) (p.lists other (rw (← change.counts other e) m)))
        (cases_eq other head)
