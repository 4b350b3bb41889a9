-- A list put before the free chain, and a list that is read.
use Rattle.std.proofs.Common.{arith, ◌≡◌, ◌≢◌, ⊎_elim, ℕ, zero, suc, ◌+◌, ◌-◌, ◌<◌, ◌≤◌, List, [], length, set, Option, Some, slice_get, sym, ap, subst, ◌∙◌}
use Rattle.std.proofs.lemmas.Bool.{cases_eq}
use Rattle.sgp4_model.specs.declared.span.Span.{Span}
use Rattle.span_pool.specs.declared.slot.Slot.{Slot}
use Rattle.span_pool.specs.Slots.{IsRun, IsList, IsPool, IsFreed, chain_at, lists_of, no_link, slot_at, span_of, spans_from}
use Rattle.span_pool.proofs.RunLemmas.{IsKept, IsOff, run_kept, run_snoc, run_append, run_inside, freed, freed_same, freed_other}
use Rattle.span_pool.proofs.ListLemmas.{IsChange, no_run_past, no_chain, other_list, other_chain, lists_changed, total_changed, list_fits, head_inside}

-- what a release makes of a pool
pub record IsLess (old new : List Slot) (capacity limit used count head : ℕ) : Type 0 where
  pub pool : IsPool new capacity limit (used - count) head
  pub changed : lists_of new limit ≡ set (lists_of old limit) head []
  pub enough : count ≤ used
  pub inside : head < limit

pub released : (old new : List Slot) (capacity capacity' limit used free head count : ℕ) (p : IsPool old capacity limit used free) → capacity ≤ capacity' →
    (slot_at old head).count ≡ count → 0 < count → IsFreed old new head free → IsLess old new capacity' limit used count head
released old new capacity capacity' limit used free head count p more counted some b = record {
  pool = record {
    owner = freed p.owner (suc head);
    free_chain = rw lengths (run_append new (freed p.owner (suc head)) 0 count (length old - used) head free no_link own_chain old_chain);
    lists = lists;
    total = total_changed old new limit head used (used - count) [] below changed p.total (omega (arith, enough, counted));
    made = omega (arith, p.made, b.same_length);
    fits = omega (arith, p.fits, b.same_length);
    room = omega (arith, more, p.room);
    most = p.most;
  };
  changed = changed;
  enough = enough;
  inside = below;
}
  where
    was : IsList old p.owner head
    was = p.lists head (omega (arith, some, counted))

    below : head < limit
    below = omega (arith, head_inside old p.owner head was, p.fits)

    enough : count ≤ used
    enough = omega (arith, list_fits old limit used head below p.total, counted)

    lengths : length new - (used - count) ≡ count + (length old - used)
    lengths = omega (arith, enough, p.made, b.same_length)

    not_last : (i : ℕ) → p.owner i ≢ suc head → i ≢ (slot_at old head).last
    not_last i n e = n (ap p.owner e ∙ was.owned)

    own : IsKept old new p.owner (freed p.owner (suc head)) (suc head) 0 (slot_at old head).last
    own = record {
      longer = omega (arith, b.same_length);
      links = λ i l n o. b.other_links i n;
      owners = λ i l n o. freed_same p.owner (suc head) i o;
      spans = λ i l n o. b.spans i;
    }

    off : IsOff old p.owner (suc head) (slot_at old head).last ((slot_at old head).count - 1) (slot_at old head).last
    off zero l r = omega (arith, ap (λ x. x) r.2, was.ends, was.inside, p.fits, p.most)
    off (suc m) l r = omega (arith, r.2.0, was.ends, p.fits, p.most)

    own_chain : IsRun new (freed p.owner (suc head)) 0 count head free
    own_chain =
        let e : count ≡ suc ((slot_at old head).count - 1) = omega (arith, some, counted) in
        rw e (subst (λ t. IsRun new (freed p.owner (suc head)) 0 (suc ((slot_at old head).count - 1)) head t) b.link
        (run_snoc new (freed p.owner (suc head)) 0 ((slot_at old head).count - 1) head (slot_at old head).last
        (run_kept old new p.owner (freed p.owner (suc head)) (suc head) 0 (slot_at old head).last _ head _ own off was.run)
        (omega (arith, was.inside, b.same_length))
        (freed_same p.owner (suc head) (slot_at old head).last was.owned)))

    kept : (name : ℕ) → name ≢ suc head → IsKept old new p.owner (freed p.owner (suc head)) name name (length old)
    kept name n = record {
      longer = omega (arith, b.same_length);
      links = λ i l _ o. b.other_links i (not_last i (λ e. n (sym o ∙ e)));
      owners = λ i l _ o. freed_other p.owner (suc head) i (λ e. n (sym o ∙ e)) ∙ o;
      spans = λ i l _ o. b.spans i;
    }

    old_chain : IsRun new (freed p.owner (suc head)) 0 (length old - used) free no_link
    old_chain = run_kept old new p.owner (freed p.owner (suc head)) 0 0 (length old) _ free no_link (kept 0 (λ e. omega (arith, e)))
        (λ m _. no_run_past old p.owner 0 m (length old) no_link (omega arith)) p.free_chain

    change : IsChange old new p.owner (freed p.owner (suc head)) head
    change = record {
      kept = λ other e. kept (suc other) (λ z. e (omega (arith, z)));
      counts = b.other_counts;
      lasts = λ other _ _. b.lasts other;
    }

    changed : lists_of new limit ≡ set (lists_of old limit) head []
    changed = lists_changed old new limit head [] below (no_chain new head b.no_list)
        (λ other e. other_chain old new p.owner (freed p.owner (suc head)) head change other e (p.lists other))

    lists : (other : ℕ) → 0 < (slot_at new other).count → IsList new (freed p.owner (suc head)) other
    lists other m = ⊎_elim
        (λ e. absurd (omega (arith, m, ap (λ i. (slot_at new i).count) e, b.no_list)))
        (λ e. other_list old new p.owner (freed p.owner (suc head)) head change other e (rw (← change.counts other e) m) (p.lists other (rw (← change.counts other e) m)))
        (cases_eq other head)

-- so many spans are left before the wanted one
pub record IsReading (slots : List Slot) (left at : ℕ) (wanted : Option Span) : Type 0 where
  pub owner : ℕ → ℕ
  pub name : ℕ
  pub last : ℕ
  pub inside : last < length slots
  pub rest : ℕ
  pub enough : left ≤ rest
  pub run : IsRun slots owner name rest at last
  pub found : slice_get (spans_from slots (suc rest) at) left ≡ wanted

pub reading_starts : (slots : List Slot) (capacity limit used free head count k : ℕ) → IsPool slots capacity limit used free → (slot_at slots head).count ≡ count → k < count →
    IsReading slots k head (slice_get (chain_at slots head) k)
reading_starts slots capacity limit used free head count k p e below =
    let same : suc ((slot_at slots head).count - 1) ≡ (slot_at slots head).count = omega (arith, e, below) in
    let l = p.lists head (omega (arith, e, below)) in
    record {
      owner = p.owner;
      name = suc head;
      last = (slot_at slots head).last;
      inside = l.inside;
      rest = (slot_at slots head).count - 1;
      enough = omega (arith, e, below);
      run = l.run;
      found = ap (λ n. slice_get (spans_from slots n head) k) same;
    }

pub reading_inside : (slots : List Slot) (left at : ℕ) (wanted : Option Span) → IsReading slots left at wanted → at < length slots
reading_inside slots left at wanted r = run_inside slots r.owner r.name r.rest at r.last r.run r.inside

pub reading_goes_on : (slots : List Slot) (left at : ℕ) (wanted : Option Span) → 0 < left → IsReading slots left at wanted →
    IsReading slots (left - 1) (slot_at slots at).next wanted
reading_goes_on slots left at wanted some r = on left r.rest some r.enough r.run r.found
  where
    on : (left rest : ℕ) → 0 < left → left ≤ rest → IsRun slots r.owner r.name rest at r.last → slice_get (spans_from slots (suc rest) at) left ≡ wanted →
        IsReading slots (left - 1) (slot_at slots at).next wanted
    on zero rest m e run found = absurd (omega arith)
    on (suc n) zero m e run found = absurd (omega arith)
    on (suc n) (suc rest) m e run found =
        let same : suc n - 1 ≡ n = omega arith in
        rw same (record { owner = r.owner; name = r.name; last = r.last; inside = r.inside; rest = rest; enough = omega (arith, e); run = run.2; found = found })

pub reading_ends : (slots : List Slot) (left at : ℕ) (wanted : Option Span) → left ≡ 0 → IsReading slots left at wanted → Some (span_of (slot_at slots at)) ≡ wanted
reading_ends slots left at wanted z r = subst (λ n. slice_get (spans_from slots (suc r.rest) at) n ≡ wanted) z r.found
