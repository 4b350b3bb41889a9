-- Runs of linked slots: kept by writes elsewhere, joined, and of one length.
use Rattle.std.proofs.Common.{arith, ◌≡◌, ◌≢◌, ℕ, zero, suc, ◌+◌, ◌<◌, ◌≤◌, List, [], ◌∷◌, ◌++◌, length, cond, eqb, refl, sym, ap, subst, ◌∙◌}
use Rattle.sgp4_model.specs.declared.span.Span.{Span}
use Rattle.span_pool.specs.declared.slot.Slot.{Slot}
use Rattle.span_pool.specs.Slots.{IsRun, slot_at, span_of, spans_from}

-- the slots of one owner but one keep their links and their spans, and have this owner afterwards
pub record IsKept (old new : List Slot) (owner owner' : ℕ → ℕ) (name name' but : ℕ) : Type 0 where
  pub longer : length old ≤ length new
  pub links : (i : ℕ) → i < length old → i ≢ but → owner i ≡ name → (slot_at new i).next ≡ (slot_at old i).next
  pub owners : (i : ℕ) → i < length old → i ≢ but → owner i ≡ name → owner' i ≡ name'
  pub spans : (i : ℕ) → i < length old → i ≢ but → owner i ≡ name → span_of (slot_at new i) ≡ span_of (slot_at old i)

-- no run from a slot to another is shorter than so many
abbrev pub IsOff : List Slot → (ℕ → ℕ) → ℕ → ℕ → ℕ → ℕ → Type 0
IsOff slots owner name but n to = (m : ℕ) → m < n → ¬ (IsRun slots owner name (suc m) but to)

-- a run that does not pass the slot but which its owner's slots are kept is a run afterwards
pub run_kept : (old new : List Slot) (owner owner' : ℕ → ℕ) (name name' but n from to : ℕ) → IsKept old new owner owner' name name' but →
    IsOff old owner name but n to → IsRun old owner name n from to → IsRun new owner' name' n from to
run_kept old new owner owner' name name' but zero from to k off r = r
run_kept old new owner owner' name name' but (suc n) from to k off r =
    let other : from ≢ but = λ e. off n (omega arith) (subst (λ t. IsRun old owner name (suc n) t to) e r) in
    let rest : IsRun new owner' name' n (slot_at old from).next to =
    run_kept old new owner owner' name name' but n (slot_at old from).next to k (λ m l. off m (omega (arith, l))) r.2 in
    (omega (arith, r.0, k.longer), k.owners from r.0 other r.1, subst (λ t. IsRun new owner' name' n t to) (sym (k.links from r.0 other r.1)) rest)

-- and has the same spans
pub spans_kept : (old new : List Slot) (owner owner' : ℕ → ℕ) (name name' but n from to : ℕ) → IsKept old new owner owner' name name' but →
    IsOff old owner name but n to → IsRun old owner name n from to → spans_from new n from ≡ spans_from old n from
spans_kept old new owner owner' name name' but zero from to k off r = refl
spans_kept old new owner owner' name name' but (suc n) from to k off r =
    let other : from ≢ but = λ e. off n (omega arith) (subst (λ t. IsRun old owner name (suc n) t to) e r) in
    let rest : spans_from new n (slot_at old from).next ≡ spans_from old n (slot_at old from).next =
    spans_kept old new owner owner' name name' but n (slot_at old from).next to k (λ m l. off m (omega (arith, l))) r.2 in
    let link = k.links from r.0 other r.1 in
    let first : span_of (slot_at new from) ∷ spans_from new n (slot_at new from).next ≡ span_of (slot_at old from) ∷ spans_from new n (slot_at new from).next =
    ap (λ s. s ∷ spans_from new n (slot_at new from).next) (k.spans from r.0 other r.1) in
    first ∙ ap (λ t. span_of (slot_at old from) ∷ spans_from new n t) link ∙ ap (λ (l : List Span). span_of (slot_at old from) ∷ l) rest

-- a run and one more slot
pub run_snoc : (slots : List Slot) (owner : ℕ → ℕ) (name n from to : ℕ) → IsRun slots owner name n from to → to < length slots → owner to ≡ name →
    IsRun slots owner name (suc n) from (slot_at slots to).next
run_snoc slots owner name zero from to r l o = subst (λ t. IsRun slots owner name 1 t (slot_at slots to).next) (sym r) (l, o, refl)
run_snoc slots owner name (suc n) from to r l o = (r.0, r.1, run_snoc slots owner name n (slot_at slots from).next to r.2 l o)

-- and its spans
pub spans_snoc : (slots : List Slot) (owner : ℕ → ℕ) (name n from to : ℕ) → IsRun slots owner name n from to →
    spans_from slots (suc n) from ≡ spans_from slots n from ++ span_of (slot_at slots to) ∷ []
spans_snoc slots owner name zero from to r = ap (λ t. span_of (slot_at slots t) ∷ []) r
spans_snoc slots owner name (suc n) from to r =
    ap (λ (l : List Span). span_of (slot_at slots from) ∷ l) (spans_snoc slots owner name n (slot_at slots from).next to r.2)

-- two runs that meet
pub run_append : (slots : List Slot) (owner : ℕ → ℕ) (name m n from middle to : ℕ) → IsRun slots owner name m from middle → IsRun slots owner name n middle to →
    IsRun slots owner name (m + n) from to
run_append slots owner name zero n from middle to r s =
    let e : 0 + n ≡ n = omega arith in
    rw e (subst (λ t. IsRun slots owner name n t to) (sym r) s)
run_append slots owner name (suc m) n from middle to r s =
    let e : suc m + n ≡ suc (m + n) = omega arith in
    rw e (r.0, r.1, run_append slots owner name m n (slot_at slots from).next middle to r.2 s)

-- a run that leads past all slots has one length
pub run_unique : (slots : List Slot) (owner : ℕ → ℕ) (name m n from to : ℕ) → length slots ≤ to → IsRun slots owner name m from to →
    IsRun slots owner name n from to → m ≡ n
run_unique slots owner name zero zero from to past r s = refl
run_unique slots owner name zero (suc n) from to past r s = absurd (omega (arith, past, r, s.0))
run_unique slots owner name (suc m) zero from to past r s = absurd (omega (arith, past, r.0, s))
run_unique slots owner name (suc m) (suc n) from to past r s =
    ap suc (run_unique slots owner name m n (slot_at slots from).next to past r.2 s.2)

-- a run ends where it begins, or at a slot of its owner
pub run_owner : (slots : List Slot) (owner : ℕ → ℕ) (name n from to : ℕ) → IsRun slots owner name n from to → owner to ≡ name → owner from ≡ name
run_owner slots owner name zero from to r o = subst (λ t. owner t ≡ name) (sym r) o
run_owner slots owner name (suc n) from to r o = r.1

pub run_inside : (slots : List Slot) (owner : ℕ → ℕ) (name n from to : ℕ) → IsRun slots owner name n from to → to < length slots → from < length slots
run_inside slots owner name zero from to r l = subst (λ t. t < length slots) (sym r) l
run_inside slots owner name (suc n) from to r l = r.0

pub length_spans : (slots : List Slot) (n from : ℕ) → length (spans_from slots n from) ≡ n
length_spans slots zero from = refl
length_spans slots (suc n) from = ap suc (length_spans slots n (slot_at slots from).next)

-- the owners where one slot is another's
abbrev pub put : (ℕ → ℕ) → ℕ → ℕ → ℕ → ℕ
put owner at name i = cond (eqb i at) name (owner i)

pub put_same : (owner : ℕ → ℕ) (at name : ℕ) → put owner at name at ≡ name
put_same owner at name = grind arith

pub put_other : (owner : ℕ → ℕ) (at name i : ℕ) → i ≢ at → put owner at name i ≡ owner i
put_other owner at name i e = grind (arith, e)

-- the owners where an owner's slots are free
abbrev pub freed : (ℕ → ℕ) → ℕ → ℕ → ℕ
freed owner name i = cond (eqb (owner i) name) 0 (owner i)

pub freed_same : (owner : ℕ → ℕ) (name i : ℕ) → owner i ≡ name → freed owner name i ≡ 0
freed_same owner name i e = grind (arith, e)

pub freed_other : (owner : ℕ → ℕ) (name i : ℕ) → owner i ≢ name → freed owner name i ≡ owner i
freed_other owner name i e = grind (arith, e)
