-- Contacts have one order, whatever way they are sorted.
use Rattle.std.proofs.Common.{◌≡◌, ℕ, zero, suc, ◌≤◌, ◌==◌, nat_lt, refl, sym, ap, ◌∙◌, add-one, arith, Bool, true, false, cond, if◌then◌else◌, List, [], ◌∷◌, get_or, All}
use Rattle.std.specs.Prelude.{⊤}
use Rattle.std.specs.Cmp.{IsTotalOrder, IsStrictWeakOrder}
use Rattle.std.specs.List.{sum_by}
use Rattle.std.specs.List.Sorted.{IsPermutation, IsSortedBy}
use Rattle.std.specs.Ordering.{nat_cmp, ordering_then, ordering_reverse}
use Rattle.std.specs.declared.cmp.Ordering.{Ordering}
use Rattle.std.specs.declared.cmp.Ordering.TheVariants.{Less, Equal, Greater}
use Rattle.std.proofs.Common.{eqb-true}
use Rattle.std.proofs.lemmas.Cmp.{nat_cmp_total, on_total, then_total}
use Rattle.std.proofs.lemmas.List.Elements.{All-cons, All-tail}
use Rattle.std.proofs.lemmas.List.Sums.{sum_by-cons}
use Rattle.std.proofs.lemmas.List.Sorted.{IsPermutation-refl, IsPermutation-cons, IsPermutation-trans, IsPermutation-swap, All-permutation, sum_by-IsPermutation, ranks_by, sorted_far}
use Rattle.contact_alloc.specs.declared.bid.Contact.{Contact}
use Rattle.plan_text.specs.Timetable.{order, comes_before, inserted, in_order, contacts_at, timetable}
use Rattle.plan_text.specs.TimetableLaw.{TimetablesAreInOrder}

-- the order is total
pub order_total : IsTotalOrder order
order_total =
    then_total (on_total (λ (c : Contact). c.from) nat_cmp_total)
    (then_total (on_total (λ (c : Contact). c.to) nat_cmp_total) (on_total (λ (c : Contact). c.number) nat_cmp_total))

-- contacts that compare equal are equal
same_number : (x y : ℕ) → nat_cmp x y ≡ Equal → x ≡ y
same_number x y e = by (nat_lt x y) (x == y) refl e
  where
    by : (less same : Bool) → (x == y) ≡ same → cond less Less (cond same Equal Greater) ≡ Equal → x ≡ y
    by true same p h = absurd (cc)
    by false true p h = eqb-true _ _ p
    by false false p h = absurd (cc)

-- two orders one after the other are equal where both are
both_equal : (a b : Ordering) → ordering_then a b ≡ Equal → (a ≡ Equal) × (b ≡ Equal)
both_equal Less b e = absurd (cc)
both_equal Equal b e = (refl, e)
both_equal Greater b e = absurd (cc)

-- so contacts that compare equal are
pub same_contact : (a b : Contact) → order a b ≡ Equal → a ≡ b
same_contact a b e =
    let first = both_equal (nat_cmp a.from b.from) (ordering_then (nat_cmp a.to b.to) (nat_cmp a.number b.number)) e in
    let second = both_equal (nat_cmp a.to b.to) (nat_cmp a.number b.number) first.1 in
    let from = same_number a.from b.from first.0 in
    let to = same_number a.to b.to second.0 in
    let number = same_number a.number b.number second.1 in
    λ i. record { from = from i; to = to i; number = number i }

-- none of these comes before a contact
abbrev NoneBefore : Contact → List Contact → Type 0
NoneBefore first rest = All (λ (c : Contact). comes_before c first ≡ false) rest

-- contacts rise: none comes before an earlier one
Rises : List Contact → Type 0
Rises [] = ⊤
Rises (first ∷ rest) = NoneBefore first rest × Rises rest

-- how often a contact is among others
weight_of : Ordering → ℕ
weight_of Less = 0
weight_of Equal = 1
weight_of Greater = 0

-- once, or not
abbrev weight : Contact → Contact → ℕ
weight c d = weight_of (order c d)

-- not where it compares unequal
weight_none : (o : Ordering) → ¬ (o ≡ Equal) → weight_of o ≡ 0
unfolding weight_of
weight_none Less k = refl
weight_none Equal k = absurd (k refl)
weight_none Greater k = refl

-- once where it compares equal
weight_one : weight_of Equal ≡ 1
unfolding weight_of
weight_one = refl

-- a contact compares equal with itself
order_self : (c : Contact) → order c c ≡ Equal
order_self c = by (order c c) (order_total.antisymm c c)
  where
    by : (o : Ordering) → o ≡ ordering_reverse o → o ≡ Equal
    by Less e = absurd (cc)
    by Equal e = refl
    by Greater e = absurd (cc)

-- once in itself
weight_self : (c : Contact) → weight c c ≡ 1
weight_self c = ap weight_of (order_self c) ∙ weight_one

-- never among those with which it compares unequal
count_none : (c : Contact) (list : List Contact) → All (λ d. ¬ (order c d ≡ Equal)) list → sum_by (weight c) list ≡ 0
count_none c [] h = refl
count_none c (d ∷ rest) h =
    omega (arith, sum_by-cons (weight c) d rest, weight_none (order c d) (h 0 d (omega arith)), count_none c rest (All-tail (λ e. ¬ (order c e ≡ Equal)) d rest h))

-- a contact that comes before the first is not there
not_there : (c first d : Contact) → order c first ≡ Less → comes_before d first ≡ false → ¬ (order c d ≡ Equal)
not_there c first d e h k =
    let same : order d first ≡ Less = sym (order_total.congr c d first k) ∙ e in
    let before : comes_before d first ≡ true = rw same refl in
    cc

-- so never in a list that rises from there
absent : (c first : Contact) (rest : List Contact) → order c first ≡ Less → NoneBefore first rest → sum_by (weight c) (first ∷ rest) ≡ 0
absent c first rest e h =
    count_none c (first ∷ rest) (All-cons (λ d. ¬ (order c d ≡ Equal)) first rest (λ k. cc) (λ i d k. not_there c first (get_or rest i d) e (h i d k)))

-- a contact is at least once in a list that begins with it
present : (c : Contact) (rest : List Contact) → 1 ≤ sum_by (weight c) (c ∷ rest)
present c rest = omega (arith, sum_by-cons (weight c) c rest, weight_self c)

-- the contacts of one count, and none other
abbrev CountAlike : List Contact → List Contact → Type 0
CountAlike xs ys = (c : Contact) → sum_by (weight c) xs ≡ sum_by (weight c) ys

-- rising lists that hold the same contacts as often are equal
rising_same : (xs ys : List Contact) → Rises xs → Rises ys → CountAlike xs ys → xs ≡ ys
unfolding Rises
rising_same [] [] h k e = refl
rising_same [] (y ∷ ys) h k e = absurd (omega (arith, e y, present y ys))
rising_same (x ∷ xs) [] h k e = absurd (omega (arith, e x, present x xs))
rising_same (x ∷ xs) (y ∷ ys) h k e = by (order x y) refl (rising_same xs ys h.1 k.1)
  where
    by : (o : Ordering) → order x y ≡ o → (CountAlike xs ys → xs ≡ ys) → x ∷ xs ≡ y ∷ ys
    by Less p same = absurd (omega (arith, e x, present x xs, absent x y ys p k.0))
    by Equal p same =
        let first = same_contact x y p in
        let rest : CountAlike xs ys = λ c. omega (arith, e c, sum_by-cons (weight c) x xs, sum_by-cons (weight c) y ys, ap (weight c) first) in
        rw (first, same rest) refl
    by Greater p same =
        let before : order y x ≡ Less = order_total.antisymm y x ∙ ap ordering_reverse p in
        absurd (omega (arith, e y, present y ys, absent y x xs before h.0))

-- an inserted contact only moves
inserted_moves : (c : Contact) (list : List Contact) → IsPermutation (c ∷ list) (inserted c list)
inserted_moves c [] = IsPermutation-refl (c ∷ [])
inserted_moves c (first ∷ rest) = by (comes_before first c) (inserted_moves c rest)
  where
    by : (before : Bool) → IsPermutation (c ∷ rest) (inserted c rest) → IsPermutation (c ∷ first ∷ rest) (if before then first ∷ inserted c rest else c ∷ first ∷ rest)
    by true moves = IsPermutation-trans (c ∷ first ∷ rest) (first ∷ c ∷ rest) (first ∷ inserted c rest) (IsPermutation-swap (c ∷ first ∷ rest) (first ∷ c ∷ rest) 0 1 (omega arith) (omega arith) refl) (IsPermutation-cons first (c ∷ rest) (inserted c rest) moves)
    by false moves = IsPermutation-refl (c ∷ first ∷ rest)

-- contacts in order are the contacts
pub in_order_moves : (list : List Contact) → IsPermutation list (in_order list)
in_order_moves [] = IsPermutation-refl []
in_order_moves (first ∷ rest) =
    IsPermutation-trans (first ∷ rest) (first ∷ in_order rest) (inserted first (in_order rest)) (IsPermutation-cons first rest (in_order rest) (in_order_moves rest)) (inserted_moves first (in_order rest))

-- the order as a test
weak : IsStrictWeakOrder comes_before
weak = ranks_by order_total (λ (c : Contact). c)

-- one more contact that does not come before another
none_more : (c first : Contact) (rest : List Contact) → comes_before c first ≡ false → NoneBefore c rest → NoneBefore first rest
none_more c first rest e h i d k = weak.chain (get_or rest i d) c first (h i d k) e

-- an inserted contact leaves a list rising
inserted_rises : (c : Contact) (list : List Contact) → Rises list → Rises (inserted c list)
unfolding Rises
inserted_rises c [] h = (λ i d k. absurd (omega arith), tt)
inserted_rises c (first ∷ rest) h = by (comes_before first c) refl (inserted_rises c rest h.1)
  where
    by : (before : Bool) → comes_before first c ≡ before → Rises (inserted c rest) → Rises (if before then first ∷ inserted c rest else c ∷ first ∷ rest)
    by true e rises =
        (All-permutation (λ d. comes_before d first ≡ false) (c ∷ rest) (inserted c rest) (inserted_moves c rest) (All-cons (λ d. comes_before d first ≡ false) c rest (weak.one_way first c e) h.0), rises)
    by false e rises = (All-cons (λ d. comes_before d c ≡ false) first rest e (none_more first c rest e h.0), h)

-- contacts in order rise
in_order_rises : (list : List Contact) → Rises (in_order list)
unfolding Rises
in_order_rises [] = tt
in_order_rises (first ∷ rest) = inserted_rises first (in_order rest) (in_order_rises rest)

-- a list that is sorted as std says rises
sorted_rises : (list : List Contact) → IsSortedBy comes_before list → Rises list
unfolding Rises
sorted_rises [] h = tt
sorted_rises (first ∷ rest) h =
    (λ i d k. sorted_far comes_before weak (first ∷ rest) h 0 (suc i) d (omega arith) (omega arith), sorted_rises rest (λ i d low k. let next = h (suc i) d (omega arith) (omega arith) in rw add-one (rw add-one at next)))

-- contacts that are the same ones, and sorted, are those in order
pub sorted_in_order : (list sorted : List Contact) → IsPermutation list sorted → IsSortedBy comes_before sorted → sorted ≡ in_order list
sorted_in_order list sorted moves h =
    rising_same sorted (in_order list) (sorted_rises sorted h) (in_order_rises list)
    (λ c. sum_by-IsPermutation (weight c) list sorted moves ∙ sym (sum_by-IsPermutation (weight c) list (in_order list) (in_order_moves list)))

-- a list that rises is sorted as std says
rises_sorted : (list : List Contact) → Rises list → IsSortedBy comes_before list
unfolding Rises
rises_sorted [] h k d low high = absurd (omega arith)
rises_sorted (first ∷ rest) h zero d low high = h.0 0 d (omega arith)
rises_sorted (first ∷ rest) h (suc k) d low high =
    let next = rises_sorted rest h.1 k d (omega arith) (omega arith) in
    rw add-one (rw add-one at next)

-- in order, and the only such list
pub timetables_are_in_order : TimetablesAreInOrder
unfolding timetable
timetables_are_in_order plan station =
    let contacts = contacts_at station plan.satellites in (
      record { moves = in_order_moves contacts; rises = rises_sorted (in_order contacts) (in_order_rises contacts) },
      λ list h. sorted_in_order contacts list h.moves h.rises,
    )
