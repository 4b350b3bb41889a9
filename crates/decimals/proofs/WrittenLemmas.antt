-- What is read is the number that is written.
use Rattle.std.proofs.Common.{◌≡◌, arith, ℕ, zero, suc, ◌*◌, ◌/◌, ◌%◌, ◌^◌, ◌<◌, ◌≤◌, ◌==◌, Bool, true, false, nat_lt, ltb-true, ltb-false, eqb-true, Option, Some, None, Result, Ok, Err, ap, sym, refl, subst, ◌∙◌, ◌∷◌, [], unsigned_abs}
use Rattle.std.proofs.lemmas.Int.{ints, unsigned_abs-mul}
use Rattle.std.proofs.lemmas.Bool.{eqb-false}
use Rattle.std.proofs.lemmas.Nat.{div-add-mod'}
use Rattle.std.proofs.Math.Nat.{mul-mod_left}
use lib.IntN.{ℤ, pos, negsuc, ◌+ℤ◌, ◌*ℤ◌}
use lib.Signed.{◌≤ℤ◌}
use Rattle.exact.specs.Rational.{ℚ, ratio, of_int, ◌*ℚ◌, one_ℚ, ◌≤ℚ◌}
use Rattle.exact.proofs.RationalRing.{ring, reads}
use Rattle.exact.proofs.Order.{le_refl}
use Rattle.exact.proofs.Integers.{of_int_mul, ratio_is_product, le_of_int}
use Rattle.decimals.specs.declared.fault.NumFault.{NumFault}
use Rattle.decimals.specs.declared.fault.NumFault.TheVariants.{Shape, TooFine}
use Rattle.decimals.specs.Decimal.{DecimalRecord, IsDecimal, value}
use Rattle.decimals.specs.Normal.{shortest, signed, normal}
use Rattle.decimals.specs.Units.{units}
use Rattle.decimals.specs.DecimalText.{whole_quotient, scaled, of_short, of_units, as_decimal}
use Rattle.decimals.specs.WrittenNumber.{ten_to}
use Rattle.decimals.proofs.NormalLemmas.{shortest_splits, shortest_is_short}
use Rattle.decimals.proofs.UnitsLemmas.{value_by_units, normal-units, signed_times, ratio_times}
use Rattle.decimals.proofs.PowerLemmas.{power_inverse, ten_to-more}

-- ---- on the scale of 10^-18

times_scale : (a r t : ℚ) → t *ℚ r ≡ one_ℚ → (a *ℚ r) *ℚ t ≡ a
times_scale a r t e = ring (a ∷ r ∷ t ∷ []) {y = a *ℚ (t *ℚ r)} (search reads depth 90) tt ∙ ap (λ s. a *ℚ s) e ∙ ring (a ∷ []) (search reads depth 90) tt

-- a ratio by a power of ten, times that power
ratio_power : (z : ℤ) (k : ℕ) → ratio z (10 ^ k) *ℚ of_int (pos (10 ^ k)) ≡ of_int z
ratio_power z k = rw (ratio_is_product z (10 ^ k)) (times_scale (of_int z) (ratio (pos 1) (10 ^ k)) (of_int (pos (10 ^ k))) (power_inverse k))

value_units : (d : DecimalRecord) → d.places ≤ 18 → value d *ℚ of_int (pos (10 ^ 18)) ≡ of_int (units d)
value_units d h = rw (value_by_units d h) (ratio_power (units d) 18)

turned : (a t r : ℚ) → t *ℚ r ≡ one_ℚ → (a *ℚ t) *ℚ r ≡ a
turned a t r e = ring (a ∷ r ∷ t ∷ []) {y = a *ℚ (t *ℚ r)} (search reads depth 90) tt ∙ ap (λ s. a *ℚ s) e ∙ ring (a ∷ []) (search reads depth 90) tt

-- a number from its units
from_units : (x : ℚ) (z : ℤ) → of_int z ≡ x *ℚ of_int (pos (10 ^ 18)) → ratio z (10 ^ 18) ≡ x
from_units x z e =
    let scale = of_int (pos (10 ^ 18)) in
    let part = ratio (pos 1) (10 ^ 18) in
    ratio_is_product z (10 ^ 18) ∙ ap (λ t. t *ℚ part) e ∙ turned x scale part (power_inverse 18)

of_int_same : (a b : ℤ) → of_int a ≡ of_int b → a ≡ b
of_int_same a b e =
    let h : a ≤ℤ b = le_of_int (subst (λ t. of_int a ≤ℚ t) e (le_refl (of_int a))) in
    let k : b ≤ℤ a = le_of_int (subst (λ t. t ≤ℚ of_int a) e (le_refl (of_int a))) in
    omega (arith, ints)

-- ---- signs

size_of_signed : (minus : Bool) (n : ℕ) → unsigned_abs (signed minus n) ≡ n
size_of_signed true zero = refl
size_of_signed true (suc n) = refl
size_of_signed false n = refl

-- the short form is the same number
value_short : (minus : Bool) (u p : ℕ) → value (record { digits = signed minus (shortest u p).0; places = (shortest u p).1 }) ≡ ratio (signed minus u) (10 ^ p)
unfolding value
value_short minus u p =
    let short = shortest u p in
    let parts = shortest_splits u p in
    let whole : signed minus u ≡ signed minus short.0 *ℤ pos (10 ^ parts.0) = ap (signed minus) parts.1 ∙ signed_times minus short.0 (10 ^ parts.0) in
    sym (ap (λ t. ratio t (10 ^ p)) whole ∙ ap (λ t. ratio (signed minus short.0 *ℤ pos (10 ^ parts.0)) (10 ^ t)) parts.2 ∙ ratio_times (signed minus short.0) short.1 parts.0)

short_is_decimal : (minus : Bool) (u : ℕ) → (shortest u 18).0 < 10 ^ 18 → IsDecimal (record { digits = signed minus (shortest u 18).0; places = (shortest u 18).1 })
short_is_decimal minus u small =
    let short = shortest_is_short u 18 in
    let size : unsigned_abs (signed minus (shortest u 18).0) ≡ (shortest u 18).0 = size_of_signed minus (shortest u 18).0 in
    record { size = rw size small; most_places = short.places; last_digit = rw size short.last_digit }

-- a decimal of so many units has the digits of their short form
digits_of_units : (minus : Bool) (u : ℕ) (d : DecimalRecord) → IsDecimal d → units d ≡ signed minus u → (shortest u 18).0 < 10 ^ 18
digits_of_units minus u d is e =
    let own : normal (signed minus u) 18 ≡ d = ap (λ t. normal t 18) (sym e) ∙ normal-units d is in
    let size : unsigned_abs (signed minus u) ≡ u = size_of_signed minus u in
    let digits : unsigned_abs (normal (signed minus u) 18).digits ≡ (shortest (unsigned_abs (signed minus u)) 18).0 = size_of_signed _ _ in
    let same : (shortest (unsigned_abs (signed minus u)) 18).0 ≡ unsigned_abs d.digits = sym digits ∙ ap (λ t. unsigned_abs t.digits) own in
    subst (λ t. (shortest t 18).0 < 10 ^ 18) size (rw same is.size)

-- ---- scaled numbers

quotient_some : (n d u : ℕ) (t : Bool) → (n % d == 0) ≡ t → elim t [ true ↦ Some (n / d) | false ↦ None ] ≡ Some u → n ≡ u * d
quotient_some n d u true e is =
    let same : n / d ≡ u = cc in
    let whole : n % d ≡ 0 = eqb-true (n % d) 0 e in
    let parts = div-add-mod' n d in
    rw (← same) (omega (arith, parts, whole))
quotient_some n d u false e is = cc

quotient_is : (n d u : ℕ) → whole_quotient n d ≡ Some u → n ≡ u * d
unfolding whole_quotient
quotient_is n d u = quotient_some n d u (n % d == 0) refl

quotient_none : (n d q : ℕ) (t : Bool) → (n % d == 0) ≡ t → ◌≡◌ {A = Option ℕ} (elim t [ true ↦ Some (n / d) | false ↦ None ]) None → n ≡ q * d → ⊥
quotient_none n d q true e is whole = cc
quotient_none n d q false e is whole = eqb-false (n % d) 0 e (rw whole (mul-mod_left q d))

no_quotient : (n d q : ℕ) → whole_quotient n d ≡ None → n ≡ q * d → ⊥
unfolding whole_quotient
no_quotient n d q = quotient_none n d q (n % d == 0) refl

-- where n times a power is whole, it is that number
scaled_is : (minus : Bool) (n : ℕ) (e : ℤ) (u : ℕ) → scaled n e ≡ Some u → of_int (signed minus u) ≡ of_int (signed minus n) *ℚ ten_to e
unfolding ten_to
scaled_is minus n (pos up) u is =
    let same : n * 10 ^ up ≡ u = cc in
    rw (← same, signed_times minus n (10 ^ up)) (of_int_mul (signed minus n) (pos (10 ^ up)))
scaled_is minus n (negsuc down) u is =
    let parts : n ≡ u * 10 ^ suc down = quotient_is n (10 ^ suc down) u is in
    rw (parts, signed_times minus u (10 ^ suc down), of_int_mul (signed minus u) (pos (10 ^ suc down)))
    (sym (turned (of_int (signed minus u)) (of_int (pos (10 ^ suc down))) (ratio (pos 1) (10 ^ suc down)) (power_inverse (suc down))))

-- and where it is not, no whole number is
scaled_none : (minus : Bool) (n : ℕ) (e : ℤ) (z : ℤ) → scaled n e ≡ None → of_int z ≡ of_int (signed minus n) *ℚ ten_to e → ⊥
unfolding ten_to
scaled_none minus n (pos up) z none is = cc none
scaled_none minus n (negsuc down) z none is =
    let power = of_int (pos (10 ^ suc down)) in
    let whole : of_int (z *ℤ pos (10 ^ suc down)) ≡ of_int (signed minus n) =
    of_int_mul z (pos (10 ^ suc down)) ∙ ap (λ t. t *ℚ power) is ∙ times_scale (of_int (signed minus n)) (ratio (pos 1) (10 ^ suc down)) power (power_inverse (suc down)) in
    let same : z *ℤ pos (10 ^ suc down) ≡ signed minus n = of_int_same _ _ whole in
    let sizes : unsigned_abs z * 10 ^ suc down ≡ n = sym (unsigned_abs-mul z (pos (10 ^ suc down))) ∙ ap unsigned_abs same ∙ size_of_signed minus n in
    no_quotient n (10 ^ suc down) (unsigned_abs z) none (sym sizes)

-- ---- the answer

-- a decimal is the number, and too fine is a number that no decimal is
abbrev pub Answers : ℚ → Result DecimalRecord NumFault → Type 0
Answers x (Ok d) = IsDecimal d × (value d ≡ x)
Answers x (Err TooFine) = (d : DecimalRecord) → IsDecimal d → ¬ (value d ≡ x)
Answers x (Err Shape) = ⊥

units_of_value : (d : DecimalRecord) (x y : ℚ) → IsDecimal d → value d ≡ x → x *ℚ of_int (pos (10 ^ 18)) ≡ y → of_int (units d) ≡ y
units_of_value d x y is e scale = sym (value_units d is.most_places) ∙ ap (λ t. t *ℚ of_int (pos (10 ^ 18))) e ∙ scale

short_answer : (minus : Bool) (u : ℕ) (x : ℚ) → of_int (signed minus u) ≡ x *ℚ of_int (pos (10 ^ 18)) → (t : Bool) → nat_lt (shortest u 18).0 (10 ^ 18) ≡ t →
    Answers x (elim t [ true ↦ Ok (record { digits = signed minus (shortest u 18).0; places = (shortest u 18).1 }) | false ↦ Err TooFine ])
short_answer minus u x e true small =
    (short_is_decimal minus u (ltb-true (shortest u 18).0 (10 ^ 18) small), value_short minus u 18 ∙ from_units x (signed minus u) e)
short_answer minus u x e false large = λ d is same.
    let many = of_int_same (units d) (signed minus u) (units_of_value d x (of_int (signed minus u)) is same (sym e)) in
    let small = digits_of_units minus u d is many in
    let not_small = ltb-false (shortest u 18).0 (10 ^ 18) large in
    omega (arith, small, not_small)

units_answer : (minus : Bool) (n : ℕ) (e : ℤ) (x : ℚ) (units_are : Option ℕ) → scaled n e ≡ units_are → of_int (signed minus n) *ℚ ten_to e ≡ x *ℚ of_int (pos (10 ^ 18)) → Answers x (of_units minus units_are)
unfolding of_short
units_answer minus n e x (Some u) is scale = short_answer minus u x (scaled_is minus n e u is ∙ scale) (nat_lt (shortest u 18).0 (10 ^ 18)) refl
units_answer minus n e x None is scale = λ d decimal same. scaled_none minus n e (units d) is (units_of_value d x (of_int (signed minus n) *ℚ ten_to e) decimal same (sym scale))

assoc : (a b c : ℚ) → a *ℚ (b *ℚ c) ≡ (a *ℚ b) *ℚ c
assoc a b c = ring (a ∷ b ∷ c ∷ []) (search reads depth 90) tt

-- the answer is right
pub as_decimal_answers : (minus : Bool) (n : ℕ) (e : ℤ) → Answers (of_int (signed minus n) *ℚ ten_to e) (as_decimal minus n e)
unfolding as_decimal
as_decimal_answers minus n e =
    units_answer minus n (e +ℤ pos 18) (of_int (signed minus n) *ℚ ten_to e) (scaled n (e +ℤ pos 18)) refl
    (ap (λ t. of_int (signed minus n) *ℚ t) (ten_to-more e 18) ∙ assoc (of_int (signed minus n)) (ten_to e) (of_int (pos (10 ^ 18))))
