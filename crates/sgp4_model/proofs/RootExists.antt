-- Roots exist: of the multiples of a small step, the first whose power reaches the number.
use Rattle.std.proofs.Common.{◌≡◌, arith, ap, ◌∙◌, subst, [], ◌∷◌, ℕ, suc, ◌+◌, ◌*◌, ◌-◌, ◌^◌, ◌≤◌, ℤ, pos, negsuc, ◌+ℤ◌, ◌≤ℤ◌, unsigned_abs}
use Rattle.std.proofs.lemmas.Int.{ints}
use Rattle.exact.specs.Rational.{ℚ, ◌+ℚ◌, ◌*ℚ◌, inverse, ratio, of_int, one_ℚ, zero_ℚ, neg_ℚ, at_least_0, ◌≤ℚ◌, ◌<ℚ◌}
use Rattle.exact.proofs.RationalRing.{ring, reads}
use Rattle.exact.proofs.Order.{NonNeg, ◌⊕◌, ◌⊗◌, gap, known, le_by, le_refl, not_negative}
use Rattle.exact.proofs.Bounds.{square}
use Rattle.exact.proofs.Strict.{Positive, positive_sum, positive_known, positive_inverse, positive_product, positive_weak, not_zero, mul_inverse, lt_by, le_of_lt}
use Rattle.exact.proofs.Integers.{of_int_add, of_int_mul, of_int_le, of_int_is}
use Rattle.sgp4_model.specs.Angle.{part}
use Rattle.sgp4_model.specs.Root.{IsSqrt, IsCbrt2}
use Rattle.sgp4_model.specs.RootLaws.{SquareRootExists, CubeRootExists}
use Rattle.sgp4_model.proofs.Crossing.{IsCrossing, crossing}
use Rattle.sgp4_model.proofs.Floor.{floor_ℚ, le_floor_ℚ}

-- ---- a natural number that is larger by 1 and more
natural : (n : ℕ) → NonNeg (of_int (pos n))
unfolding of_int ratio at_least_0
natural n = record { holds = tt }

abs_above : (z : ℤ) → z ≤ℤ pos (unsigned_abs z)
abs_above (pos n) = omega (arith, ints)
abs_above (negsuc n) = omega (arith, ints)

abbrev roof : ℚ → ℕ
roof x = unsigned_abs (floor_ℚ x) + 2

below_roof : (x : ℚ) → x +ℚ one_ℚ ≤ℚ of_int (pos (roof x))
below_roof x =
    rw (of_int_add (pos (unsigned_abs (floor_ℚ x))) (pos 2), of_int_is (pos 2))
    (le_by (x ∷ of_int (floor_ℚ x) ∷ of_int (pos (unsigned_abs (floor_ℚ x))) ∷ []) (gap (le_floor_ℚ x) ⊕ gap (of_int_le (abs_above (floor_ℚ x))))
    (search reads depth 90) tt)

-- ---- multiples of a step
abbrev steps : ℚ → ℕ → ℚ
steps s n = of_int (pos n) *ℚ s

no_steps : (s : ℚ) → steps s 0 ≡ zero_ℚ
no_steps s = rw (of_int_is (pos 0)) (ring (s ∷ []) (search reads depth 90) tt)

next_step : (s : ℚ) (n : ℕ) → steps s (suc n) ≡ steps s n +ℚ s
next_step s n =
    ap (λ t. of_int t *ℚ s) next
    ∙ ap (λ t. t *ℚ s) (of_int_add (pos n) (pos 1))
    ∙ ap (λ t. (of_int (pos n) +ℚ t) *ℚ s) (of_int_is (pos 1))
    ∙ ring (of_int (pos n) ∷ s ∷ []) (search reads depth 90) tt
  where
    next : pos (suc n) ≡ pos n +ℤ pos 1
    next = omega (arith, ints)

steps_within : (s c : ℚ) (n m : ℕ) → NonNeg s → steps s m ≡ c → n ≤ m → steps s n ≤ℚ c
steps_within s c n m h e k =
    subst (λ t. steps s n ≤ℚ t) e
    (le_by (s ∷ of_int (pos n) ∷ of_int (pos m) ∷ []) (gap (of_int_le up) ⊗ h) (search reads depth 90) tt)
  where
    up : pos n ≤ℤ pos m
    up = omega (arith, ints, k)

same : {x y : ℚ} → x ≡ y → x ≤ℚ y
same {x} e = subst (λ t. x ≤ℚ t) e (le_refl x)

module _ (x : ℚ) (k : ℕ) (h : NonNeg x) (roofed : x +ℚ one_ℚ ≤ℚ of_int (pos k)) where
  one : one_ℚ ≤ℚ of_int (pos k)
  one = le_by (x ∷ of_int (pos k) ∷ []) (gap roofed ⊕ h) (search reads depth 90) tt

  positive : Positive (of_int (pos k))
  positive = subst Positive (ring (of_int (pos k) ∷ []) (search reads depth 90) tt) (positive_sum (positive_known 0 1) (gap one))

  inverted : of_int (pos k) *ℚ inverse (of_int (pos k)) ≡ one_ℚ
  inverted = mul_inverse (of_int (pos k)) (not_zero positive)

-- ---- square roots
-- a step so small that the squares of two multiples that follow differ by at most 2^-60
abbrev square_step : ℚ → ℚ
square_step c = part 62 *ℚ inverse c

square_near : (x p s c : ℚ) → p *ℚ p ≤ℚ x → NonNeg s → one_ℚ ≤ℚ c → p ≤ℚ c → s *ℚ c ≤ℚ part 62 → (p +ℚ s) *ℚ (p +ℚ s) ≤ℚ x +ℚ part 60
square_near x p s c below positive one within small =
    le_by (x ∷ p ∷ s ∷ c ∷ [])
    (gap below ⊕ known 2 1 ⊗ positive ⊗ gap within ⊕ known 3 1 ⊗ gap small ⊕ known 1 (2 ^ 62) ⊕ positive ⊗ gap room)
    (search reads depth 90) tt
  where
    room : s ≤ℚ c
    room = le_by (s ∷ c ∷ []) (gap one ⊕ known (2 ^ 62 - 1) (2 ^ 62) ⊕ gap small ⊕ positive ⊗ gap one) (search reads depth 90) tt

square_far : (x s c : ℚ) → NonNeg x → NonNeg s → x +ℚ one_ℚ ≤ℚ c → one_ℚ ≤ℚ c → x ≤ℚ (c +ℚ s) *ℚ (c +ℚ s)
square_far x s c h positive roofed one =
    le_by (x ∷ s ∷ c ∷ [])
    (gap roofed ⊕ known 1 1 ⊕ (known 1 1 ⊕ gap one) ⊗ gap one ⊕ known 2 1 ⊗ (known 1 1 ⊕ gap one) ⊗ positive ⊕ positive ⊗ positive)
    (search reads depth 90) tt

square_count : (k : ℕ) → of_int (pos k) *ℚ inverse (of_int (pos k)) ≡ one_ℚ → steps (square_step (of_int (pos k))) (k * k * 2 ^ 62) ≡ of_int (pos k)
square_count k e =
    ap (λ t. t *ℚ square_step (of_int (pos k)))
    (of_int_mul (pos (k * k)) (pos (2 ^ 62)) ∙ ap (λ t. t *ℚ of_int (pos (2 ^ 62))) (of_int_mul (pos k) (pos k)) ∙ ap (λ t. of_int (pos k) *ℚ of_int (pos k) *ℚ t) (of_int_is (pos (2 ^ 62))))
    ∙ ring (of_int (pos k) ∷ inverse (of_int (pos k)) ∷ []) {y = of_int (pos k) *ℚ (of_int (pos k) *ℚ inverse (of_int (pos k)))} (search reads depth 90) tt
    ∙ ap (λ t. of_int (pos k) *ℚ t) e
    ∙ ring (of_int (pos k) ∷ []) (search reads depth 90) tt

square_small : (c : ℚ) → c *ℚ inverse c ≡ one_ℚ → square_step c *ℚ c ≤ℚ part 62
square_small c e = same (ring (c ∷ inverse c ∷ []) {y = part 62 *ℚ (c *ℚ inverse c)} (search reads depth 90) tt ∙ ap (λ t. part 62 *ℚ t) e ∙ ring [] (search reads depth 90) tt)

square_root_by : (x s c : ℚ) (n : ℕ) → NonNeg x → NonNeg s → one_ℚ ≤ℚ c → x +ℚ one_ℚ ≤ℚ c → s *ℚ c ≤ℚ part 62 → steps s n ≡ c → (r : ℚ) × IsSqrt x r
square_root_by x s c n h positive one roofed small count =
    let found = crossing (λ j. steps s j *ℚ steps s j) x n start end in
    (steps s (suc found.0), by_crossing found.0 found.1)
  where
    start : steps s 0 *ℚ steps s 0 ≤ℚ x
    start = rw (no_steps s) (le_by (x ∷ []) h (search reads depth 90) tt)

    end : x ≤ℚ steps s (suc n) *ℚ steps s (suc n)
    end = rw (next_step s n, count) (square_far x s c h positive roofed one)

    by_crossing : (j : ℕ) → IsCrossing (λ j. steps s j *ℚ steps s j) x n j → IsSqrt x (steps s (suc j))
    by_crossing j w = record {
      argument = le_by (x ∷ []) h (search reads depth 90) tt;
      root = le_by (of_int (pos (suc j)) ∷ s ∷ []) (natural (suc j) ⊗ positive) (search reads depth 90) tt;
      square =
          record {
            above = rw (next_step s j) (square_near x (steps s j) s c w.below positive one (steps_within s c j n positive count w.within) small);
            below = le_by (x ∷ steps s (suc j) ∷ []) (gap w.above ⊕ known 1 (2 ^ 60)) (search reads depth 90) tt;
          };
    }

pub square_root_exists : SquareRootExists
square_root_exists x h =
    let k : ℕ = roof x in
    let n = not_negative h in
    let roofed = below_roof x in
    let p = positive x k n roofed in
    let e = inverted x k n roofed in
    square_root_by x (square_step (of_int (pos k))) (of_int (pos k)) (k * k * 2 ^ 62) n (positive_weak (positive_product (positive_known 0 (2 ^ 62)) (positive_inverse p))) (one x k n roofed) roofed
    (square_small (of_int (pos k)) e) (square_count k e)

-- ---- cube roots of squares
-- a step so small that the cubes of two multiples that follow differ by at most 2^-60
abbrev cube_step : ℚ → ℚ
cube_step c = part 63 *ℚ (inverse c *ℚ inverse c)

cube_near : (t p s c : ℚ) → p *ℚ p *ℚ p ≤ℚ t → NonNeg p → NonNeg s → one_ℚ ≤ℚ c → p ≤ℚ c → s *ℚ c *ℚ c ≤ℚ part 63 →
    (p +ℚ s) *ℚ (p +ℚ s) *ℚ (p +ℚ s) ≤ℚ t +ℚ part 60
cube_near t p s c below from positive one within small =
    le_by (t ∷ p ∷ s ∷ c ∷ [])
    (gap below ⊕ positive ⊗ (known 3 1 ⊗ gap within ⊗ (top ⊕ from) ⊕ known 3 1 ⊗ (top ⊗ gap within ⊕ from ⊗ gap room) ⊕ gap room ⊗ (top ⊕ positive)) ⊕ known 7 1 ⊗ gap small ⊕ known 1 (2 ^ 63))
    (search reads depth 90) tt
  where
    top : NonNeg (one_ℚ +ℚ (c +ℚ neg_ℚ one_ℚ))
    top = known 1 1 ⊕ gap one

    room : s ≤ℚ c
    room =
        le_by (s ∷ c ∷ []) (gap one ⊕ known (2 ^ 63 - 1) (2 ^ 63) ⊕ gap small ⊕ positive ⊗ (gap one ⊗ top ⊕ gap one)) (search reads depth 90) tt

cube_far : (x s c : ℚ) → NonNeg x → NonNeg s → x +ℚ one_ℚ ≤ℚ c → one_ℚ ≤ℚ c → x *ℚ x ≤ℚ (c +ℚ s) *ℚ (c +ℚ s) *ℚ (c +ℚ s)
cube_far x s c h positive roofed one =
    le_by (x ∷ s ∷ c ∷ [])
    (top ⊗ top ⊗ gap one ⊕ (gap roofed ⊕ known 1 1) ⊗ (top ⊕ h) ⊕ known 3 1 ⊗ top ⊗ top ⊗ positive ⊕ known 3 1 ⊗ top ⊗ positive ⊗ positive ⊕ positive ⊗ positive ⊗ positive)
    (search reads depth 90) tt
  where
    top : NonNeg (one_ℚ +ℚ (c +ℚ neg_ℚ one_ℚ))
    top = known 1 1 ⊕ gap one

cube_count : (k : ℕ) → of_int (pos k) *ℚ inverse (of_int (pos k)) ≡ one_ℚ → steps (cube_step (of_int (pos k))) (k * k * k * 2 ^ 63) ≡ of_int (pos k)
cube_count k e =
    ap (λ t. t *ℚ cube_step (of_int (pos k)))
    (of_int_mul (pos (k * k * k)) (pos (2 ^ 63))
    ∙ ap (λ t. t *ℚ of_int (pos (2 ^ 63))) (of_int_mul (pos (k * k)) (pos k) ∙ ap (λ t. t *ℚ of_int (pos k)) (of_int_mul (pos k) (pos k)))
    ∙ ap (λ t. of_int (pos k) *ℚ of_int (pos k) *ℚ of_int (pos k) *ℚ t) (of_int_is (pos (2 ^ 63))))
    ∙ ring (of_int (pos k) ∷ inverse (of_int (pos k)) ∷ []) {y = of_int (pos k) *ℚ ((of_int (pos k) *ℚ inverse (of_int (pos k))) *ℚ (of_int (pos k) *ℚ inverse (of_int (pos k))))} (search reads depth 90) tt
    ∙ ap (λ t. of_int (pos k) *ℚ (t *ℚ t)) e
    ∙ ring (of_int (pos k) ∷ []) (search reads depth 90) tt

cube_small : (c : ℚ) → c *ℚ inverse c ≡ one_ℚ → cube_step c *ℚ c *ℚ c ≤ℚ part 63
cube_small c e =
    same
    (ring (c ∷ inverse c ∷ []) {y = part 63 *ℚ ((c *ℚ inverse c) *ℚ (c *ℚ inverse c))} (search reads depth 90) tt
    ∙ ap (λ t. part 63 *ℚ (t *ℚ t)) e
    ∙ ring [] (search reads depth 90) tt)

cube_root_by : (x s c : ℚ) (n : ℕ) → zero_ℚ <ℚ x → Positive s → one_ℚ ≤ℚ c → x +ℚ one_ℚ ≤ℚ c → s *ℚ c *ℚ c ≤ℚ part 63 → steps s n ≡ c → (r : ℚ) × IsCbrt2 x r
cube_root_by x s c n h p one roofed small count =
    let found = crossing (λ j. steps s j *ℚ steps s j *ℚ steps s j) (x *ℚ x) n start end in
    (steps s (suc found.0), by_crossing found.0 found.1)
  where
    positive : NonNeg s
    positive = positive_weak p

    start : steps s 0 *ℚ steps s 0 *ℚ steps s 0 ≤ℚ x *ℚ x
    start = rw (no_steps s) (le_by (x ∷ []) (square x) (search reads depth 90) tt)

    end : x *ℚ x ≤ℚ steps s (suc n) *ℚ steps s (suc n) *ℚ steps s (suc n)
    end = rw (next_step s n, count) (cube_far x s c (not_negative (le_of_lt h)) positive roofed one)

    by_crossing : (j : ℕ) → IsCrossing (λ j. steps s j *ℚ steps s j *ℚ steps s j) (x *ℚ x) n j → IsCbrt2 x (steps s (suc j))
    by_crossing j w = record {
      argument = h;
      root = rw (next_step s j) (lt_by (of_int (pos j) ∷ s ∷ []) (positive_sum p (natural j ⊗ positive)) (search reads depth 90) tt);
      cube =
          record {
            above = rw (next_step s j) (cube_near (x *ℚ x) (steps s j) s c w.below (natural j ⊗ positive) positive one (steps_within s c j n positive count w.within) small);
            below = le_by (x ∷ steps s (suc j) ∷ []) (gap w.above ⊕ known 1 (2 ^ 60)) (search reads depth 90) tt;
          };
    }

pub cube_root_exists : CubeRootExists
cube_root_exists x h =
    let k : ℕ = roof x in
    let n = not_negative (le_of_lt h) in
    let roofed = below_roof x in
    let p = positive x k n roofed in
    let e = inverted x k n roofed in
    cube_root_by x (cube_step (of_int (pos k))) (of_int (pos k)) (k * k * k * 2 ^ 63) h (positive_product (positive_known 0 (2 ^ 63)) (positive_product (positive_inverse p) (positive_inverse p)))
    (one x k n roofed) roofed (cube_small (of_int (pos k)) e) (cube_count k e)
