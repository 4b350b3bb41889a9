-- Powers of ten among the exact numbers.
use Rattle.std.proofs.Common.{◌≡◌, arith, ℕ, suc, pred, ◌+◌, ◌-◌, ◌^◌, ◌<◌, ◌≤◌, Bool, true, false, nat_lt, ltb-true, ltb-false, ap, sym, refl, ◌∙◌, ◌∷◌, []}
use Rattle.std.proofs.lemmas.Int.{ints}
use Rattle.std.proofs.lemmas.Nat.{pow-add}
use Rattle.std.proofs.Math.Nat.{suc-pred-eq_of_pos}
use lib.IntN.{ℤ, pos, negsuc, ◌+ℤ◌, ◌*ℤ◌}
use Rattle.algebra.proofs.IntRing.{ring_ℤ, reads_ℤ}
use Rattle.exact.specs.Rational.{ℚ, glue, ratio, of_int, ◌*ℚ◌, one_ℚ}
use Rattle.exact.proofs.RationalRing.{ring, reads}
use Rattle.exact.proofs.Integers.{of_int_mul, ratio_is_product}
use Rattle.decimals.specs.WrittenNumber.{ten_to}
use Rattle.decimals.proofs.UnitsLemmas.{ten_pow_pos, ratio_times}

-- a power and its inverse
cancels : (a : ℤ) (b : ℤ) → a ≡ b → (a *ℤ pos 1) *ℤ pos 1 ≡ pos 1 *ℤ (pos 1 *ℤ b)
cancels a b e = rw e (ring_ℤ (b ∷ []) (search reads_ℤ depth 20) tt)

pub power_inverse : (k : ℕ) → of_int (pos (10 ^ k)) *ℚ ratio (pos 1) (10 ^ k) ≡ one_ℚ
unfolding of_int ratio ◌*ℚ◌
power_inverse k = glue _ _ (cancels (pos (10 ^ k)) (pos (suc (pred (10 ^ k)))) (ap pos (sym (suc-pred-eq_of_pos (ten_pow_pos k)))))

regroup_left : (r p q : ℚ) → p *ℚ r ≡ one_ℚ → r *ℚ (p *ℚ q) ≡ q
regroup_left r p q e = ring (r ∷ p ∷ q ∷ []) {y = (p *ℚ r) *ℚ q} (search reads depth 90) tt ∙ ap (λ t. t *ℚ q) e ∙ ring (q ∷ []) (search reads depth 90) tt

swap : (x y : ℚ) → x *ℚ y ≡ y *ℚ x
swap x y = ring (x ∷ y ∷ []) (search reads depth 90) tt

-- a power of a sum
sum_of_powers : (a b c : ℤ) → a ≡ b *ℤ c → of_int a ≡ of_int b *ℚ of_int c
sum_of_powers a b c e = rw e (of_int_mul b c)

pub ten_to-more : (e : ℤ) (k : ℕ) → ten_to (e +ℤ pos k) ≡ ten_to e *ℚ of_int (pos (10 ^ k))
unfolding ten_to
ten_to-more (pos up) k = sum_of_powers (pos (10 ^ (up + k))) (pos (10 ^ up)) (pos (10 ^ k)) (ap pos (pow-add 10 up k))
ten_to-more (negsuc down) k = less down k (nat_lt down k) refl
  where
    less : (down k : ℕ) (t : Bool) → nat_lt down k ≡ t → ten_to (negsuc down +ℤ pos k) ≡ ratio (pos 1) (10 ^ suc down) *ℚ of_int (pos (10 ^ k))
    less down k true h =
        let near : down < k = ltb-true down k h in
        let e : negsuc down +ℤ pos k ≡ pos (k - suc down) = omega (arith, ints) in
        let sum : suc down + (k - suc down) ≡ k = omega arith in
        let parts : of_int (pos (10 ^ k)) ≡ of_int (pos (10 ^ suc down)) *ℚ of_int (pos (10 ^ (k - suc down))) =
        sum_of_powers (pos (10 ^ k)) (pos (10 ^ suc down)) (pos (10 ^ (k - suc down))) (ap (λ t. pos (10 ^ t)) (sym sum) ∙ ap pos (pow-add 10 (suc down) (k - suc down))) in
        rw (e, parts) (sym (regroup_left (ratio (pos 1) (10 ^ suc down)) (of_int (pos (10 ^ suc down))) (of_int (pos (10 ^ (k - suc down)))) (power_inverse (suc down))))
    less down k false h =
        let far : k ≤ down = ltb-false down k h in
        let e : negsuc down +ℤ pos k ≡ negsuc (down - k) = omega (arith, ints) in
        let sum : suc (down - k) + k ≡ suc down = omega arith in
        let one : pos 1 *ℤ pos (10 ^ k) ≡ pos (10 ^ k) = omega (arith, ints) in
        let longer : ratio (pos 1 *ℤ pos (10 ^ k)) (10 ^ (suc (down - k) + k)) ≡ ratio (pos 1) (10 ^ suc (down - k)) = ratio_times (pos 1) (suc (down - k)) k in
        rw (e, ← longer, one, sum, ratio_is_product (pos (10 ^ k)) (10 ^ suc down)) (swap (of_int (pos (10 ^ k))) (ratio (pos 1) (10 ^ suc down)))
