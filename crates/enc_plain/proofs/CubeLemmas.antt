-- Intervals of cube roots of squares are as narrow as the rule says.
use Rattle.std.proofs.Common.{◌≡◌, refl, subst, arith, [], ◌∷◌, ℕ, ◌+◌, ◌*◌, ◌≤◌, ℤ, pos, ◌+ℤ◌, ◌-ℤ◌, ◌*ℤ◌, ◌≤ℤ◌, le_refl}
use Rattle.std.proofs.Math.Nat.{mul-le-mul}
use Rattle.std.proofs.lemmas.Int.{ints}
use Rattle.exact.specs.Rational.{ℚ, ratio, at_least_0, ◌+ℚ◌, ◌*ℚ◌, neg_ℚ, zero_ℚ, ◌≤ℚ◌}
use Rattle.exact.proofs.RationalRing.{ring, reads}
use Rattle.exact.proofs.Order.{NonNeg, gap, known, le_by, same_sign, ◌⊕◌, ◌⊗◌}
use Rattle.exact.proofs.Integers.{of_int_is, of_int_le}
use Rattle.fixed_iv.specs.Extent.{extent_of, width_of}
use Rattle.fixed_iv.specs.Holds.{IsBounded}
use Rattle.fixed_iv.specs.Narrow.{IsNarrowCbrt2}
use Rattle.fixed_iv.specs.declared.iv.Iv.{Iv}
use Rattle.fixed_iv.proofs.NarrowLemmas.{narrow_by}
use Rattle.fixed_iv.proofs.OuterLemmas.{width_is}
use Rattle.fixed_iv.proofs.QuotientWidthLemmas.{natural_sign}
use Rattle.fixed_iv.proofs.WidthLemmas.{natural, natural_add, natural_mul}
use Rattle.root_enc.specs.Roots.{AreNearCubeRoots}
use Rattle.enc_plain.proofs.RootLemmas.{by_more, root_case}

-- ---- p is the lower end and two units, a the argument's lower end
cube_from : (a p : ℕ) → 4398046511104 ≤ a → a * a * 281474976710656 ≤ p * p * p → 17592186044416 ≤ p
cube_from a p h k = by_more 17592186044415 p (λ l. absurd (far l)) (λ d e g. omega (arith, e, g))
  where
    far : p ≤ 17592186044415 → ⊥
    far l = let m = mul-le-mul (mul-le-mul l l) l in let n = mul-le-mul h h in omega (arith, m, n, k)

-- a is at most four times the square of p, both as numbers: (a u)^2 is at most p^3 u, which is at most 16 p^4
cube_slope : (a p : ℕ) → 281474976710656 ≤ 16 * p → a * a * 281474976710656 ≤ p * p * p → a * 281474976710656 ≤ 4 * (p * p)
cube_slope a p h k = by_more (4 * (p * p)) (a * 281474976710656) (λ l. l) (λ d e g. absurd (far (omega (arith, e, g))))
  where
    far : 4 * (p * p) + 1 ≤ a * 281474976710656 → ⊥
    far l =
        let m = mul-le-mul l l in
        let n = mul-le-mul k (le_refl 281474976710656) in
        let o = mul-le-mul (le_refl (p * p * p)) h in
        omega (arith, m, n, o)

-- ---- that the roots grow by d, and the argument by less than a third of it, is absurd
steep : {a w p d : ℚ} → NonNeg a → NonNeg w → NonNeg p → ratio (pos 1) 1 ≤ℚ d →
    (p +ℚ d) *ℚ (p +ℚ d) *ℚ (p +ℚ d) ≤ℚ (a +ℚ w) *ℚ (a +ℚ w) *ℚ ratio (pos 281474976710656) 1 →
    a *ℚ a *ℚ ratio (pos 281474976710656) 1 ≤ℚ p *ℚ p *ℚ p → a *ℚ ratio (pos 281474976710656) 1 ≤ℚ ratio (pos 4) 1 *ℚ (p *ℚ p) →
    ratio (pos 281474976710656) 1 ≤ℚ ratio (pos 16) 1 *ℚ p → ratio (pos 3) 1 *ℚ w ≤ℚ d → ratio (pos 9) 1 ≤ℚ zero_ℚ
steep {a} {w} {p} {d} na nw np one cube low slope far small =
    le_by (a ∷ w ∷ p ∷ d ∷ [])
    (known 9 1 ⊗ gap cube ⊕ known 9 1 ⊗ gap low ⊕ known 6 1 ⊗ known 281474976710656 1 ⊗ na ⊗ gap small
    ⊕ known 281474976710656 1 ⊗ (nd ⊕ known 3 1 ⊗ nw) ⊗ gap small ⊕ known 6 1 ⊗ nd ⊗ gap slope ⊕ nd ⊗ nd ⊗ gap far
    ⊕ known 3 1 ⊗ np ⊗ np ⊗ nd ⊕ known 11 1 ⊗ np ⊗ nd ⊗ nd ⊕ known 9 1 ⊗ gap one ⊗ (nd ⊗ nd ⊕ nd ⊕ known 1 1))
    (search reads depth 90) tt
  where
    nd : NonNeg d
    nd = same_sign (ring (d ∷ []) {y = d} (search reads depth 90) tt) (gap one ⊕ known 1 1)

of_nat_le : {x y : ℕ} → x ≤ y → natural x ≤ℚ natural y
of_nat_le {x} {y} h = of_int_le {a = pos x} {b = pos y} (omega (arith, ints, h))

absurd_order : ratio (pos 9) 1 ≤ℚ zero_ℚ → ⊥
unfolding ratio at_least_0 ◌+ℚ◌ neg_ℚ
absurd_order h = h.le

abbrev cubed : ℚ → ℚ
cubed x = x *ℚ x *ℚ x

natural_cube : (x : ℕ) → natural (x * x * x) ≡ cubed (natural x)
natural_cube x = rw (natural_mul (x * x) x, natural_mul x x) refl

natural_square : (x : ℕ) → natural (x * x * 281474976710656) ≡ natural x *ℚ natural x *ℚ ratio (pos 281474976710656) 1
natural_square x = rw (natural_mul (x * x) 281474976710656, natural_mul x x, of_int_is (pos 281474976710656)) refl

cube_width : (a w p q n : ℕ) → 4398046511104 ≤ a → n + p ≡ q + 4 → a * a * 281474976710656 ≤ p * p * p → q * q * q ≤ (a + w) * (a + w) * 281474976710656 → n ≤ 3 * w + 6
cube_width a w p q n o e h k =
    by_more (3 * w + 6) n (λ l. l)
    (λ m f g. absurd (absurd_order (too_steep (3 * w + 2 + m) (omega (arith, g)) (omega (arith)) (subst (λ t. t * t * t ≤ (a + w) * (a + w) * 281474976710656) (omega (arith, e, f)) k))))
  where
    far : 281474976710656 ≤ 16 * p
    far = omega (arith, cube_from a p o h)

    too_steep : (d : ℕ) → 1 ≤ d → 3 * w ≤ d → (p + d) * (p + d) * (p + d) ≤ (a + w) * (a + w) * 281474976710656 → ratio (pos 9) 1 ≤ℚ zero_ℚ
    too_steep d one small cube =
        steep (natural_sign a) (natural_sign w) (natural_sign p)
        (rw (of_int_is (pos 1)) at (of_nat_le one))
        (rw (natural_cube (p + d), natural_add p d, natural_square (a + w), natural_add a w) at (of_nat_le cube))
        (rw (natural_square a, natural_cube p) at (of_nat_le h))
        (rw (natural_mul a 281474976710656, of_int_is (pos 281474976710656), natural_mul 4 (p * p), of_int_is (pos 4), natural_mul p p) at (of_nat_le (cube_slope a p far h)))
        (rw (of_int_is (pos 281474976710656), natural_mul 16 p, of_int_is (pos 16)) at (of_nat_le far))
        (rw (natural_mul 3 w, of_int_is (pos 3)) at (of_nat_le small))

-- ---- a cube that is not past the square of the end, less or more by the tolerance
below_cube : {x y : ℤ} (a t p : ℕ) → x ≡ pos a → y ≡ pos p → (x *ℤ x *ℤ pos 281474976710656 +ℤ pos t) ≤ℤ (y *ℤ y *ℤ y) → a * a * 281474976710656 ≤ p * p * p
below_cube a t p e f h = let k : (pos a *ℤ pos a *ℤ pos 281474976710656 +ℤ pos t) ≤ℤ (pos p *ℤ pos p *ℤ pos p) = rw (e, f) at h in omega (arith, ints, k)

cube_below : {x y : ℤ} (b t q : ℕ) → x ≡ pos b → y ≡ pos q → (y *ℤ y *ℤ y) ≤ℤ (x *ℤ x *ℤ pos 281474976710656 -ℤ pos t) → q * q * q ≤ b * b * 281474976710656
cube_below b t q e f h = let k : (pos q *ℤ pos q *ℤ pos q) ≤ℤ (pos b *ℤ pos b *ℤ pos 281474976710656 -ℤ pos t) = rw (e, f) at h in omega (arith, ints, k)

pub cbrt2_narrow : {a v : Iv} → (IsBounded a → pos 4398046511104 ≤ℤ a.lo → AreNearCubeRoots a v) → IsNarrowCbrt2 (extent_of a) (extent_of v)
cbrt2_narrow {a} {v} near =
    narrow_by v (λ m _. (near m.0.bounded m.1).bounded)
    (λ m _. let n = near m.0.bounded m.1 in
    let c = root_case a.lo a.hi v.lo v.hi (width_of a) (width_of v) (width_is a) (width_is v) (omega (arith, ints, m.1)) n.low_sign n.high_sign in
    cube_width _ (width_of a) _ _ (width_of v) (omega (arith, ints, m.1, c.first_is)) c.width
    (below_cube _ 19342813113834066795298816 _ c.first_is c.low_is n.low_cube) (cube_below _ 19342813113834066795298816 _ c.last_is c.high_is n.high_cube))
