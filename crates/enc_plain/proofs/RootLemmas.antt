-- Intervals of square roots, and of cube roots of squares, are as narrow as the rules say.
use Rattle.std.proofs.Common.{◌≡◌, refl, sym, subst, arith, zero, suc, ℕ, ◌+◌, ◌-◌, ◌*◌, ◌<◌, ◌≤◌, ℤ, pos, negsuc, ◌+ℤ◌, ◌-ℤ◌, ◌*ℤ◌, ◌≤ℤ◌, unsigned_abs, le_refl}
use Rattle.std.proofs.Math.Nat.{mul-le-mul}
use Rattle.std.proofs.lemmas.Int.{ints, by_lt_z}
use Rattle.fixed_iv.specs.Extent.{extent_of, width_of}
use Rattle.fixed_iv.specs.Holds.{IsBounded}
use Rattle.fixed_iv.specs.Narrow.{IsNarrowRoot}
use Rattle.fixed_iv.specs.declared.iv.Iv.{Iv}
use Rattle.fixed_iv.proofs.NarrowLemmas.{narrow_by}
use Rattle.fixed_iv.proofs.OuterLemmas.{width_is}
use Rattle.root_enc.specs.Roots.{AreNearSquareRoots}

-- x is at most y, or y is past x by some more
pub by_more : {P : Type 0} (x y : ℕ) → (y ≤ x → P) → ((d : ℕ) → y ≡ x + d → 0 < d → P) → P
by_more x y f g = by_lt_z (pos x) (pos y) (λ l. g (y - x) (omega (arith, ints, l)) (omega (arith, ints, l))) (λ l. f (omega (arith, ints, l)))

-- ---- square roots: p is the lower end and two units, q the upper end less two; a and w the argument's lower end and width
square_gap : (a w p d : ℕ) → a * 281474976710656 ≤ p * p → (p + d) * (p + d) ≤ (a + w) * 281474976710656 → 2 * p * d ≤ w * 281474976710656
square_gap a w p d h k = omega (arith, h, k)

square_from : (a p : ℕ) → 4398046511104 ≤ a → a * 281474976710656 ≤ p * p → 35184372088832 ≤ p
square_from a p h k = by_more 35184372088831 p (λ l. absurd (far l)) (λ d e g. omega (arith, e, g))
  where
    far : p ≤ 35184372088831 → ⊥
    far l = let m = mul-le-mul l l in omega (arith, m, h, k)

square_width : (a w p q n : ℕ) → 4398046511104 ≤ a → n + p ≡ q + 4 → a * 281474976710656 ≤ p * p → q * q ≤ (a + w) * 281474976710656 → n ≤ 4 * w + 6
square_width a w p q n o e h k =
    by_more p q (λ l. omega (arith, e, l))
    (λ d f _. near d (mul-le-mul (square_from a p o h) (le_refl d)) (square_gap a w p d h (subst (λ t. t * t ≤ (a + w) * 281474976710656) f k)) (omega (arith, e, f)))
  where
    near : (d : ℕ) → 35184372088832 * d ≤ p * d → 2 * p * d ≤ w * 281474976710656 → n ≡ d + 4 → n ≤ 4 * w + 6
    near d f g i = omega (arith, f, g, i)

square_part : (a w low q n : ℕ) → n + (low + 2) ≡ q + 4 → a * 281474976710656 ≤ (low + 2) * (low + 2) → q * q ≤ (a + w) * 281474976710656 →
    n * (2 * low) ≤ w * 281474976710656 + 6 * (2 * low)
square_part a w low q n e h k =
    by_more (low + 2) q (λ l. few (omega (arith, e, l)))
    (λ d f _. near d (square_gap a w (low + 2) d h (subst (λ t. t * t ≤ (a + w) * 281474976710656) f k)) (omega (arith, e, f)))
  where
    few : n ≤ 4 → n * (2 * low) ≤ w * 281474976710656 + 6 * (2 * low)
    few l = let m = mul-le-mul l (le_refl (2 * low)) in omega (arith, m)

    near : (d : ℕ) → 2 * (low + 2) * d ≤ w * 281474976710656 → n ≡ d + 4 → n * (2 * low) ≤ w * 281474976710656 + 6 * (2 * low)
    near d g i = subst (λ t. t * (2 * low) ≤ w * 281474976710656 + 6 * (2 * low)) (sym i) (omega (arith, g))

-- ---- from whole numbers to natural ones
-- the ends as natural numbers
pub record IsRootCase (first last low high : ℤ) (w n a p q : ℕ) : Type 0 where
  pub first_is : first ≡ pos a
  pub last_is : last ≡ pos (a + w)
  pub low_is : low +ℤ pos 2 ≡ pos p
  pub high_is : high -ℤ pos 2 ≡ pos q
  pub width : n + p ≡ q + 4

pub root_case : (first last low high : ℤ) (w n : ℕ) → pos w ≡ last -ℤ first → pos n ≡ high -ℤ low → pos 0 ≤ℤ first → pos 0 ≤ℤ low → pos 2 ≤ℤ high →
    IsRootCase first last low high w n (unsigned_abs first) (unsigned_abs (low +ℤ pos 2)) (unsigned_abs (high -ℤ pos 2))
root_case (pos a) last (pos l) (pos (suc (suc h))) w n e f o p q = record {
  first_is = refl;
  last_is = omega (arith, ints, e);
  low_is = refl;
  high_is = omega (arith, ints);
  width = omega (arith, ints, f);
}
root_case (pos a) last (pos l) (pos (suc zero)) w n e f o p q = absurd (omega (arith, ints, q))
root_case (pos a) last (pos l) (pos zero) w n e f o p q = absurd (omega (arith, ints, q))
root_case (pos a) last (pos l) (negsuc h) w n e f o p q = absurd (omega (arith, ints, q))
root_case (pos a) last (negsuc l) high w n e f o p q = absurd (omega (arith, ints, p))
root_case (negsuc a) last low high w n e f o p q = absurd (omega (arith, ints, o))

-- a square that is not past the end, less or more by the tolerance
below_square : {x y : ℤ} (a t p : ℕ) → x ≡ pos a → y ≡ pos p → (x *ℤ pos 281474976710656 +ℤ pos t) ≤ℤ (y *ℤ y) → a * 281474976710656 ≤ p * p
below_square a t p e f h = let k : (pos a *ℤ pos 281474976710656 +ℤ pos t) ≤ℤ (pos p *ℤ pos p) = rw (e, f) at h in omega (arith, ints, k)

square_below : {x y : ℤ} (b t q : ℕ) → x ≡ pos b → y ≡ pos q → (y *ℤ y) ≤ℤ (x *ℤ pos 281474976710656 -ℤ pos t) → q * q ≤ b * 281474976710656
square_below b t q e f h = let k : (pos q *ℤ pos q) ≤ℤ (pos b *ℤ pos 281474976710656 -ℤ pos t) = rw (e, f) at h in omega (arith, ints, k)

pub sqrt_narrow : {a v : Iv} → (IsBounded a → pos 68719476736 ≤ℤ a.lo → AreNearSquareRoots a v) → IsNarrowRoot (extent_of a) (extent_of v)
sqrt_narrow {a} {v} near = record {
  from_64th = narrow_by v (λ m _. (near m.0.bounded (omega (arith, ints, m.1))).bounded)
      (λ m _. let n = near m.0.bounded (omega (arith, ints, m.1)) in let c = case n (omega (arith, ints, m.1)) in
      square_width _ (width_of a) _ _ (width_of v) (big m.1 c) c.width (below_square _ 68719476736 _ c.first_is c.low_is n.low_square) (square_below _ 68719476736 _ c.last_is c.high_is n.high_square));
  from_4096th = narrow_by v (λ m _. (near m.0.bounded m.1).bounded)
      (λ m _ low e. let n = near m.0.bounded m.1 in let c = case n (omega (arith, ints, m.1)) in
      let p = same low e c in
      square_part _ (width_of a) low _ (width_of v) (subst (λ t. width_of v + t ≡ unsigned_abs (v.hi -ℤ pos 2) + 4) p c.width)
      (subst (λ t. unsigned_abs a.lo * 281474976710656 ≤ t * t) p (below_square _ 68719476736 _ c.first_is c.low_is n.low_square)) (square_below _ 68719476736 _ c.last_is c.high_is n.high_square));
  low_end = λ m l. let n = near m.bounded l in record { sign = n.low_sign; square = omega (arith, ints, n.low_square) };
}
  where
    case : AreNearSquareRoots a v → pos 0 ≤ℤ a.lo → IsRootCase a.lo a.hi v.lo v.hi (width_of a) (width_of v) (unsigned_abs a.lo) (unsigned_abs (v.lo +ℤ pos 2)) (unsigned_abs (v.hi -ℤ pos 2))
    case n o = root_case a.lo a.hi v.lo v.hi (width_of a) (width_of v) (width_is a) (width_is v) o n.low_sign n.high_sign

    big : {n p q : ℕ} → pos 4398046511104 ≤ℤ a.lo → IsRootCase a.lo a.hi v.lo v.hi (width_of a) (width_of v) n p q → 4398046511104 ≤ n
    big o c = omega (arith, ints, o, c.first_is)

    same : {n p q : ℕ} (low : ℕ) → v.lo ≡ pos low → IsRootCase a.lo a.hi v.lo v.hi (width_of a) (width_of v) n p q → p ≡ low + 2
    same low e c = omega (arith, ints, e, c.low_is)
