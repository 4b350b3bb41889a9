-- Whole millimetres next to the ends of an interval are bounds of the numbers that it holds.
use Rattle.std.proofs.Common.{◌≡◌, arith, [], ◌∷◌, ◌≤◌, ℕ, ℤ, pos, ◌+ℤ◌, ◌-ℤ◌, ◌*ℤ◌, ◌≤ℤ◌, ◌<ℤ◌}
use Rattle.std.proofs.lemmas.Int.{ints}
use Rattle.exact.specs.Rational.{ℚ, of_int, ratio, ◌*ℚ◌, ◌≤ℚ◌}
use Rattle.exact.proofs.RationalRing.{reads}
use Rattle.exact.proofs.Order.{gap, known, le_by, ◌⊕◌, ◌⊗◌}
use Rattle.exact.proofs.Integers.{of_int_is, of_int_le, of_int_mul}
use Rattle.fixed_iv.specs.Ends.{in_units}
use Rattle.fixed_iv.specs.Extent.{width_of}
use Rattle.fixed_iv.specs.Holds.{Holds, IsBounded}
use Rattle.fixed_iv.specs.declared.iv.Iv.{Iv}
use Rattle.fixed_iv.proofs.OuterLemmas.{width_is}
use Rattle.sat_locate.specs.Edge.{IsBetween, in_millimetres}

scaled_le : (a b : ℤ) (m n : ℤ) → (a *ℤ m) ≤ℤ (b *ℤ n) → of_int a *ℚ ratio m 1 ≤ℚ of_int b *ℚ ratio n 1
scaled_le a b m n h = rw (← of_int_is m, ← of_int_is n, ← of_int_mul a m, ← of_int_mul b n) (of_int_le h)

low_end : (x : ℚ) (low units : ℤ) → (low *ℤ pos 281474976710656) ≤ℤ (units *ℤ pos 6378135000) → of_int units ≤ℚ in_units x → of_int low ≤ℚ in_millimetres x
low_end x low units h k =
    le_by (of_int low ∷ of_int units ∷ x ∷ []) ((known 1 281474976710656 ⊗ gap (scaled_le low units (pos 281474976710656) (pos 6378135000) h)) ⊕ (known 6378135000 281474976710656 ⊗ gap k)) (search reads depth 90) tt

high_end : (x : ℚ) (high units : ℤ) → (units *ℤ pos 6378135000) ≤ℤ (high *ℤ pos 281474976710656) → in_units x ≤ℚ of_int units → in_millimetres x ≤ℚ of_int high
high_end x high units h k =
    le_by (of_int high ∷ of_int units ∷ x ∷ []) ((known 1 281474976710656 ⊗ gap (scaled_le units high (pos 6378135000) (pos 281474976710656) h)) ⊕ (known 6378135000 281474976710656 ⊗ gap k)) (search reads depth 90) tt

pub between_edges : {v : Iv} {low high : ℤ} (x : ℚ) → IsBounded v → (low *ℤ pos 281474976710656) ≤ℤ (v.lo *ℤ pos 6378135000) → (v.hi *ℤ pos 6378135000) ≤ℤ (high *ℤ pos 281474976710656) → Holds v x → IsBetween low high x
between_edges {v} {low} {high} x b l h held = record { low_end = low_end x low v.lo l (held.low b.low); high_end = high_end x high v.hi h (held.high b.high) }

-- 439,804,651 units of 2^-48 Earth radii are less than 9,967 millimetres
pub narrow_edges : (v : Iv) (low high : ℤ) → width_of v ≤ 439804651 → (v.lo *ℤ pos 6378135000) <ℤ ((low +ℤ pos 1) *ℤ pos 281474976710656) → ((high -ℤ pos 1) *ℤ pos 281474976710656) <ℤ (v.hi *ℤ pos 6378135000) →
    high ≤ℤ (low +ℤ pos 10000)
narrow_edges v low high w l h = of_ends (width_of v) v.lo v.hi (width_is v) w l h
  where
    of_ends : (n : ℕ) (lo hi : ℤ) → pos n ≡ hi -ℤ lo → n ≤ 439804651 → (lo *ℤ pos 6378135000) <ℤ ((low +ℤ pos 1) *ℤ pos 281474976710656) → ((high -ℤ pos 1) *ℤ pos 281474976710656) <ℤ (hi *ℤ pos 6378135000) → high ≤ℤ (low +ℤ pos 10000)
    of_ends n lo hi e w l h = omega (arith, ints, e, w, l, h)
