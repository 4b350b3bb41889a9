-- Directions as lengths at the range 1.
use Rattle.std.proofs.Common.{◌≡◌, arith, [], ◌∷◌, sym, subst, ℕ, ◌+◌, ◌^◌, ◌≤◌, pos, ◌≤ℤ◌}
use Rattle.std.proofs.lemmas.Int.{ints}
use Rattle.exact.specs.Rational.{ℚ, ◌*ℚ◌, of_int, one_ℚ, ratio, zero_ℚ, ◌≤ℚ◌, ◌<ℚ◌}
use Rattle.exact.proofs.RationalRing.{ring, reads}
use Rattle.exact.proofs.Order.{gap, known, le_antisym, le_by, ◌⊕◌, ◌⊗◌}
use Rattle.exact.proofs.Integers.{of_int_is, of_int_le, ratio_is_product}
use Rattle.exact.proofs.Strict.{lt_by, positive_known}
use Rattle.fixed_iv.specs.Ends.{in_units}
use Rattle.fixed_iv.specs.Extent.{width_of}
use Rattle.fixed_iv.specs.Holds.{Holds, IsBounded}
use Rattle.fixed_iv.specs.Results.{IsProduct, IsResultOf}
use Rattle.fixed_iv.specs.declared.iv.Iv.{Iv}
use Rattle.fixed_iv.proofs.OuterLemmas.{width_is}
use Rattle.sgp4_model.specs.Sight.{SightRecord}
use Rattle.station_view.specs.Bounds.{AreAtMost, AreNarrowWith, HoldLengths, HoldSight, IsNarrowWith}
use Rattle.station_view.specs.Lengths.{at_range}
use Rattle.station_view.specs.declared.sector.EnclosedSector.{EnclosedSector}
use Rattle.station_view.specs.declared.vector.Lengths.{Lengths}
use Rattle.station_view.specs.declared.vector.Sight.{Sight}

pub one_above : zero_ℚ <ℚ one_ℚ
one_above = lt_by [] (positive_known 0 1) (search reads depth 90) tt

-- the lengths of a sight at the range of an interval
abbrev pub lengths_at : Sight Iv → Iv → Lengths Iv
lengths_at sight range = record { east = sight.east; north = sight.north; up = sight.up; range = range }

module _ (one : Iv) (low : one.lo ≡ pos (2 ^ 48)) (high : one.hi ≡ pos (2 ^ 48)) where
  holds_one : Holds one one_ℚ
  holds_one = record {
    low = λ _. rw (low, of_int_is (pos (2 ^ 48))) (le_by [] (known 0 1) (search reads depth 90) tt);
    high = λ _. rw (high, of_int_is (pos (2 ^ 48))) (le_by [] (known 0 1) (search reads depth 90) tt);
  }

  bounded_one : IsBounded one
  bounded_one = record { low = omega (arith, ints, low); high = omega (arith, ints, high) }

  only_one : (x : ℚ) → Holds one x → x ≡ one_ℚ
  only_one x h =
      let l : ratio (pos (2 ^ 48)) 1 ≤ℚ in_units x = rw (low, of_int_is (pos (2 ^ 48))) at (h.low bounded_one.low) in
      let g : in_units x ≤ℚ ratio (pos (2 ^ 48)) 1 = rw (high, of_int_is (pos (2 ^ 48))) at (h.high bounded_one.high) in
      le_antisym (le_by (x ∷ []) (known 1 281474976710656 ⊗ gap g) (search reads depth 90) tt) (le_by (x ∷ []) (known 1 281474976710656 ⊗ gap l) (search reads depth 90) tt)

  -- a product by 1 lies inside the interval
  inside_itself : (a product : Iv) → IsBounded a → IsProduct a one product → (a.lo ≤ℤ product.lo) × (product.hi ≤ℤ a.hi)
  inside_itself a product b is =
      (is.bounded b bounded_one).inside a (λ x r. subst (Holds a) (sym (same x r)) r.of_left)
    where
      same : (x : ℚ) (r : IsResultOf ◌*ℚ◌ a one x) → x ≡ r.left
      same x r = rw (r.is, only_one r.right r.of_right) (ring (r.left ∷ []) (search reads depth 90) tt)

pub hold_at_one : (one : Iv) {sight : Sight Iv} (v : SightRecord) → one.lo ≡ pos (2 ^ 48) → one.hi ≡ pos (2 ^ 48) → HoldSight sight v → HoldLengths (lengths_at sight one) (at_range v one_ℚ)
hold_at_one one {sight} v low high hold = record {
  east = subst (Holds sight.east) (times_one v.east) hold.east;
  north = subst (Holds sight.north) (times_one v.north) hold.north;
  up = subst (Holds sight.up) (times_one v.up) hold.up;
  range = holds_one one low high;
}
  where
    times_one : (x : ℚ) → x ≡ x *ℚ one_ℚ
    times_one x = ring (x ∷ []) (search reads depth 90) tt

-- fewer units
pub fewer : {b : ℚ} (m n : ℕ) → m ≤ n → AreAtMost b n → AreAtMost b m
fewer {b} m n less h =
    let k = rw ratio_is_product at h in
    let l = of_int_le {a = pos m} {b = pos n} (omega (arith, ints, less)) in
    rw ratio_is_product (le_by (of_int (pos m) ∷ of_int (pos n) ∷ b ∷ []) (gap k ⊕ known 1 281474976710656 ⊗ gap l) (search reads depth 90) tt)

narrower : (a product : Iv) → (a.lo ≤ℤ product.lo) × (product.hi ≤ℤ a.hi) → width_of product ≤ width_of a
narrower a product inside = omega (arith, ints, inside.0, inside.1, width_is a, width_is product)

pub narrow_at_one : (b : ℚ) (sight : Sight Iv) (one : Iv) (e : EnclosedSector) → one.lo ≡ pos (2 ^ 48) → one.hi ≡ pos (2 ^ 48) → IsNarrowWith b sight e → AreNarrowWith b (lengths_at sight one) e
narrow_at_one b sight one e low high narrow = record {
  bounded = narrow.bounded;
  floor = λ product is.
      let inside = inside_itself one low high e.sin_floor product e.floor.narrow.bounded is in
      record { low = omega (arith, ints, inside.0, e.floor.narrow.bounded.low); high = omega (arith, ints, inside.1, e.floor.narrow.bounded.high) };
  up = λ product is.
      let less = narrower e.sin_floor product (inside_itself one low high e.sin_floor product e.floor.narrow.bounded is) in
      fewer (width_of sight.up + width_of product) (width_of sight.up + width_of e.sin_floor) (omega (arith, less)) narrow.up;
  from = narrow.from;
  to = narrow.to;
}
