-- The centuries at an instant after a base, and how large they are.
use Rattle.std.proofs.Common.{◌≡◌, ◌^◌, [], ◌∷◌, sym, ap, ◌∙◌, ℤ, pos, ◌+ℤ◌, ◌-ℤ◌}
use Rattle.exact.specs.Rational.{ℚ, ◌+ℚ◌, ◌*ℚ◌, neg_ℚ, of_int, ratio, ◌≤ℚ◌}
use Rattle.exact.proofs.RationalRing.{ring, reads}
use Rattle.exact.proofs.Order.{le_by, gap, known, ◌⊕◌, ◌⊗◌}
use Rattle.exact.proofs.Intervals.{le_on}
use Rattle.exact.proofs.Integers.{of_int_is, of_int_le, ratio_is_product}
use Rattle.civil_time.specs.Scale.{first_instant, last_instant}
use Rattle.sgp4_model.specs.Sidereal.{centuries}
use Rattle.earth_frame.specs.Offset.{IsNearInstant}
use Rattle.earth_frame.specs.Over.{instant_after}
use Rattle.earth_frame.proofs.SlimLemmas.{IsLittle}

pub centuries_are : (b : ℤ) (x : ℚ) → centuries (instant_after b x) ≡ ratio b 3155760000000000000 +ℚ x *ℚ ratio (pos 512) 1643625
centuries_are b x =
    ap (λ t. (t +ℚ x *ℚ ratio (pos 983040) 1) *ℚ ratio (pos 1) 3155760000) (ratio_is_product b 1000000000)
    ∙ ring (of_int b ∷ x ∷ []) {y = of_int b *ℚ ratio (pos 1) 3155760000000000000 +ℚ x *ℚ ratio (pos 512) 1643625} (search reads depth 90) tt
    ∙ ap (λ t. t +ℚ x *ℚ ratio (pos 512) 1643625) (sym (ratio_is_product b 3155760000000000000))

-- the centuries at a base of the years of instants
pub little_base : (b : ℤ) → IsNearInstant b → IsLittle 160600000000000 (ratio b 3155760000000000000)
little_base b h =
    let low : ratio (first_instant -ℤ pos 900000000) 1 ≤ℚ of_int b = rw (sym (of_int_is (first_instant -ℤ pos 900000000))) (of_int_le h.low) in
    let high : of_int b ≤ℚ ratio (last_instant +ℤ pos 900000000) 1 = rw (sym (of_int_is (last_instant +ℤ pos 900000000))) (of_int_le h.high) in
    rw (ratio_is_product b 3155760000000000000) (record {
      low = rw (of_int_is (pos 160600000000000)) (le_by (of_int b ∷ []) (known 281474976710656 3155760000000000000 ⊗ gap low ⊕ known 124866122429268966349209600000000 3155760000000000000) (search reads depth 90) tt);
      high = rw (of_int_is (pos 160600000000000)) (le_by (of_int b ∷ []) (known 281474976710656 3155760000000000000 ⊗ gap high ⊕ known 496516559656297293084576710656 3155760000000000000) (search reads depth 90) tt);
    })

-- a half of 16,384 minutes over a century
pub little_rate : IsLittle 88000000000 (ratio (pos 512) 1643625)
unfolding neg_ℚ of_int
little_rate = record {
  low = le_on (10 ^ 30) [] [] tt (search reads depth 90) tt;
  high = le_on (10 ^ 30) [] [] tt (search reads depth 90) tt;
}
