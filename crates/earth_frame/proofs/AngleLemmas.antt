-- The sidereal angle as the code forms it.
use Rattle.std.proofs.Common.{◌≡◌, ℕ, ◌+◌, ◌*◌, arith, [], ◌∷◌, ℤ, pos, ◌≤ℤ◌, ◌+ℤ◌}
use Rattle.std.proofs.lemmas.Int.{ints}
use Rattle.exact.specs.Rational.{ℚ, ◌+ℚ◌, ◌-ℚ◌, ◌*ℚ◌, ratio}
use Rattle.exact.proofs.RationalRing.{ring, reads}
use Rattle.exact.proofs.Order.{le_by, le_trans, gap, known, ◌⊕◌, ◌⊗◌}
use Rattle.exact.proofs.Integers.{le_of_int, of_int_is}
use Rattle.sgp4_model.specs.Angle.{IsPi, least_pi}
use Rattle.sgp4_model.specs.Sidereal.{centuries, sidereal_angle, sidereal_seconds}
use Rattle.sgp4_model.specs.Time.{instant_of_nanos}
use Rattle.fixed_iv.specs.Extent.{Extent}
use Rattle.earth_frame.specs.Spread.{IsSpreadWithin}
use Rattle.fixed_iv.specs.Holds.{Holds, IsBounded}
use Rattle.fixed_iv.specs.declared.iv.Iv.{Iv}
use Rattle.earth_frame.specs.Over.{instant_after}
use Rattle.earth_frame.specs.Slim.{IsSlim, IsSlimAt}
use Rattle.earth_frame.specs.SlowTerms.{slow_half_turns}
use Rattle.fixed_iv.proofs.OuterLemmas.{width_is}
use Rattle.earth_frame.proofs.SlimLemmas.{from_ends}

-- the half turns of the steady turn in 16,384 minutes: (983040 + 8640184.812866 * 983040 / 3155760000) / 43200
abbrev pub rate : ℚ
rate = ratio (pos 1582200092406433) 69340429687500

pub rate_holds : (v : Iv) (p : ℚ) → v.lo ≡ pos 20177369240802043 → v.hi ≡ pos 20177369240802044 → IsPi p → Holds v (p *ℚ rate)
rate_holds v p e f h = record {
  low = λ _. rw (e, of_int_is (pos 20177369240802043)) (le_by (p ∷ []) (known 111337433540424624947448512512 17335107421875 ⊗ gap h.low ⊕ known 77795257858621421531437647762554599301 84086337892586016096174716949462890625) (search reads depth 90) tt);
  high = λ _. rw (f, of_int_is (pos 20177369240802044)) (le_by (p ∷ []) (known 111337433540424624947448512512 17335107421875 ⊗ gap h.high ⊕ known 3774648020378756738518206933220137316 50451802735551609657704830169677734375) (search reads depth 90) tt);
}

-- the centuries go on in a line
step : (b : ℤ) (x : ℚ) → centuries (instant_after b x) ≡ centuries (instant_of_nanos b) +ℚ x *ℚ ratio (pos 512) 1643625
step b x = ring (instant_of_nanos b ∷ x ∷ []) (search reads depth 90) tt

-- the angle, of its terms
parts_add_up : (p j u x : ℚ) →
    p *ℚ ((ratio (pos 6731054841) 100000 +ℚ ratio (pos 3164400184812866) 1000000 *ℚ u) *ℚ ratio (pos 1) 43200
    +ℚ (u +ℚ x *ℚ ratio (pos 512) 1643625) *ℚ (u +ℚ x *ℚ ratio (pos 512) 1643625) *ℚ ratio (pos 93104) 43200000000
    -ℚ (u +ℚ x *ℚ ratio (pos 512) 1643625) *ℚ (u +ℚ x *ℚ ratio (pos 512) 1643625) *ℚ (u +ℚ x *ℚ ratio (pos 512) 1643625) *ℚ ratio (pos 62) 432000000000
    -ℚ j *ℚ ratio (pos 2) 1)
    +ℚ p *ℚ rate *ℚ x
    ≡ p *ℚ sidereal_seconds (u +ℚ x *ℚ ratio (pos 512) 1643625) *ℚ ratio (pos 1) 43200 -ℚ j *ℚ (ratio (pos 2) 1 *ℚ p)
unfolding sidereal_seconds
parts_add_up p j u x = ring (p ∷ j ∷ u ∷ x ∷ []) (search reads depth 200 fits 99999) tt

pub angle_is : (p j : ℚ) (b : ℤ) (x : ℚ) →
    p *ℚ (slow_half_turns b x -ℚ j *ℚ ratio (pos 2) 1) +ℚ p *ℚ rate *ℚ x ≡ sidereal_angle p (instant_after b x) -ℚ j *ℚ (ratio (pos 2) 1 *ℚ p)
angle_is p j b x = rw (step b x) (parts_add_up p j (centuries (instant_of_nanos b)) x)

-- the bracket has its lower end
pub least : IsPi least_pi
least = record { low = le_by [] (known 0 1) (search reads depth 90) tt; high = le_by [] (known 1 1000000000000000000000000000000000000) (search reads depth 90) tt }

-- an interval of one unit that holds pi
pub pi_slim : (w : ℕ) (v : Iv) → ((p : ℚ) → IsPi p → Holds v p) → v.hi ≡ v.lo +ℤ pos 1 → IsBounded v → IsSlim w 884279719003557 1000 0 v
pi_slim w v h e b =
    let low : v.lo ≤ℤ pos 884279719003556 = le_of_int (le_trans ((h least_pi least).low b.low) (rw (of_int_is (pos 884279719003556)) (le_by [] (known 965529257073121934828246290814468096 1000000000000000000000000000000000000) (search reads depth 90) tt))) in
    let high : pos 0 ≤ℤ v.hi = le_of_int (le_trans (rw (of_int_is (pos 0)) (le_by [] (known 884279719003555034470742926878065171753709185531904 1000000000000000000000000000000000000) (search reads depth 90) tt)) ((h least_pi least).high b.high)) in
    record {
      bounded = b;
      size = from_ends v.lo v.hi 884279719003557 v.ordered (omega (arith, ints, e, high)) (omega (arith, ints, e, low));
      width = omega (arith, ints, width_is v, e);
    }

-- the interval of the rate
pub rate_slim : (w : ℕ) (v : Iv) → v.lo ≡ pos 20177369240802043 → v.hi ≡ pos 20177369240802044 → IsSlim w 20177369240802044 1000 0 v
rate_slim w v e f = record {
  bounded = record { low = omega (arith, ints, e); high = omega (arith, ints, f) };
  size = from_ends v.lo v.hi 20177369240802044 v.ordered (omega (arith, ints, e)) (omega (arith, ints, f));
  width = omega (arith, ints, width_is v, e, f);
}

-- the spread of the angle, and of its sine or cosine
pub angle_within : {w s : ℕ} {e : Extent} → IsSlimAt w s 29070 71692 e → IsSpreadWithin (80 * w + 48) e
angle_within {w} {s} {e} h = record { measured = h.measured; spread = omega (arith, h.spread) }

-- whole turns come off half turns and off radians
pub turned_is : (p a r x j : ℚ) → p *ℚ (a -ℚ j *ℚ ratio (pos 2) 1) +ℚ p *ℚ r *ℚ x ≡ p *ℚ (a +ℚ r *ℚ x) -ℚ j *ℚ (ratio (pos 2) 1 *ℚ p)
turned_is p a r x j = ring (p ∷ a ∷ r ∷ x ∷ j ∷ []) (search reads depth 90) tt
