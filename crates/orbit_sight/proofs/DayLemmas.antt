-- The numbers of a day solution are small, and what an interval of the daylight product says of it.
use Rattle.std.proofs.Common.{◌≡◌, subst, arith, [], ◌∷◌, T, Bool, le_refl as nat_refl, ℕ, ◌+◌, ◌*◌, ◌<◌, ◌≤◌, ℤ, pos, negsuc, ◌≤ℤ◌}
use Rattle.std.proofs.Math.Nat.{mul-le-mul}
use Rattle.std.proofs.lemmas.Int.{ints}
use Rattle.exact.specs.Rational.{ℚ, ◌+ℚ◌, ◌-ℚ◌, ◌*ℚ◌, of_int, one_ℚ, ratio, zero_ℚ, ◌≤ℚ◌}
use Rattle.exact.proofs.RationalRing.{reads}
use Rattle.exact.proofs.Order.{NonNeg, gap, known, le_by, ◌⊕◌, ◌⊗◌}
use Rattle.exact.proofs.Integers.{of_int_is, of_int_le}
use Rattle.exact.specs.Interval.{Inside}
use Rattle.exact.proofs.Intervals.{inside}
use Rattle.fixed_iv.specs.Extent.{Extent, width_of}
use Rattle.fixed_iv.specs.Holds.{Holds, IsBounded}
use Rattle.fixed_iv.specs.Place.{Place, on_line}
use Rattle.fixed_iv.specs.Reach.{IsHeld, from_to, reach_of, turn_range}
use Rattle.fixed_iv.specs.declared.iv.Iv.{Iv}
use Rattle.fixed_iv.specs.declared.vec3.Vec3.{Vec3}
use Rattle.fixed_iv.proofs.OuterLemmas.{width_is}
use Rattle.fixed_iv.specs.EnclosedVector.{CoversVector, IsHeldVector}
use Rattle.earth_frame.specs.Spread.{IsSpreadWithin}
use Rattle.sgp4_model.specs.Angle.{IsNear, IsPi, part}
use Rattle.sgp4_model.specs.DaySolution.{EachDaySolution, GrazesHorizon, IsDaySolution}
use Rattle.sgp4_model.specs.EachSolution.{OfEach}
use Rattle.sgp4_model.specs.Sun.{IsSun}
use Rattle.sgp4_model.specs.Time.{IsWithin, Throughout, instant_of_place}
use Rattle.sgp4_model.specs.Vector.{Vector}
use Rattle.sgp4_model.proofs.DayExists.{day_solution_exists}
use Rattle.sgp4_model.proofs.Pythagoras.{sine_pairs_are_bounded}
use Rattle.orbit_sight.specs.Daylight.{direction}
use Rattle.orbit_sight.specs.Over.{cell_of, instant_on}
use Rattle.orbit_sight.proofs.LitLemmas.{on_cell}

-- ---- sines and cosines
abbrev IsTurnSize : ℚ → Type 0
IsTurnSize z = IsNear (part 60 +ℚ one_ℚ) z zero_ℚ

pub in_turn : (z : ℚ) → IsTurnSize z → Inside turn_range z
unfolding ratio
in_turn z h = record { low = low; high = high }
  where
    low : ratio (negsuc 100000) 100000 ≤ℚ z
    low = le_by (z ∷ []) (gap h.below ⊕ known 36028797018960843 3602879701896396800000) (search reads depth 90) tt

    high : z ≤ℚ ratio (pos 100001) 100000
    high = le_by (z ∷ []) (gap h.above ⊕ known 36028797018960843 3602879701896396800000) (search reads depth 90) tt

-- ---- how large the Sun's components are
in_direction : (z : ℚ) → ratio (negsuc 1000) 1000 ≤ℚ z → z ≤ℚ ratio (pos 1001) 1000 → Inside (from_to (negsuc 1000) (pos 1001) 1000 0).range z
in_direction z l h = inside (negsuc 1000) 1000 (pos 1001) 1000 l h

one_in_direction : (z : ℚ) → IsTurnSize z → Inside (from_to (negsuc 1000) (pos 1001) 1000 0).range z
one_in_direction z h =
    in_direction z
    (le_by (z ∷ []) (gap h.below ⊕ known 1152921504606845976 1152921504606846976000) (search reads depth 90) tt)
    (le_by (z ∷ []) (gap h.above ⊕ known 1152921504606845976 1152921504606846976000) (search reads depth 90) tt)

two_in_direction : (y z : ℚ) → IsTurnSize y → IsTurnSize z → Inside (from_to (negsuc 1000) (pos 1001) 1000 0).range (y *ℚ z)
two_in_direction y z h k =
    in_direction (y *ℚ z)
    (le_by (y ∷ z ∷ []) (known 1 2 ⊗ (gap h.above ⊗ gap k.above ⊕ gap h.below ⊗ gap k.below) ⊕ rest) (search reads depth 90) tt)
    (le_by (y ∷ z ∷ []) (known 1 2 ⊗ (gap h.above ⊗ gap k.below ⊕ gap h.below ⊗ gap k.above) ⊕ rest) (search reads depth 90) tt)
  where
    rest : NonNeg (ratio (pos 1001) 1000 -ℚ (part 60 +ℚ one_ℚ) *ℚ (part 60 +ℚ one_ℚ))
    rest = gap (le_by [] (known 1329227995784913567060797846586391576 1329227995784915872903807060280344576000) (search reads depth 90) tt)

-- each component is covered, and no wider than so much
pub sun_held : {A : Type 0} {C : A → Place → ℚ → Type 0} {E : A → Extent} {told : Bool} {v : Vec3 A} {h : Place} {p at : ℚ} {sun : Vector} (n : ℕ) →
    IsPi p → IsSun p at sun → CoversVector C v h sun → (T told → IsSpreadWithin n (E v.x)) → (T told → IsSpreadWithin n (E v.y)) → (T told → IsSpreadWithin n (E v.z)) →
    IsHeldVector C E told v h sun (direction n)
sun_held {sun = sun} n pi s c x y z =
    let longitude = sine_pairs_are_bounded _ _ _ _ pi s.of_longitude in
    let tilt = sine_pairs_are_bounded _ _ _ _ pi s.of_tilt in
    record {
      x = record { covers = c.x; known = λ t _. record { inside = rw s.x (one_in_direction s.longitude.cosine longitude.1); measured = (x t).measured; narrow = (x t).spread } };
      y = record { covers = c.y; known = λ t _. record { inside = rw s.y (two_in_direction s.tilt.cosine s.longitude.sine tilt.1 longitude.0); measured = (y t).measured; narrow = (y t).spread } };
      z = record { covers = c.z; known = λ t _. record { inside = rw s.z (two_in_direction s.tilt.sine s.longitude.sine tilt.0 longitude.0); measured = (z t).measured; narrow = (z t).spread } };
    }

-- ---- how large the numbers of the Earth's turn are
pub turn_is_held : {A : Type 0} {C : A → Place → ℚ → Type 0} {E : A → Extent} {told : Bool} {a : A} {h : Place} {z : ℚ} (n : ℕ) →
    IsTurnSize z → C a h z → (T told → IsSpreadWithin n (E a)) → IsHeld C E told a h z (reach_of turn_range n)
turn_is_held {z = z} n k c s = record { covers = c; known = λ t _. record { inside = in_turn z k; measured = (s t).measured; narrow = (s t).spread } }

-- a spread that goes with that of the time
pub spread_by : {m : ℕ} (k d n : ℕ) {t e : Extent} → IsSpreadWithin m t → k * m + d ≤ n → IsSpreadWithin (k * t.spread + d) e → IsSpreadWithin n e
spread_by {m} k d n {t} {e} s r h = record { measured = h.measured; spread = let g = mul-le-mul (nat_refl k) s.spread in omega (arith, g, h.spread) }

-- on a least cell
pub turn_room : 80 * 28640 + 64 ≤ 2291264
turn_room = omega arith

pub sun_room : 2 * 28640 + 256 ≤ 57536
sun_room = omega arith

-- ---- a part of a cell
-- what holds of each day solution on a part of the cell holds throughout it
pub throughout_day : (lat lon : ℚ) (start dut1 : ℤ) (fact : ℚ → Type 0) (m n a b : ℕ) → m < n → ((q : ℚ) → IsWithin a b q → IsWithin m n q) →
    ((h : Place) (x q : ℚ) → IsWithin a b q → on_line h (of_int (pos m)) (of_int (pos n)) ≡ q → IsDaySolution lat lon (instant_on (cell_of start m n) h) dut1 x → fact x) →
    Throughout a b (EachDaySolution lat lon start dut1 fact)
throughout_day lat lon start dut1 fact m n a b longer inside each q w =
    let on = on_cell start m n q longer (inside q w) in
    subst (λ z. OfEach (IsDaySolution lat lon (instant_of_place start z) dut1) fact) on.is
    (record { some = day_solution_exists lat lon (instant_on (cell_of start m n) on.at) dut1; each = λ x s. each on.at x q w on.is s })

-- ---- what an interval says
-- bounds of at most 2^25 units that hold 0
pub grazing : {v : Iv} {x : ℚ} → IsBounded v → width_of v ≤ 33554432 → v.lo ≤ℤ pos 0 → pos 0 ≤ℤ v.hi → Holds v x → GrazesHorizon x
grazing {v} {x} b w l u h =
    let most : of_int v.hi ≤ℚ ratio (pos 33554432) 1 = rw (← of_int_is (pos 33554432)) (of_int_le (omega (arith, ints, w, l, width_is v))) in
    let least : ratio (negsuc 33554431) 1 ≤ℚ of_int v.lo = rw (← of_int_is (negsuc 33554431)) (of_int_le (omega (arith, ints, w, u, width_is v))) in
    record {
      given = record {
        above = le_by (of_int v.hi ∷ x ∷ []) (known 1 281474976710656 ⊗ (gap most ⊕ gap (h.high b.high)) ⊕ known 8387608 8388608000) (search reads depth 90) tt;
        below = le_by (of_int v.lo ∷ x ∷ []) (known 1 281474976710656 ⊗ (gap least ⊕ gap (h.low b.low)) ⊕ known 8387608 8388608000) (search reads depth 90) tt;
      };
      sharp = record {
        above = le_by (of_int v.hi ∷ x ∷ []) (known 1 281474976710656 ⊗ (gap most ⊕ gap (h.high b.high))) (search reads depth 90) tt;
        below = le_by (of_int v.lo ∷ x ∷ []) (known 1 281474976710656 ⊗ (gap least ⊕ gap (h.low b.low))) (search reads depth 90) tt;
      };
    }
