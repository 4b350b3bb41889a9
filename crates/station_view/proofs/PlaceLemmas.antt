-- The place of a station: its slim pairs, the number under the root, and its coordinates as the code forms them.
use Rattle.std.proofs.Common.{◌≡◌, [], ◌∷◌, ℕ, pos, negsuc, refl, sym, subst}
use Rattle.exact.specs.Rational.{ℚ, ◌+ℚ◌, ◌*ℚ◌, ◌/ℚ◌, ◌^ℚ◌, inverse, neg_ℚ, one_ℚ, ratio, zero_ℚ, ◌≤ℚ◌}
use Rattle.exact.proofs.RationalRing.{ring, reads}
use Rattle.exact.proofs.Order.{NonNeg, gap, known, le_by, le_trans, same_sign, ◌⊕◌, ◌⊗◌}
use Rattle.exact.proofs.Bounds.{square}
use Rattle.exact.specs.Interval.{Inside, Interval, between}
use Rattle.exact.proofs.Intervals.{inside}
use Rattle.exact.proofs.Strict.{not_both, not_zero, positive_known}
use Rattle.fixed_iv.specs.Extent.{extent_of}
use Rattle.fixed_iv.specs.Holds.{Holds}
use Rattle.fixed_iv.specs.Reach.{IsGiven, IsKnown, turn_range}
use Rattle.fixed_iv.specs.declared.iv.Iv.{Iv}
use Rattle.sgp4_model.specs.Angle.{IsNear, IsPi, Pair, least_pi, part}
use Rattle.sgp4_model.specs.Degrees.{IsPairOfDegrees, radians}
use Rattle.sgp4_model.specs.Root.{IsSqrt}
use Rattle.sgp4_model.specs.StationPlace.{IsStationPlace}
use Rattle.sgp4_model.specs.Vector.{Vector}
use Rattle.sgp4_model.specs.Wgs72.{earth_radius_km}
use Rattle.sgp4_model.specs.Wgs84.{axes_squared, equator_km}
use Rattle.sgp4_model.proofs.OwnPair.{own_pair, own_pair_holds}
use Rattle.sgp4_model.proofs.RootExists.{square_root_exists}
use Rattle.sgp4_model.proofs.Pythagoras.{sine_pairs_are_bounded, squares_add_up_to_one}
use Rattle.station_view.specs.Spot.{AreSlim, EnclosePair, IsNoWider}
use Rattle.station_view.proofs.DegreeLemmas.{some_pi}

-- ---- sines and cosines
pub in_turn : (z : ℚ) → IsNear (part 60 +ℚ one_ℚ) z zero_ℚ → Inside turn_range z
unfolding ratio
in_turn z h = record { low = low; high = high }
  where
    low : ratio (negsuc 100000) 100000 ≤ℚ z
    low = le_by (z ∷ []) (gap h.below ⊕ known 36028797018960843 3602879701896396800000) (search reads depth 90) tt

    high : z ≤ℚ ratio (pos 100001) 100000
    high = le_by (z ∷ []) (gap h.above ⊕ known 36028797018960843 3602879701896396800000) (search reads depth 90) tt

pub slim_sine : {degrees p : ℚ} {pair : Pair} {sines cosines : Iv} → EnclosePair degrees sines cosines → AreSlim sines cosines → IsPi p → IsPairOfDegrees p degrees pair → IsGiven sines pair.sine turn_range 64
slim_sine {pair = pair} e slim pi is = record {
  holds = (e.hold _ pair pi is).0;
  bounded = e.narrow_sines.bounded;
  within = slim.first;
  inside = in_turn pair.sine (sine_pairs_are_bounded _ _ _ _ pi is).0;
}

pub slim_cosine : {degrees p : ℚ} {pair : Pair} {sines cosines : Iv} → EnclosePair degrees sines cosines → AreSlim sines cosines → IsPi p → IsPairOfDegrees p degrees pair → IsGiven cosines pair.cosine turn_range 64
slim_cosine {pair = pair} e slim pi is = record {
  holds = (e.hold _ pair pi is).1;
  bounded = e.narrow_cosines.bounded;
  within = slim.second;
  inside = in_turn pair.cosine (sine_pairs_are_bounded _ _ _ _ pi is).1;
}

-- ---- under the root
pub axes_are : ratio (pos 88361856960383362414969) 88957371407509362414969 ≡ axes_squared
axes_are = ring [] (search reads depth 90) tt

pub under_root_least : {p : ℚ} (x : ℚ) (pair : Pair) → IsPi p → IsPairOfDegrees p x pair → ratio (pos 993) 1000 ≤ℚ pair.cosine *ℚ pair.cosine +ℚ axes_squared *ℚ (pair.sine *ℚ pair.sine)
under_root_least x pair pi is = on pair.sine pair.cosine (squares_add_up_to_one _ _ _ _ pi is)
  where
    on : (s c : ℚ) → IsNear (part 58) (s *ℚ s +ℚ c *ℚ c) one_ℚ → ratio (pos 993) 1000 ≤ℚ c *ℚ c +ℚ axes_squared *ℚ (s *ℚ s)
    on s c h = le_by (s ∷ c ∷ []) (known 88361856960383362414969 88957371407509362414969 ⊗ gap h.below ⊕ known 595514447126000000000 88957371407509362414969 ⊗ square c ⊕ known 326506802369663828474672193298607329273 1068342359260581279594823456943624945664000) (search reads depth 90) tt

pub under_root_most : {p : ℚ} (x : ℚ) (pair : Pair) → IsPi p → IsPairOfDegrees p x pair → pair.cosine *ℚ pair.cosine +ℚ axes_squared *ℚ (pair.sine *ℚ pair.sine) ≤ℚ ratio (pos 1001) 1000
under_root_most x pair pi is = on pair.sine pair.cosine (squares_add_up_to_one _ _ _ _ pi is)
  where
    on : (s c : ℚ) → IsNear (part 58) (s *ℚ s +ℚ c *ℚ c) one_ℚ → c *ℚ c +ℚ axes_squared *ℚ (s *ℚ s) ≤ℚ ratio (pos 1001) 1000
    on s c h = le_by (s ∷ c ∷ []) (gap h.above ⊕ known 595514447126000000000 88957371407509362414969 ⊗ square s ⊕ known 36028797018963843 36028797018963968000) (search reads depth 90) tt

pub under_root : {p : ℚ} (x : ℚ) (pair : Pair) → IsPi p → IsPairOfDegrees p x pair →
    Inside (between (pos 993) 1000 (pos 1001) 1000) (pair.cosine *ℚ pair.cosine +ℚ axes_squared *ℚ (pair.sine *ℚ pair.sine))
under_root x pair pi is = inside (pos 993) 1000 (pos 1001) 1000 (under_root_least x pair pi is) (under_root_most x pair pi is)

pub under_root_is : (s c : ℚ) → c ^ℚ 2 +ℚ axes_squared *ℚ s ^ℚ 2 ≡ c *ℚ c +ℚ axes_squared *ℚ (s *ℚ s)
under_root_is s c = ring (s ∷ c ∷ []) (search reads depth 90) tt

-- ---- the coordinates
pub level_is : (e c h f l r : ℚ) → (e *ℚ c +ℚ h) *ℚ f *ℚ l /ℚ r ≡ (e *ℚ c +ℚ h) *ℚ f /ℚ r *ℚ l
level_is e c h f l r = ring (e ∷ c ∷ h ∷ f ∷ l ∷ inverse r ∷ []) (search reads depth 90) tt

pub axial_is : (e a c h f r : ℚ) → (e *ℚ a *ℚ c +ℚ h) *ℚ f /ℚ r ≡ (e *ℚ c *ℚ a +ℚ h) *ℚ f /ℚ r
axial_is e a c h f r = ring (e ∷ a ∷ c ∷ h ∷ f ∷ inverse r ∷ []) (search reads depth 90) tt

-- an Earth radius divides
pub radius_divides : ¬ (ratio (pos 6378135) 1000 ≡ zero_ℚ)
radius_divides = not_zero (positive_known 6378134 1000)

-- ---- a station has a place
abbrev pub own : ℚ → Pair
own degrees = own_pair least_pi (radians least_pi degrees)

pub own_is : (degrees : ℚ) → IsPairOfDegrees least_pi degrees (own degrees)
own_is degrees = own_pair_holds some_pi (radians least_pi degrees)

root_divides : {x r : ℚ} → ratio (pos 993) 1000 ≤ℚ x → IsSqrt x r → ¬ (r ≡ zero_ℚ)
root_divides {x} {r} least is e =
    let near : x ≤ℚ zero_ℚ *ℚ zero_ℚ +ℚ part 60 = subst (λ t. x ≤ℚ t *ℚ t +ℚ part 60) e is.square.below in
    not_both (positive_known 0 1) (of_opposite (le_by (x ∷ []) (known 2 1 ⊗ (gap least ⊕ gap near) ⊕ known 71048787721396944771 72057594037927936000) (search reads depth 90) tt))
  where
    of_opposite : ratio (pos 1) 1 ≤ℚ zero_ℚ → NonNeg (neg_ℚ (ratio (pos 1) 1))
    of_opposite h = same_sign (ring [] (search reads depth 90) tt) (gap h)

pub record SomePlace (lat lon : Pair) (height : ℚ) : Type 0 where
  pub place : Vector
  pub is : IsStationPlace lat lon height place

pub some_place : {p : ℚ} (x : ℚ) (lat lon : Pair) (height : ℚ) → IsPi p → IsPairOfDegrees p x lat → SomePlace lat lon height
some_place x lat lon height pi is =
    let least = under_root_least x lat pi is in
    let found = square_root_exists _ (le_trans (le_by [] (known 993 1000) (search reads depth 90) tt) least) in
    record {
      place = record {
        x = (equator_km *ℚ (one_ℚ /ℚ found.0) +ℚ height) *ℚ lat.cosine *ℚ lon.cosine /ℚ earth_radius_km;
        y = (equator_km *ℚ (one_ℚ /ℚ found.0) +ℚ height) *ℚ lat.cosine *ℚ lon.sine /ℚ earth_radius_km;
        z = (equator_km *ℚ axes_squared *ℚ (one_ℚ /ℚ found.0) +ℚ height) *ℚ lat.sine /ℚ earth_radius_km;
      };
      is = record {
        root = found.0;
        c = one_ℚ /ℚ found.0;
        root_is = subst (λ t. IsSqrt t found.0) (sym (under_root_is lat.sine lat.cosine)) found.1;
        root_divides = root_divides least found.1;
        c_is = refl;
        x = refl;
        y = refl;
        z = refl;
      };
    }

-- ---- widths
pub no_wider : {v : Iv} {x : ℚ} {i : Interval} {n : ℕ} → IsKnown (extent_of v) x i n → IsNoWider n v
no_wider k = record { bounded = k.measured.bounded; width = k.narrow }

pub given_by : {v : Iv} {x : ℚ} {i : Interval} {n : ℕ} → Holds v x → IsKnown (extent_of v) x i n → IsGiven v x i n
given_by h k = record { holds = h; bounded = k.measured.bounded; within = k.narrow; inside = k.inside }
