-- Each pair of a latitude, each longitude and each height have a place; and each square has a root that divides.
use Rattle.std.proofs.Common.{[], ◌∷◌, ◌^◌, refl, subst}
use Rattle.exact.specs.Rational.{ℚ, ◌+ℚ◌, ◌-ℚ◌, ◌*ℚ◌, ◌/ℚ◌, ◌^ℚ◌, neg_ℚ, one_ℚ, zero_ℚ, ◌≤ℚ◌}
use Rattle.exact.proofs.RationalRing.{ring, reads}
use Rattle.exact.proofs.Order.{NonNeg, gap, known, le_by, le_trans, same_sign, ◌⊕◌, ◌⊗◌}
use Rattle.exact.proofs.Bounds.{by_sign, square}
use Rattle.exact.proofs.Strict.{not_both, not_zero, positive_known}
use Rattle.sgp4_model.specs.Angle.{IsNear, IsPi, IsSinCos, Pair, part}
use Rattle.sgp4_model.specs.Numerals.{IsDivisor}
use Rattle.sgp4_model.specs.Root.{IsSqrt}
use Rattle.sgp4_model.specs.StationPlace.{IsStationPlace}
use Rattle.sgp4_model.specs.Vector.{Vector}
use Rattle.sgp4_model.specs.Wgs72.{earth_radius_km}
use Rattle.sgp4_model.specs.Wgs84.{axes_squared, equator_km}
use Rattle.sgp4_model.proofs.Pythagoras.{squares_add_up_to_one}
use Rattle.sgp4_model.proofs.RootExists.{square_root_exists}

-- a root of what is at least 2^-59 divides
root_divides : {x r : ℚ} → part 59 ≤ℚ x → IsSqrt x r → IsDivisor r
root_divides {x} {r} least is e =
    let near : x ≤ℚ zero_ℚ *ℚ zero_ℚ +ℚ part 60 = subst (λ t. x ≤ℚ t *ℚ t +ℚ part 60) e is.square.below in
    not_both (positive_known 0 1) (same_sign (ring (x ∷ []) (search reads depth 90) tt) (known (2 ^ 60) 1 ⊗ (gap least ⊕ gap near)))

-- 2^-30 is a root of what is at least 0 and at most 2^-59
small_root : {x : ℚ} → zero_ℚ ≤ℚ x → x ≤ℚ part 59 → IsSqrt x (part 30)
small_root {x} low high = record {
  argument = low;
  root = le_by [] (known 1 (2 ^ 30)) (search reads depth 90) tt;
  square = record {
    above = le_by (x ∷ []) (gap low) (search reads depth 90) tt;
    below = le_by (x ∷ []) (gap high) (search reads depth 90) tt;
  };
}

pub dividing_root_exists : (x : ℚ) → zero_ℚ ≤ℚ x → (r : ℚ) × (IsSqrt x r × IsDivisor r)
dividing_root_exists x low = by_sign (x -ℚ part 59) large small
  where
    large : NonNeg (x -ℚ part 59) → (r : ℚ) × (IsSqrt x r × IsDivisor r)
    large n =
        let found = square_root_exists x low in
        (found.0, (found.1, root_divides (le_by (x ∷ []) n (search reads depth 90) tt) found.1))

    small : NonNeg (neg_ℚ (x -ℚ part 59)) → (r : ℚ) × (IsSqrt x r × IsDivisor r)
    small n = (part 30, (small_root low (le_by (x ∷ []) n (search reads depth 90) tt), not_zero (positive_known 0 (2 ^ 30))))

-- the square of a vector is not below 0
pub square_not_below_0 : (v : Vector) → zero_ℚ ≤ℚ v.x *ℚ v.x +ℚ v.y *ℚ v.y +ℚ v.z *ℚ v.z
square_not_below_0 v = le_by (v.x ∷ v.y ∷ v.z ∷ []) (square v.x ⊕ square v.y ⊕ square v.z) (search reads depth 90) tt

-- ---- the place
under_root : (s c : ℚ) → IsNear (part 58) (s *ℚ s +ℚ c *ℚ c) one_ℚ → part 59 ≤ℚ c ^ℚ 2 +ℚ axes_squared *ℚ s ^ℚ 2
under_root s c h =
    le_by (s ∷ c ∷ [])
    (known 88361856960383362414969 88957371407509362414969 ⊗ gap h.below ⊕ known 595514447126000000000 88957371407509362414969 ⊗ square c ⊕ known 16979047512770029961805692703176636715655 17093477748169300473517175311097999130624)
    (search reads depth 90) tt

pub place_exists : (pi x : ℚ) (lat lon : Pair) (height : ℚ) → IsPi pi → IsSinCos pi x lat.sine lat.cosine → (place : Vector) × IsStationPlace lat lon height place
place_exists pi x lat lon height is_pi pair =
    let least = under_root lat.sine lat.cosine (squares_add_up_to_one pi x lat.sine lat.cosine is_pi pair) in
    let found = square_root_exists _ (le_trans (le_by [] (known 1 (2 ^ 59)) (search reads depth 90) tt) least) in (
      record {
        x = (equator_km *ℚ (one_ℚ /ℚ found.0) +ℚ height) *ℚ lat.cosine *ℚ lon.cosine /ℚ earth_radius_km;
        y = (equator_km *ℚ (one_ℚ /ℚ found.0) +ℚ height) *ℚ lat.cosine *ℚ lon.sine /ℚ earth_radius_km;
        z = (equator_km *ℚ axes_squared *ℚ (one_ℚ /ℚ found.0) +ℚ height) *ℚ lat.sine /ℚ earth_radius_km;
      },
      record {
        root = found.0;
        c = one_ℚ /ℚ found.0;
        root_is = found.1;
        root_divides = root_divides least found.1;
        c_is = refl;
        x = refl;
        y = refl;
        z = refl;
      },
    )
