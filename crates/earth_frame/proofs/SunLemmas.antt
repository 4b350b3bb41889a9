-- The Sun's angles as the code forms them.
use Rattle.std.proofs.Common.{◌≡◌, arith, ℕ, ◌+◌, ◌*◌, ◌^◌, [], ◌∷◌, sym, subst, ap, ◌∙◌, ℤ, pos, ◌+ℤ◌, ◌-ℤ◌, ◌*ℤ◌, to_z, of_z}
use Rattle.std.proofs.lemmas.Int.{ints}
use Rattle.std.specs.Int.{w64, w128}
use Rattle.exact.specs.Rational.{ℚ, ◌+ℚ◌, ◌-ℚ◌, ◌*ℚ◌, neg_ℚ, of_int, ratio, ◌≤ℚ◌}
use Rattle.exact.proofs.RationalRing.{ring, reads}
use Rattle.exact.proofs.Order.{le_by, gap, known, ◌⊕◌, ◌⊗◌}
use Rattle.exact.proofs.Intervals.{le_on}
use Rattle.exact.proofs.Integers.{of_int_add, of_int_is, of_int_le, of_int_mul, of_int_neg, ratio_is_product}
use Rattle.civil_time.specs.Scale.{IsInstant, first_instant, last_instant}
use Rattle.sgp4_model.specs.Degrees.{radians}
use Rattle.sgp4_model.specs.Sun.{days, obliquity, sun_longitude, sun_mean_anomaly, sun_mean_longitude}
use Rattle.sgp4_model.specs.Time.{instant_of_nanos}
use Rattle.earth_frame.specs.Over.{instant_after}
use Rattle.fixed_iv.specs.Extent.{Extent}
use Rattle.earth_frame.specs.Slim.{IsSlimAt}
use Rattle.earth_frame.specs.Spread.{IsSpreadWithin}
use Rattle.fixed_iv.specs.Place.{Place}
use Rattle.sgp4_model.specs.Angle.{IsSinCos}
use Rattle.earth_frame.specs.Covered.{CoversAngle}
use Rattle.earth_frame.proofs.HalfTurnLemmas.{less_turns}
use Rattle.earth_frame.specs.SteadyTerms.{daily_half_turns}
use Rattle.earth_frame.proofs.SlimLemmas.{IsLittle}

-- ---- the mean angles
-- the parts of a half turn at the base
pub parts : ℕ → ℕ → ℤ → ℤ
parts offset daily b = pos offset *ℤ pos 864000000000000000 +ℤ pos daily *ℤ b

pub daily_is : (offset daily : ℕ) (b : ℤ) → ratio (parts offset daily b) 155520000000000000000000 ≡ daily_half_turns offset daily b
unfolding parts
daily_is offset daily b =
    ratio_is_product (parts offset daily b) 155520000000000000000000
    ∙ ap (λ t. t *ℚ ratio (pos 1) 155520000000000000000000) (of_int_add _ _ ∙ ap (λ t. t +ℚ of_int (pos daily *ℤ b)) (of_int_mul (pos offset) (pos 864000000000000000)) ∙ ap (λ t. of_int (pos offset) *ℚ of_int (pos 864000000000000000) +ℚ t) (of_int_mul (pos daily) b))
    ∙ ap (λ t. (of_int (pos offset) *ℚ t +ℚ of_int (pos daily) *ℚ of_int b) *ℚ ratio (pos 1) 155520000000000000000000) (of_int_is (pos 864000000000000000))
    ∙ ring (of_int (pos offset) ∷ of_int (pos daily) ∷ of_int b ∷ []) {y = (of_int (pos offset) *ℚ ratio (pos 1) 1000 +ℚ of_int (pos daily) *ℚ ratio (pos 1) 10000000 *ℚ (of_int b *ℚ ratio (pos 1) 1000000000 *ℚ ratio (pos 1) 86400)) *ℚ ratio (pos 1) 180} (search reads depth 90) tt
    ∙ ap (λ t. (t +ℚ of_int (pos daily) *ℚ ratio (pos 1) 10000000 *ℚ (of_int b *ℚ ratio (pos 1) 1000000000 *ℚ ratio (pos 1) 86400)) *ℚ ratio (pos 1) 180) (sym (ratio_is_product (pos offset) 1000))
    ∙ ap (λ t. (ratio (pos offset) 1000 +ℚ t *ℚ (of_int b *ℚ ratio (pos 1) 1000000000 *ℚ ratio (pos 1) 86400)) *ℚ ratio (pos 1) 180) (sym (ratio_is_product (pos daily) 10000000))
    ∙ ap (λ t. (ratio (pos offset) 1000 +ℚ ratio (pos daily) 10000000 *ℚ (t *ℚ ratio (pos 1) 86400)) *ℚ ratio (pos 1) 180) (sym (ratio_is_product b 1000000000))

pub kept_anomaly : (b : ℤ) → IsInstant b →
    to_z w128 (of_z w128 (pos 308904192000000000000000 +ℤ to_z w128 (of_z w128 (pos 9856003 *ℤ to_z w128 (of_z w128 (to_z w64 (of_z w64 b))))))) ≡ parts 357528 9856003 b
unfolding parts
kept_anomaly b h = omega (arith, ints, h.0, h.1)

pub kept_longitude : (b : ℤ) → IsInstant b →
    to_z w128 (of_z w128 (pos 242317440000000000000000 +ℤ to_z w128 (of_z w128 (pos 9856474 *ℤ to_z w128 (of_z w128 (to_z w64 (of_z w64 b))))))) ≡ parts 280460 9856474 b
unfolding parts
kept_longitude b h = omega (arith, ints, h.0, h.1)

pub anomaly_goes_on : (p : ℚ) (b : ℤ) (x : ℚ) →
    p *ℚ (daily_half_turns 357528 9856003 b +ℚ ratio (pos 5046273536) 81000000000 *ℚ x) ≡ radians p (sun_mean_anomaly (days (instant_after b x)))
anomaly_goes_on p b x = ring (p ∷ instant_of_nanos b ∷ x ∷ []) (search reads depth 90) tt

pub longitude_goes_on : (p : ℚ) (b : ℤ) (x : ℚ) →
    p *ℚ (daily_half_turns 280460 9856474 b +ℚ ratio (pos 5046514688) 81000000000 *ℚ x) ≡ radians p (sun_mean_longitude (days (instant_after b x)))
longitude_goes_on p b x = ring (p ∷ instant_of_nanos b ∷ x ∷ []) (search reads depth 90) tt

pub anomaly_rate : IsLittle 17536637089814 (ratio (pos 5046273536) 81000000000)
unfolding neg_ℚ of_int
anomaly_rate = record {
  low = le_on (10 ^ 30) [] [] tt (search reads depth 90) tt;
  high = le_on (10 ^ 30) [] [] tt (search reads depth 90) tt;
}

pub longitude_rate : IsLittle 17536637089814 (ratio (pos 5046514688) 81000000000)
unfolding neg_ℚ of_int
longitude_rate = record {
  low = le_on (10 ^ 30) [] [] tt (search reads depth 90) tt;
  high = le_on (10 ^ 30) [] [] tt (search reads depth 90) tt;
}

-- ---- the longitude
pub twice_is : (p g j : ℚ) → (radians p g -ℚ j *ℚ (ratio (pos 2) 1 *ℚ p)) +ℚ (radians p g -ℚ j *ℚ (ratio (pos 2) 1 *ℚ p)) ≡ radians p (ratio (pos 2) 1 *ℚ g) -ℚ (j +ℚ j) *ℚ (ratio (pos 2) 1 *ℚ p)
twice_is p g j = ring (p ∷ g ∷ j ∷ []) (search reads depth 90) tt

pub longitude_is : (p d s t j : ℚ) →
    (radians p (sun_mean_longitude d) -ℚ j *ℚ (ratio (pos 2) 1 *ℚ p)) +ℚ p *ℚ ratio (pos 1915) 180000 *ℚ s +ℚ p *ℚ ratio (pos 20) 180000 *ℚ t
    ≡ radians p (sun_longitude d s t) -ℚ j *ℚ (ratio (pos 2) 1 *ℚ p)
longitude_is p d s t j = ring (p ∷ d ∷ s ∷ t ∷ j ∷ []) (search reads depth 90) tt

pub centre_rate : IsLittle 2994581002229 (ratio (pos 1915) 180000)
unfolding neg_ℚ of_int
centre_rate = record {
  low = le_on (10 ^ 30) [] [] tt (search reads depth 90) tt;
  high = le_on (10 ^ 30) [] [] tt (search reads depth 90) tt;
}

pub second_rate : IsLittle 31274997414 (ratio (pos 20) 180000)
unfolding neg_ℚ of_int
second_rate = record {
  low = le_on (10 ^ 30) [] [] tt (search reads depth 90) tt;
  high = le_on (10 ^ 30) [] [] tt (search reads depth 90) tt;
}

-- ---- the obliquity
pub tilt_parts : ℤ → ℤ
tilt_parts b = pos 20251296000000000000000 -ℤ pos 4 *ℤ b

pub kept_tilt : (b : ℤ) → IsInstant b →
    to_z w128 (of_z w128 (pos 20251296000000000000000 -ℤ to_z w128 (of_z w128 (pos 4 *ℤ to_z w128 (of_z w128 (to_z w64 (of_z w64 b))))))) ≡ tilt_parts b
unfolding tilt_parts
kept_tilt b h = omega (arith, ints, h.0, h.1)

tilt_start : (b : ℤ) → ratio (tilt_parts b) 155520000000000000000000 ≡ ratio (pos 23439) 180000 -ℚ of_int b *ℚ ratio (pos 4) 155520000000000000000000
unfolding tilt_parts
tilt_start b =
    ratio_is_product (tilt_parts b) 155520000000000000000000
    ∙ ap (λ t. t *ℚ ratio (pos 1) 155520000000000000000000) (of_int_add _ _ ∙ ap (λ t. of_int (pos 20251296000000000000000) +ℚ t) (of_int_neg (pos 4 *ℤ b) ∙ ap neg_ℚ (of_int_mul (pos 4) b)))
    ∙ ap (λ t. (t +ℚ neg_ℚ (of_int (pos 4) *ℚ of_int b)) *ℚ ratio (pos 1) 155520000000000000000000) (of_int_is (pos 20251296000000000000000))
    ∙ ap (λ t. (ratio (pos 20251296000000000000000) 1 +ℚ neg_ℚ (t *ℚ of_int b)) *ℚ ratio (pos 1) 155520000000000000000000) (of_int_is (pos 4))
    ∙ ring (of_int b ∷ []) (search reads depth 90) tt

pub tilt_goes_on : (p : ℚ) (b : ℤ) (x : ℚ) →
    p *ℚ (ratio (tilt_parts b) 155520000000000000000000 -ℚ x *ℚ ratio (pos 2048) 81000000000) ≡ radians p (obliquity (days (instant_after b x)))
tilt_goes_on p b x =
    ap (λ t. p *ℚ (t -ℚ x *ℚ ratio (pos 2048) 81000000000)) (tilt_start b)
    ∙ ring (p ∷ of_int b ∷ x ∷ []) {y = radians p (obliquity ((of_int b *ℚ ratio (pos 1) 1000000000 +ℚ x *ℚ ratio (pos 983040) 1) *ℚ ratio (pos 1) 86400))} (search reads depth 90) tt
    ∙ ap (λ t. radians p (obliquity ((t +ℚ x *ℚ ratio (pos 983040) 1) *ℚ ratio (pos 1) 86400))) (sym (ratio_is_product b 1000000000))

pub tilt_little : (b : ℤ) → IsInstant b → IsLittle 36665755813513 (ratio (tilt_parts b) 155520000000000000000000)
tilt_little b h =
    let low : ratio first_instant 1 ≤ℚ of_int b = rw (sym (of_int_is first_instant)) (of_int_le h.0) in
    let high : of_int b ≤ℚ ratio last_instant 1 = rw (sym (of_int_is last_instant)) (of_int_le h.1) in
    rw (tilt_start b) (record {
      low = rw (of_int_is (pos 36665755813513)) (le_by (of_int b ∷ []) (known 1125899906842624 155520000000000000000000 ⊗ gap high ⊕ known 339760367271941742458383163807 4634857177734375) (search reads depth 90) tt);
      high = rw (of_int_is (pos 36665755813513)) (le_by (of_int b ∷ []) (known 1125899906842624 155520000000000000000000 ⊗ gap low ⊕ known 11245804933248689 3515625) (search reads depth 90) tt);
    })

pub tilt_rate : IsLittle 7116801 (ratio (pos 2048) 81000000000)
unfolding neg_ℚ of_int
tilt_rate = record {
  low = le_on (10 ^ 30) [] [] tt (search reads depth 90) tt;
  high = le_on (10 ^ 30) [] [] tt (search reads depth 90) tt;
}

-- the spread of a number of the direction
pub sun_within : {w s : ℕ} {e : Extent} → IsSlimAt w s 122813 212 e → IsSpreadWithin (2 * w + 256) e
sun_within {w} {s} {e} h = record { measured = h.measured; spread = omega (arith, h.spread) }

pub cosine_within : {w s : ℕ} {e : Extent} → IsSlimAt w s 68199 204 e → IsSpreadWithin (2 * w + 256) e
cosine_within {w} {s} {e} h = record { measured = h.measured; spread = omega (arith, h.spread) }

-- an equal angle is covered alike
pub angle_at : {A : Type 0} {C : A → Place → ℚ → Type 0} {a : A} {h : Place} {p y z : ℚ} → y ≡ z → CoversAngle C a h p y → CoversAngle C a h p z
angle_at {C = C} {a} {h} {p} e k = subst (CoversAngle C a h p) e k

-- a pair of twice an angle is one of its double, less twice the turns
pub twice_pair : (p g : ℚ) (j : ℤ) (s c : ℚ) → IsSinCos p (radians p (ratio (pos 2) 1 *ℚ g)) s c → IsSinCos p ((radians p g -ℚ of_int j *ℚ (ratio (pos 2) 1 *ℚ p)) +ℚ (radians p g -ℚ of_int j *ℚ (ratio (pos 2) 1 *ℚ p))) s c
twice_pair p g j s c h =
    subst (λ t. IsSinCos p t s c)
    (ap (λ t. radians p (ratio (pos 2) 1 *ℚ g) -ℚ t *ℚ (ratio (pos 2) 1 *ℚ p)) (of_int_add j j) ∙ sym (twice_is p g (of_int j)))
    (less_turns p _ s c (j +ℤ j) h)
