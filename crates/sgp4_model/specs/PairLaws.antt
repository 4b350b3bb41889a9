-- Laws of sines and cosines, as public functions promise them.
use Rattle.std.specs.Prelude.{◌↔◌, ℤ, pos, ◌^◌}
use Rattle.exact.specs.Rational.{ℚ, ◌+ℚ◌, ◌-ℚ◌, abs_ℚ, ◌*ℚ◌, neg_ℚ, ratio, of_int, zero_ℚ, one_ℚ, ◌≤ℚ◌}
use Rattle.sgp4_model.specs.Angle.{IsPi, IsNear, IsReduced, IsSinCos, Pair, part, quadrant, reduced, turned}
use Rattle.sgp4_model.specs.AngleSums.{cosine_sum, sine_sum}

-- an angle of at most 2^20 to either side of 0
pub record IsModest (x : ℚ) : Type 0 where
  pub low : neg_ℚ (ratio (pos (2 ^ 20)) 1) ≤ℚ x
  pub high : x ≤ℚ ratio (pos (2 ^ 20)) 1

-- that two numbers are near by e says that their difference is at most e in size
abbrev pub NearIsDistance : Type 0
NearIsDistance = (e a b : ℚ) → IsNear e a b ↔ abs_ℚ (a -ℚ b) ≤ℚ e

-- sine and cosine are the same after j whole turns
abbrev pub WholeTurnsKeepPairs : Type 0
WholeTurnsKeepPairs =
    (pi x s c : ℚ) (j : ℤ) → IsSinCos pi x s c → IsSinCos pi (x +ℚ of_int j *ℚ (ratio (pos 2) 1 *ℚ pi)) s c

-- where two angles differ by at most d, their sines and their cosines differ by at most d + 2^-57, also for two pis
abbrev pub SinePairsAreLipschitz : Type 0
SinePairsAreLipschitz =
    (pi pj x z d s c t a : ℚ) → IsPi pi → IsPi pj → IsModest x → IsModest z → IsNear d x z →
    IsSinCos pi x s c → IsSinCos pj z t a → IsNear (d +ℚ part 57) s t × IsNear (d +ℚ part 57) c a

-- two pairs of one angle differ by at most 2^-59 + 2^-66
abbrev pub OneAngleHasOnePair : Type 0
OneAngleHasOnePair =
    (pi x s c t a : ℚ) → IsPi pi → IsSinCos pi x s c → IsSinCos pi x t a →
    IsNear (part 66 +ℚ part 59) s t × IsNear (part 66 +ℚ part 59) c a

-- each angle has a sine and a cosine
abbrev pub SineAndCosineExist : Type 0
SineAndCosineExist = (pi x : ℚ) → IsPi pi → (s : ℚ) × ((c : ℚ) × IsSinCos pi x s c)

-- the opposite angle has the opposite sine and the same cosine
abbrev pub ReflectionKeepsPairs : Type 0
ReflectionKeepsPairs = (pi x s c : ℚ) → IsSinCos pi x s c → IsSinCos pi (neg_ℚ x) (neg_ℚ s) c

-- sine and cosine are at most 1 + 2^-60 in size
abbrev pub SinePairsAreBounded : Type 0
SinePairsAreBounded = (pi x s c : ℚ) → IsPi pi → IsSinCos pi x s c → IsNear (part 60 +ℚ one_ℚ) s zero_ℚ × IsNear (part 60 +ℚ one_ℚ) c zero_ℚ

-- their squares add up to 1, to 2^-58
abbrev pub SquaresAddUpToOne : Type 0
SquaresAddUpToOne = (pi x s c : ℚ) → IsPi pi → IsSinCos pi x s c → IsNear (part 58) (s *ℚ s +ℚ c *ℚ c) one_ℚ

-- the sums at an angle less some quarter turns, turned back
abbrev pub sums_at : ℚ → ℚ → ℤ → Pair
sums_at pi x k = turned (quadrant k) (record { sine = sine_sum (reduced pi x k); cosine = cosine_sum (reduced pi x k) })

-- for each angle there is a number of quarter turns at which the sums themselves are a pair
abbrev pub SumsAreAPair : Type 0
SumsAreAPair =
    (pi x : ℚ) → IsPi pi →
    (k : ℤ) × (IsReduced pi (reduced pi x k) × IsSinCos pi x (sums_at pi x k).sine (sums_at pi x k).cosine)

-- where two numbers of quarter turns are allowed, the sums differ by at most 2^-66
abbrev pub TiedSumsAreClose : Type 0
TiedSumsAreClose =
    (pi x : ℚ) (j k : ℤ) → IsPi pi → IsReduced pi (reduced pi x j) → IsReduced pi (reduced pi x k) →
    IsNear (part 66) (sums_at pi x j).sine (sums_at pi x k).sine × IsNear (part 66) (sums_at pi x j).cosine (sums_at pi x k).cosine
