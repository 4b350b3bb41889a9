-- What a certified row of sunlight says of every instant, told down to the numbers.
use Rattle.std.specs.Prelude.{ℕ, ℤ, pos, ◌⊎◌}
use Rattle.exact.specs.Rational.{ℚ, ◌+ℚ◌, ◌-ℚ◌, ◌*ℚ◌, ratio, zero_ℚ, one_ℚ, ◌<ℚ◌}
use Rattle.sgp4_model.specs.Angle.{IsNear, IsPi}
use Rattle.sgp4_model.specs.Constants.{IsConsts}
use Rattle.sgp4_model.specs.LitSolution.{lit_track}
use Rattle.sgp4_model.specs.MeanElements.{IsMean}
use Rattle.sgp4_model.specs.OrbitRecords.{ConstRecord, MeanRecord}
use Rattle.sgp4_model.specs.Position.{IsPosition}
use Rattle.sgp4_model.specs.Records.{SetRecord}
use Rattle.sgp4_model.specs.Sun.{IsSun}
use Rattle.sgp4_model.specs.Vector.{Vector}
use Rattle.sgp4_model.specs.declared.span.Mark.{Mark}
use Rattle.sgp4_model.specs.declared.span.Mark.TheVariants.{Yes, No, Undecided}
use Rattle.sgp4_model.specs.declared.span.Span.{Span}
use Rattle.rows_model.specs.Instants.{IsIn, IsSpanOf, minutes_from, seconds_at}

-- the depth along the Sun's direction
abbrev pub depth : Vector → Vector → ℚ
depth r s = r.x *ℚ s.x +ℚ r.y *ℚ s.y +ℚ r.z *ℚ s.z

-- the height over the shadow's cylinder
abbrev pub over : Vector → Vector → ℚ
over r s = r.x *ℚ r.x +ℚ r.y *ℚ r.y +ℚ r.z *ℚ r.z -ℚ depth r s *ℚ depth r s -ℚ one_ℚ

-- at so many seconds: a pi of the bracket, constants, mean elements, a position and a Sun with this pi
pub record IsLit (set : SetRecord) (at pi : ℚ) (k : ConstRecord) (m : MeanRecord) (root : ℚ) (r s : Vector) : Type 0 where
  pub is_pi : IsPi pi
  pub constants : IsConsts set pi k
  pub mean : IsMean k pi (minutes_from set.epoch at) m
  pub position : IsPosition k m pi root r
  pub sun : IsSun pi at s

-- there are some
pub record AreLit (set : SetRecord) (at : ℚ) : Type 0 where
  pub pi : ℚ
  pub k : ConstRecord
  pub m : MeanRecord
  pub root : ℚ
  pub r : Vector
  pub s : Vector
  pub lit : IsLit set at pi k m root r s

module _ (set : SetRecord) (start : ℤ) (ticks : ℕ) (span : Span) where
  -- a fact of all positions and Suns in the spans of a mark
  abbrev pub OfLitSpans : Mark → (Vector → Vector → Type 0) → Type 0
  OfLitSpans mark fact =
      (x pi : ℚ) (k : ConstRecord) (m : MeanRecord) (root : ℚ) (r s : Vector) → IsSpanOf (lit_track set start ticks) mark span → IsIn span x →
      IsLit set (seconds_at start x) pi k m root r s → fact r s

  -- there are some in the spans of a mark
  abbrev pub SomeInLitSpans : Mark → Type 0
  SomeInLitSpans mark = (x : ℚ) → IsSpanOf (lit_track set start ticks) mark span → IsIn span x → AreLit set (seconds_at start x)

  -- in a certified row, wherever a sunlit span is, the satellite is before the centre or over the cylinder; a dark one, behind
  -- and inside; undecided, behind and within 0.001 and 2^-13 of the cylinder
  pub record LitSpansAreTrue : Type 0 where
    pub sunlit : OfLitSpans Yes (λ r s. (zero_ℚ <ℚ depth r s) ⊎ (zero_ℚ <ℚ over r s))
    pub behind : OfLitSpans No (λ r s. depth r s <ℚ zero_ℚ)
    pub inside : OfLitSpans No (λ r s. over r s <ℚ zero_ℚ)
    pub undecided_behind : OfLitSpans Undecided (λ r s. depth r s <ℚ zero_ℚ)
    pub undecided : OfLitSpans Undecided (λ r s. IsNear (ratio (pos 1) 1000) (over r s) zero_ℚ)
    pub sharp : OfLitSpans Undecided (λ r s. IsNear (ratio (pos 1) 8192) (over r s) zero_ℚ)
    pub some_sunlit : SomeInLitSpans Yes
    pub some_dark : SomeInLitSpans No
    pub some_undecided : SomeInLitSpans Undecided

-- so for each set and window
abbrev pub CertifiedSunlightIsTrue : Type 0
CertifiedSunlightIsTrue = (set : SetRecord) (start : ℤ) (ticks : ℕ) (span : Span) → LitSpansAreTrue set start ticks span
