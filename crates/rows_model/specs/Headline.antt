-- What a certified row of daylight says of every instant, told down to the numbers.
use Rattle.std.specs.Prelude.{ℕ, ℤ, pos}
use Rattle.exact.specs.Rational.{ℚ, ◌+ℚ◌, ◌*ℚ◌, neg_ℚ, ratio, zero_ℚ, ◌<ℚ◌}
use Rattle.sgp4_model.specs.Angle.{IsNear, IsPi, Pair}
use Rattle.sgp4_model.specs.DaySolution.{day_track}
use Rattle.sgp4_model.specs.Sun.{IsSun}
use Rattle.sgp4_model.specs.Vector.{Vector}
use Rattle.sgp4_model.specs.declared.span.Mark.{Mark}
use Rattle.sgp4_model.specs.declared.span.Mark.TheVariants.{Yes, No, Undecided}
use Rattle.sgp4_model.specs.declared.span.Span.{Span}
use Rattle.rows_model.specs.Instants.{IsIn, IsPairAt, IsSpanOf, IsTurnAt, seconds_at}

-- the sine of the Sun's elevation, from pairs of the latitude, the longitude and the sidereal angle
abbrev pub elevation : Pair → Pair → Pair → Vector → ℚ
elevation f l t s =
    f.cosine *ℚ l.cosine *ℚ (s.x *ℚ t.cosine +ℚ s.y *ℚ t.sine)
    +ℚ f.cosine *ℚ l.sine *ℚ (neg_ℚ s.x *ℚ t.sine +ℚ s.y *ℚ t.cosine)
    +ℚ f.sine *ℚ s.z

-- at so many seconds: a pi of the bracket, pairs of the angles and a Sun with this pi
pub record IsSeen (lat lon at : ℚ) (dut1 : ℤ) (pi : ℚ) (f l t : Pair) (s : Vector) : Type 0 where
  pub is_pi : IsPi pi
  pub latitude : IsPairAt pi lat f
  pub longitude : IsPairAt pi lon l
  pub turn : IsTurnAt pi at dut1 t
  pub sun : IsSun pi at s

-- some are seen there
pub record AreSeen (lat lon at : ℚ) (dut1 : ℤ) : Type 0 where
  pub pi : ℚ
  pub f : Pair
  pub l : Pair
  pub t : Pair
  pub s : Vector
  pub seen : IsSeen lat lon at dut1 pi f l t s

module _ (lat lon : ℚ) (start dut1 : ℤ) (ticks : ℕ) (span : Span) where
  -- a fact of all that is seen in the spans of a mark
  abbrev pub OfDaySpans : Mark → (ℚ → Type 0) → Type 0
  OfDaySpans mark fact =
      (x pi : ℚ) (f l t : Pair) (s : Vector) → IsSpanOf (day_track lat lon start dut1 ticks) mark span → IsIn span x →
      IsSeen lat lon (seconds_at start x) dut1 pi f l t s → fact (elevation f l t s)

  -- something is seen in the spans of a mark
  abbrev pub SomeInDaySpans : Mark → Type 0
  SomeInDaySpans mark =
      (x : ℚ) → IsSpanOf (day_track lat lon start dut1 ticks) mark span → IsIn span x → AreSeen lat lon (seconds_at start x) dut1

  -- in a certified row, wherever a span of light is seen from, the Sun is above the horizon; of night, below; undecided, within
  -- 0.001 of it and within 2^-23
  pub record DaySpansAreTrue : Type 0 where
    pub light : OfDaySpans Yes (λ e. zero_ℚ <ℚ e)
    pub night : OfDaySpans No (λ e. e <ℚ zero_ℚ)
    pub undecided : OfDaySpans Undecided (λ e. IsNear (ratio (pos 1) 1000) e zero_ℚ)
    pub sharp : OfDaySpans Undecided (λ e. IsNear (ratio (pos 1) 8388608) e zero_ℚ)
    pub some_light : SomeInDaySpans Yes
    pub some_night : SomeInDaySpans No
    pub some_undecided : SomeInDaySpans Undecided

-- so for each place, window and offset
abbrev pub CertifiedSpansAreTrue : Type 0
CertifiedSpansAreTrue = (lat lon : ℚ) (start dut1 : ℤ) (ticks : ℕ) (span : Span) → DaySpansAreTrue lat lon start dut1 ticks span
