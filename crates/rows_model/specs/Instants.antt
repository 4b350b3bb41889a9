-- Instants of a window, whole ticks or not, as numbers.
use Rattle.std.specs.Prelude.{◌≡◌, ℕ, ℤ, pos, List, Contains}
use Rattle.exact.specs.Rational.{ℚ, ◌+ℚ◌, ◌-ℚ◌, ◌*ℚ◌, of_int, ratio, ◌≤ℚ◌}
use Rattle.sgp4_model.specs.Angle.{IsSinCos, Pair}
use Rattle.sgp4_model.specs.Certified.{IsCertified, TrackRecord}
use Rattle.sgp4_model.specs.Records.{spans}
use Rattle.sgp4_model.specs.Sidereal.{sidereal_seconds}
use Rattle.sgp4_model.specs.declared.span.Mark.{Mark}
use Rattle.sgp4_model.specs.declared.span.Span.{Span}

-- seconds from 2000-01-01T12:00:00 at so many ticks, whole or not, behind a start in nanoseconds
abbrev pub seconds_at : ℤ → ℚ → ℚ
seconds_at start x = ratio start 1000000000 +ℚ x *ℚ ratio (pos 1) 10000

-- minutes from an epoch in nanoseconds to an instant in seconds
abbrev pub minutes_from : ℤ → ℚ → ℚ
minutes_from epoch at = (at -ℚ ratio epoch 1000000000) *ℚ ratio (pos 1) 60

-- a number of ticks between the ends of a span, both included, whole or not
pub record IsIn (span : Span) (x : ℚ) : Type 0 where
  pub from : of_int (pos span.from) ≤ℚ x
  pub to : x ≤ℚ of_int (pos span.to)

-- a pair of an angle in degrees
abbrev pub IsPairAt : ℚ → ℚ → Pair → Type 0
IsPairAt pi degrees p = IsSinCos pi (degrees *ℚ pi *ℚ ratio (pos 1) 180) p.sine p.cosine

-- a pair of the sidereal angle, so many milliseconds behind an instant in seconds
abbrev pub IsTurnAt : ℚ → ℚ → ℤ → Pair → Type 0
IsTurnAt pi at dut1 t =
    IsSinCos pi (pi *ℚ sidereal_seconds ((at +ℚ ratio dut1 1000) *ℚ ratio (pos 1) 3155760000) *ℚ ratio (pos 1) 43200) t.sine t.cosine

-- the span stands with this mark in the list of a certified row of spans, for some resolution and slots
pub record IsSpanOf (track : TrackRecord) (mark : Mark) (span : Span) : Type 0 where
  pub resolution : ℕ
  pub slots : ℕ
  pub used : ℕ
  pub count : ℕ
  pub list : List Span
  pub row : IsCertified track resolution slots used (spans count) list
  pub here : Contains list span
  pub is : span.mark ≡ mark
