-- What the fields of both lines must be together: one number, a theory that is read, and values in their ranges.
use Rattle.std.specs.Prelude.{◌≡◌, true, ◌<◌, ℕ, ◌+◌, ◌-◌, ◌*◌, ◌/◌, ◌^◌, ◌==◌, ◌&&◌, ◌||◌, Bool, nat_lt, nat_le, Result, Ok, Err, if◌then◌else◌, ℤ, pos, ◌+ℤ◌}
use Rattle.jiff_core.specs.Calendar.{days_in_year}
use Rattle.civil_time.specs.Scale.{day_nanos, start_of_year}
use Rattle.elements.specs.Elements.{ElementsRecord}
use Rattle.tle_read.specs.declared.fault.TleFault.{TleFault}
use Rattle.tle_read.specs.declared.fault.TleFault.TheVariants as faults
use Rattle.tle_read.specs.declared.line_one.Epoch.{Epoch}
use Rattle.tle_read.specs.declared.line_one.LineOne.{LineOne}
use Rattle.tle_read.specs.declared.line_two.LineTwo.{LineTwo}
use Rattle.tle_read.specs.Fields.{FixedPoint, decimal_of}
use Rattle.elements.specs.Steps.{◌>>=◌}

-- the number is at most a whole number
abbrev pub is_at_most : FixedPoint → ℕ → Bool
is_at_most number most = nat_le number.digits (most * 10 ^ number.places)

-- the day is one of the year: from 1 to below the number of the year's days and 1
abbrev pub is_day_of : ℕ → FixedPoint → Bool
is_day_of year day =
    nat_le (10 ^ day.places) day.digits && nat_lt day.digits ((days_in_year (pos year) + 1) * 10 ^ day.places)

-- when the epoch is: day 1.0 is when the year begins, and a day has 86,400 seconds. With at most eleven places, as
-- twelve columns have them, a unit of the last place is a whole number of nanoseconds.
abbrev pub epoch_of : Epoch → ℤ
epoch_of epoch =
    start_of_year (pos epoch.year) +ℤ pos (epoch.day.digits * (day_nanos / 10 ^ epoch.day.places) - day_nanos)

-- both lines have one catalogue number
unfoldable pub of_one_number : LineOne → LineTwo → Result (Unit {0}) TleFault
of_one_number first second = if first.number == second.number then Ok tt else Err faults.NumbersDiffer

-- the elements are of the theory that is read: the ephemeris type is 0 or 2
unfoldable pub of_theory : LineOne → Result (Unit {0}) TleFault
of_theory first = if (first.kind == 0) || (first.kind == 2) then Ok tt else Err faults.Theory

-- what holds, or else the value that begins in this column is out of its range
unfoldable pub in_range : (number first : ℕ) → Bool → Result (Unit {0}) TleFault
in_range number first holds = if holds then Ok tt else Err (faults.Range number first)

-- the values are in their ranges: the day, the four angles, and the mean motion
unfoldable pub of_ranges : LineOne → LineTwo → Result (Unit {0}) TleFault
of_ranges first second = do
  day ← in_range 1 21 (is_day_of first.epoch.year first.epoch.day)
  incl ← in_range 2 9 (is_at_most second.incl 180)
  node ← in_range 2 18 (is_at_most second.node 360)
  argp ← in_range 2 35 (is_at_most second.argp 360)
  anomaly ← in_range 2 44 (is_at_most second.anomaly 360)
  in_range 2 53 (nat_lt 0 second.motion.digits)

-- the same, as what holds of the fields
pub record AreInRange (first : LineOne) (second : LineTwo) : Type 0 where
  pub day : is_day_of first.epoch.year first.epoch.day ≡ true
  pub incl : is_at_most second.incl 180 ≡ true
  pub node : is_at_most second.node 360 ≡ true
  pub argp : is_at_most second.argp 360 ≡ true
  pub anomaly : is_at_most second.anomaly 360 ≡ true
  pub motion : 0 < second.motion.digits

-- the elements that the fields write
abbrev pub elements_of : LineOne → LineTwo → ElementsRecord
elements_of first second = record {
  number = first.number;
  epoch = epoch_of first.epoch;
  motion = decimal_of second.motion;
  ecc = decimal_of second.ecc;
  incl = decimal_of second.incl;
  node = decimal_of second.node;
  argp = decimal_of second.argp;
  anomaly = decimal_of second.anomaly;
  bstar = first.drag;
}
