-- Values that the definitions give, worked out with Python's `datetime`.
use Rattle.std.proofs.Common.{◌≡◌, refl, codes, Err, pos, neg_ℤ}
use Rattle.civil_time.specs.CivilDate.{date_of_day, date_from_year, date_from_month}
use Rattle.civil_time.specs.InstantText.{instant_text, date_text, clock_text, fixed_digits}
use Rattle.civil_time.specs.Columns.{are_digits, number_at}
use Rattle.civil_time.specs.Utc.{utc_value, utc_without_z, without_z, is_form, is_date_form, is_clock_form, is_decimals_form, has_month, date_width, is_day, is_clock}
use Rattle.civil_time.specs.declared.fault.TimeFault.TheVariants as faults

leap_day_of_2000 : date_of_day (pos 11016) ≡ record { year = 2000; month = 2; day = 29 }
unfolding date_of_day date_from_year date_from_month
leap_day_of_2000 = refl

last_day : date_of_day (pos 31776) ≡ record { year = 2056; month = 12; day = 31 }
unfolding date_of_day date_from_year date_from_month
last_day = refl

text_of_a_tick : instant_text 4 (pos 275185540104192000) ≡ codes "2008-09-20T12:25:40.1041Z"
unfolding instant_text date_text clock_text fixed_digits date_of_day date_from_year date_from_month
text_of_a_tick = refl

text_of_a_nanosecond : instant_text 9 (neg_ℤ (pos 43200999999999)) ≡ codes "1999-12-31T23:59:59.000000001Z"
unfolding instant_text date_text clock_text fixed_digits date_of_day date_from_year date_from_month
text_of_a_nanosecond = refl

a_year_out_of_range : utc_value (codes "2057-01-01T00:00:00Z") ≡ Err faults.Year
unfolding utc_value utc_without_z without_z is_form is_date_form is_clock_form is_decimals_form has_month date_width is_day is_clock are_digits number_at
a_year_out_of_range = refl

day_before_year : utc_value (codes "2057-02-30T00:00:00") ≡ Err faults.NotADay
unfolding utc_value utc_without_z without_z is_form is_date_form is_clock_form is_decimals_form has_month date_width is_day is_clock are_digits number_at
day_before_year = refl

no_day_366 : utc_value (codes "2001-366T00:00:00") ≡ Err faults.NotADay
unfolding utc_value utc_without_z without_z is_form is_date_form is_clock_form is_decimals_form has_month date_width is_day is_clock are_digits number_at
no_day_366 = refl

no_second_60 : utc_value (codes "2016-12-31T23:59:60") ≡ Err faults.NotADay
unfolding utc_value utc_without_z without_z is_form is_date_form is_clock_form is_decimals_form has_month date_width is_day is_clock are_digits number_at
no_second_60 = refl

ten_decimals : utc_value (codes "2000-01-01T00:00:00.1234567890") ≡ Err faults.Shape
unfolding utc_value utc_without_z without_z is_form is_date_form is_clock_form is_decimals_form has_month date_width are_digits number_at
ten_decimals = refl
