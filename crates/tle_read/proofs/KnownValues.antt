-- Values that the format gives, as the definitions give them.
use Rattle.std.proofs.Common.{◌≡◌, ◌/◌, ◌^◌, refl}
use Rattle.std.specs.Prelude.{codes, Some, None}
use Rattle.std.specs.Str.{byte}
use Rattle.civil_time.specs.Scale.{day_nanos}
use Rattle.tle_read.specs.CheckDigit.{check_digit}
use Rattle.tle_read.specs.Fields.{letter_value, full_year}

-- a minus counts 1
station_line : check_digit (codes "1 25544U 98067A   08264.51782528 -.00002182  00000-0 -11606-4 0  2927") ≡ 7
unfolding check_digit
station_line = refl

second_station_line : check_digit (codes "2 25544  51.6416 247.4627 0006703 130.5360 325.0288 15.72125391563537") ≡ 7
unfolding check_digit
second_station_line = refl

-- letters from A to Z, without I
first_letter : letter_value (byte "A") ≡ Some 10
unfolding letter_value
first_letter = refl

last_letter : letter_value (byte "Z") ≡ Some 33
unfolding letter_value
last_letter = refl

no_letter : letter_value (byte "I") ≡ None
unfolding letter_value
no_letter = refl

-- the years at the turn
first_year : full_year 57 ≡ 1957
first_year = refl

last_year : full_year 56 ≡ 2056
last_year = refl

-- units of the eighth and the tenth place of a day, in nanoseconds
eighth_place : day_nanos / 10 ^ 8 ≡ 864_000
eighth_place = refl

tenth_place : day_nanos / 10 ^ 10 ≡ 8_640
tenth_place = refl
