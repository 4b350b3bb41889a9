-- What the tests of a mask say of its sectors.
use Rattle.std.proofs.Common.{◌≡◌, arith, zero, suc, ◌≤◌, Bool, true, ◌&&◌, not, nat_le, T, List, [], ◌∷◌, length, refl, pos, neg_ℤ, sym, subst, ap, All}
use Rattle.std.proofs.lemmas.Bool.{and_parts}
use Rattle.std.proofs.lemmas.Bool.Decides.{nat_tests}
use Rattle.std.specs.List.{list_all}
use Rattle.exact.specs.Rational.{ℚ, at_least_0, ◌+ℚ◌, ◌-ℚ◌, ◌≤ℚ◌, ◌<ℚ◌}
use Rattle.decimals.specs.Decimal.{DecimalRecord, value}
use Rattle.elements.specs.Elements.{IsFromTo}
use Rattle.station_file.specs.declared.sector.Sector.{Sector}
use Rattle.station_file.specs.MaskFields.{is_floor, sectors_of}
use Rattle.station_file.specs.Masks.{degrees, IsAzimuth, Follows, GoesRound, IsRound, IsMask}
use Rattle.elements.specs.Ranges.{at_most, below}
use Rattle.station_file.specs.MaskTests.{is_azimuth, is_count, follows, goes_round, is_round, are_borders}

holds : (t : Bool) → t ≡ true → T t
holds t e = subst T (sym e) tt

at_most_le : (x y : ℚ) → at_most x y ≡ true → x ≤ℚ y
at_most_le x y e = record { le = holds (at_least_0 (y -ℚ x)) e }

below_lt : (x y : ℚ) → below x y ≡ true → x <ℚ y
below_lt x y e = record { lt = holds (not (at_least_0 (x -ℚ y))) e }

azimuth_is : (border : DecimalRecord) → is_azimuth border ≡ true → IsAzimuth (value border)
azimuth_is border e =
    let (least, most) = and_parts (at_most (degrees 0) (value border)) (below (value border) (degrees 360)) e in
    record { least = at_most_le _ _ least; most = below_lt _ _ most }

follows_is : (before border : ℚ) → follows before border ≡ true → Follows before border
follows_is before border e =
    let (above, near) = and_parts (below before border) (at_most border (before +ℚ degrees 90)) e in
    record { above = below_lt _ _ above; near = at_most_le _ _ near }

floor_is : (floor : DecimalRecord) → is_floor floor ≡ true → IsFromTo (neg_ℤ (pos 90)) (pos 90) (value floor)
floor_is floor e =
    let (least, most) = and_parts (at_most _ (value floor)) (at_most (value floor) _) e in
    record { least = at_most_le _ _ least; most = at_most_le _ _ most }

goes_round_is : (first border : ℚ) (borders floors : List DecimalRecord) → length floors ≡ length borders → goes_round first border borders ≡ true → GoesRound first border (sectors_of borders floors)
goes_round_is first border [] floors same e = follows_is border (first +ℚ degrees 360) e
goes_round_is first border (next ∷ borders) [] same e = absurd (omega (arith, same))
goes_round_is first border (next ∷ borders) (floor ∷ floors) same e =
    let (here, more) = and_parts (follows border (value next)) (goes_round first (value next) borders) e in
    (follows_is border (value next) here, goes_round_is first (value next) borders floors (omega (arith, same)) more)

is_round_is : (borders floors : List DecimalRecord) → length floors ≡ length borders → is_round borders ≡ true → IsRound (sectors_of borders floors)
is_round_is (border ∷ borders) (floor ∷ floors) same e = goes_round_is (value border) (value border) borders floors (omega (arith, same)) e
is_round_is (border ∷ borders) [] same e = absurd (omega (arith, same))
is_round_is [] floors same e = cc e

sectors_length : (borders floors : List DecimalRecord) → length floors ≡ length borders → length (sectors_of borders floors) ≡ length borders
sectors_length [] floors same = refl
sectors_length (border ∷ borders) [] same = absurd (omega (arith, same))
sectors_length (border ∷ borders) (floor ∷ floors) same = ap suc (sectors_length borders floors (omega (arith, same)))

azimuths_are : (borders floors : List DecimalRecord) → list_all is_azimuth borders ≡ true → All (λ (sector : Sector). IsAzimuth (value sector.border)) (sectors_of borders floors)
azimuths_are [] floors e k d h = absurd (omega arith)
azimuths_are (border ∷ borders) [] e k d h = absurd (omega arith)
azimuths_are (border ∷ borders) (floor ∷ floors) e zero d h = azimuth_is border (and_parts (is_azimuth border) (list_all is_azimuth borders) e).0
azimuths_are (border ∷ borders) (floor ∷ floors) e (suc k) d h =
    azimuths_are borders floors (and_parts (is_azimuth border) (list_all is_azimuth borders) e).1 k d (omega arith)

floors_are : (borders floors : List DecimalRecord) → list_all is_floor floors ≡ true → All (λ (sector : Sector). IsFromTo (neg_ℤ (pos 90)) (pos 90) (value sector.floor)) (sectors_of borders floors)
floors_are [] floors e k d h = absurd (omega arith)
floors_are (border ∷ borders) [] e k d h = absurd (omega arith)
floors_are (border ∷ borders) (floor ∷ floors) e zero d h = floor_is floor (and_parts (is_floor floor) (list_all is_floor floors) e).0
floors_are (border ∷ borders) (floor ∷ floors) e (suc k) d h = floors_are borders floors (and_parts (is_floor floor) (list_all is_floor floors) e).1 k d (omega arith)

-- the sectors of borders and elevations that pass the tests are a mask
pub tested_is_mask : (borders floors : List DecimalRecord) → list_all is_floor floors ≡ true → are_borders borders ≡ true → length floors ≡ length borders → IsMask (sectors_of borders floors)
tested_is_mask borders floors in_range tested same =
    let (count, rest) = and_parts (is_count (length borders)) (list_all is_azimuth borders && is_round borders) tested in
    let (least, most) = and_parts (nat_le 4 (length borders)) (nat_le (length borders) 360) count in
    let (azimuths, round) = and_parts (list_all is_azimuth borders) (is_round borders) rest in
    let long : 4 ≤ length borders = grind (arith, nat_tests) in
    let short : length borders ≤ 360 = grind (arith, nat_tests) in
    let as_long = sectors_length borders floors same in
    record {
      least = omega (arith, long, as_long);
      most = omega (arith, short, as_long);
      azimuths = azimuths_are borders floors azimuths;
      floors = floors_are borders floors in_range;
      round = is_round_is borders floors same round;
    }
