-- How far a satellite is from a station, and grazing as a length.
use Rattle.std.proofs.Common.{[], ◌∷◌, List, inl, inr, ℤ, pos}
use Rattle.exact.specs.Rational.{ℚ, ◌+ℚ◌, ◌-ℚ◌, ◌*ℚ◌, neg_ℚ, one_ℚ, ratio, zero_ℚ, ◌≤ℚ◌}
use Rattle.exact.proofs.RationalRing.{reads, ring}
use Rattle.exact.proofs.Order.{gap, known, le_by, le_trans, not_negative, same_sign, ◌⊕◌, ◌⊗◌}
use Rattle.exact.proofs.Strict.{Positive, not_both, positive_by, positive_known, quotient_le}
use Rattle.sgp4_model.specs.Angle.{IsPi, part}
use Rattle.sgp4_model.specs.Mask.{GrazesBy, SomeSector, TouchesHigh, TouchesLow}
use Rattle.sgp4_model.specs.Numerals.{decimal}
use Rattle.sgp4_model.specs.Sectors.{SectorSides, TouchesBy}
use Rattle.sgp4_model.specs.Sidereal.{earth_fixed}
use Rattle.sgp4_model.specs.Sight.{IsSight, SightRecord}
use Rattle.sgp4_model.specs.Vector.{Vector, inner_product}
use Rattle.sgp4_model.proofs.Pythagoras.{squares_add_up_to_one}
use Rattle.sgp4_model.proofs.RootLipschitz.{root_above}
use Rattle.station_file.specs.Rows.{IsStationRow, record_of_station}
use Rattle.station_file.specs.declared.row.StationRow.{StationRow}
use Rattle.station_view.specs.SightLaws.{RangesAreLong, SharpGrazingIsGrazing}
use Rattle.station_view.proofs.FarLemmas.{apart_least, far_least, turned_least}
use Rattle.station_view.proofs.NormLemmas.{height_near, place_near}

-- ---- ranges
turned_out : {pi at : ℚ} {dut1 : ℤ} {range : ℚ} {v : SightRecord} (row : StationRow) (r : Vector) (l : ℚ) → (is : IsSight (record_of_station row) pi at dut1 r range v) → IsPi pi → zero_ℚ ≤ℚ l →
    l ≤ℚ inner_product r r → l *ℚ (one_ℚ -ℚ part 58) ≤ℚ inner_product (earth_fixed is.turn r) (earth_fixed is.turn r)
turned_out row r l is is_pi least h = turned_least r is.turn l (squares_add_up_to_one _ _ _ _ is_pi is.is_sidereal) (not_negative least) h

short_place : {pi at : ℚ} {dut1 : ℤ} {r : Vector} {range : ℚ} {v : SightRecord} (row : StationRow) → IsStationRow row → IsPi pi → (is : IsSight (record_of_station row) pi at dut1 r range v) →
    inner_product is.place is.place ≤ℚ ratio (pos 1002842) 1000000
short_place row of_row is_pi is =
    let high = height_near of_row.height in
    place_near _ _ _ is.of_latitude is.of_longitude is.place is_pi is.is_latitude is.is_longitude high.0 high.1 is.is_place

pub ranges_are_long : RangesAreLong
ranges_are_long = record {
  far = λ row pi at dut1 r range v of_row is_pi is h.
      let out = le_trans (le_by [] (known 18014398508813859 180143985094819840000000) (search reads depth 90) tt) (turned_out row r (ratio (pos 1069) 1000) is is_pi (le_by [] (known 1069 1000) (search reads depth 90) tt) h) in
      root_above (le_trans (le_by [] (known 4503599627292371 90071992547409920000000) (search reads depth 90) tt) (far_least _ is.place out (short_place row of_row is_pi is))) is.is_direction.range_is;
  near = λ row pi at dut1 r range v of_row is_pi is h.
      let out = le_trans (le_by [] (known 1125899906801999 11258999068426240000000) (search reads depth 90) tt) (turned_out row r (ratio (pos 104) 100) is is_pi (le_by [] (known 104 100) (search reads depth 90) tt) h) in
      root_above (le_trans (le_by [] (known 49539595900684831 450359962737049600000000) (search reads depth 90) tt) (apart_least _ is.place out (short_place row of_row is_pi is))) is.is_direction.range_is;
}

-- ---- grazing by more
touches_more : (b c : ℚ) {sector : SectorSides} {v : SightRecord} → b ≤ℚ c → TouchesBy b sector v → TouchesBy c sector v
touches_more b c h t = record { from = more _ t.from; to = more _ t.to }
  where
    more : (x : ℚ) → neg_ℚ b ≤ℚ x → neg_ℚ c ≤ℚ x
    more x k = le_by (b ∷ c ∷ x ∷ []) (gap h ⊕ gap k) (search reads depth 90) tt

up_more : (b c x y : ℚ) → b ≤ℚ c → x ≤ℚ y +ℚ b → x ≤ℚ y +ℚ c
up_more b c x y h k = le_by (b ∷ c ∷ x ∷ y ∷ []) (gap h ⊕ gap k) (search reads depth 90) tt

some_more : (P Q : SectorSides → Type 0) → ((s : SectorSides) → P s → Q s) → (sectors : List SectorSides) → SomeSector P sectors → SomeSector Q sectors
some_more P Q step [] some = absurd some
some_more P Q step (s ∷ sectors) (inl h) = inl (step s h)
some_more P Q step (s ∷ sectors) (inr h) = inr (some_more P Q step sectors h)

grazes_more : (b c : ℚ) (sectors : List SectorSides) (v : SightRecord) → b ≤ℚ c → GrazesBy b sectors v → GrazesBy c sectors v
grazes_more b c sectors v h g = record {
  low = some_more (TouchesLow b v) (TouchesLow c v) (λ s t. record { touches = touches_more b c h t.touches; up = up_more b c _ _ h t.up }) sectors g.low;
  high = some_more (TouchesHigh b v) (TouchesHigh c v) (λ s t. record { touches = touches_more b c h t.touches; up = up_more b c _ _ h t.up }) sectors g.high;
}

above_0 : {r : ℚ} → ratio (pos 183) 10000 ≤ℚ r → Positive r
above_0 {r} h = positive_by (λ p. not_both (positive_known 0 1) (same_sign (ring (r ∷ []) (search reads depth 90) tt) (known 10000 183 ⊗ (p ⊕ gap h))))

pub sharp_grazing_is_grazing : SharpGrazingIsGrazing
sharp_grazing_is_grazing = record {
  far = λ s least within.
      let wide = above_0 (le_trans (le_by [] (known 142 10000) (search reads depth 90) tt) least) in
      grazes_more _ (decimal 1 3) s.sectors s.sight (quotient_le wide (far_enough s.range least)) within;
  near = λ s least within. grazes_more _ (decimal 2 3) s.sectors s.sight (quotient_le (above_0 least) (near_enough s.range least)) within;
}
  where
    far_enough : (r : ℚ) → ratio (pos 325) 10000 ≤ℚ r → part 15 ≤ℚ decimal 1 3 *ℚ r
    far_enough r h = le_by (r ∷ []) (known 1 1000 ⊗ gap h ⊕ known 203 102400000) (search reads depth 90) tt

    near_enough : (r : ℚ) → ratio (pos 183) 10000 ≤ℚ r → part 15 ≤ℚ decimal 2 3 *ℚ r
    near_enough r h = le_by (r ∷ []) (known 2 1000 ⊗ gap h ⊕ known 15571 2560000000) (search reads depth 90) tt
