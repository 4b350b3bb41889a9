-- Lengths along the local axes: the components of a direction times the range.
use Rattle.std.proofs.Common.{◌≡◌, [], ◌∷◌, ◌∙◌, ap, subst, sym}
use Rattle.exact.specs.Rational.{ℚ, ◌*ℚ◌, ◌/ℚ◌, inverse, one_ℚ, zero_ℚ, ◌<ℚ◌}
use Rattle.exact.proofs.RationalRing.{ring, reads}
use Rattle.exact.proofs.Order.{le_antisym, le_by}
use Rattle.exact.proofs.Strict.{Positive, lt_of_gap, mul_inverse, positive_by}
use Rattle.fixed_iv.specs.Place.{Place}
use Rattle.fixed_iv.specs.declared.enc.Enc.{Ghosts}
use Rattle.fixed_iv.proofs.Held.{Contained, held_at}
use Rattle.sgp4_model.specs.Angle.{Pair}
use Rattle.sgp4_model.specs.DaySolution.{local_up}
use Rattle.sgp4_model.specs.LocalAxes.{local_east, local_north}
use Rattle.sgp4_model.specs.Sight.{IsDirection, SightRecord}
use Rattle.sgp4_model.specs.Vector.{Vector, inner_product}
use Rattle.station_view.specs.Bounds.{HoldLengths}
use Rattle.station_view.specs.Lengths.{CoversLengths, bounds_of, IsHeldLengths, LengthsRecord, at_range, lengths_of}
use Rattle.station_view.specs.SightReach.{LengthsReach}
use Rattle.station_view.specs.declared.vector.Lengths.{Lengths}

-- what is divided and multiplied again
pub times_range : (x v range : ℚ) → ¬ (range ≡ zero_ℚ) → v ≡ x /ℚ range → x ≡ v *ℚ range
times_range x v range divides is = sym (ap (λ t. t *ℚ range) is ∙ regroup x range (inverse range) (mul_inverse range divides))
  where
    regroup : (x r i : ℚ) → r *ℚ i ≡ one_ℚ → x *ℚ i *ℚ r ≡ x
    regroup x r i e = ring (x ∷ r ∷ i ∷ []) (search reads depth 90) tt ∙ ap (λ t. x *ℚ t) e ∙ ring (x ∷ []) (search reads depth 90) tt

pub covered_at : {A : Type 0} {E : Ghosts A} {lengths : Lengths A} {h : Place} {l : LengthsRecord} {r : LengthsReach} →
    IsHeldLengths E lengths h l r → CoversLengths E lengths h l
covered_at held = record { east = held.east.covers; north = held.north.covers; up = held.up.covers; range = held.range.covers }

pub held_at_range : {A : Type 0} {E : Ghosts A} {lengths : Lengths A} {h : Place} {r : LengthsReach} (lat lon : Pair) (d : Vector) (range : ℚ) (v : SightRecord) →
    IsDirection lat lon d range v → IsHeldLengths E lengths h (lengths_of lat lon d range) r → IsHeldLengths E lengths h (at_range v range) r
held_at_range lat lon d range v is held = record {
  east = held_at (times_range (inner_product d (local_east lon)) v.east range is.range_divides is.east) held.east;
  north = held_at (times_range (inner_product d (local_north lat lon)) v.north range is.range_divides is.north) held.north;
  up = held_at (times_range (inner_product d (local_up lat lon)) v.up range is.range_divides is.up) held.up;
  range = held.range;
}

-- the lengths that an enclosure covers lie in its bounds
pub hold_lengths : {A : Type 0} {E : Ghosts A} {lengths : Lengths A} {h : Place} {l : LengthsRecord} → Contained E.covers E.extent →
    CoversLengths E lengths h l → HoldLengths (bounds_of E lengths) l
hold_lengths law covers = record {
  east = law _ _ _ covers.east;
  north = law _ _ _ covers.north;
  up = law _ _ _ covers.up;
  range = law _ _ _ covers.range;
}

-- a direction's range is above 0
pub range_above : {lat lon : Pair} {d : Vector} {range : ℚ} {v : SightRecord} → IsDirection lat lon d range v → zero_ℚ <ℚ range
range_above {range = range} is = lt_of_gap (subst Positive (ring (range ∷ []) (search reads depth 90) tt) above)
  where
    above : Positive range
    above = positive_by (λ p. is.range_divides (le_antisym (le_by (range ∷ []) p (search reads depth 90) tt) is.range_is.root))
