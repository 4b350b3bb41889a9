-- The time over a cell from the epoch of a set, enclosed; and what holds of a least cell.
use Rattle.std.proofs.Common.{◌≡◌, ◌∙◌, ap, arith, Bool, T, [], ◌∷◌, ◌*◌, ◌≤◌, ℕ, ℤ, pos, negsuc, subst, sym}
use Rattle.std.proofs.lemmas.Int.{ints}
use Rattle.exact.specs.Rational.{ℚ, of_int, ratio, ◌+ℚ◌, ◌-ℚ◌, ◌*ℚ◌, ◌≤ℚ◌}
use Rattle.exact.proofs.Integers.{of_int_add, of_int_is, of_int_le, of_int_mul}
use Rattle.exact.specs.Interval.{Inside, between}
use Rattle.exact.proofs.Intervals.{inside}
use Rattle.exact.proofs.Order.{gap, known, le_by, ◌⊕◌, ◌⊗◌}
use Rattle.exact.proofs.RationalRing.{ring, reads}
use Rattle.earth_frame.specs.Spread.{IsSpreadWithin}
use Rattle.elements.specs.Window.{most_ticks, tick_instant}
use Rattle.fixed_iv.specs.Extent.{Extent}
use Rattle.fixed_iv.specs.Holds.{Holds, IsTightest}
use Rattle.fixed_iv.specs.Narrow.{IsNarrowConstant, IsNarrowSum}
use Rattle.fixed_iv.specs.Place.{Place, on_line}
use Rattle.fixed_iv.specs.Reach.{IsHeld, from_to, given, ◌+ᴿ◌}
use Rattle.fixed_iv.specs.declared.iv.Iv.{Iv}
use Rattle.fixed_iv.specs.declared.vec3.Vec3.{Vec3}
use Rattle.fixed_iv.proofs.Held.{Contained, claim_held, constant_held, held_at, plus_held, within}
use Rattle.sgp4_model.specs.EpochTime.{minutes_since_epoch}
use Rattle.sgp4_model.specs.Records.{SetRecord}
use Rattle.sgp4_model.specs.Time.{instant_of_place}
use Rattle.sgp4_model.specs.Vector.{Vector}
use Rattle.fixed_iv.specs.EnclosedVector.{IsHeldVector}
use Rattle.sgp4_shape.specs.Covering.{unit_minutes}
use Rattle.orbit_sight.specs.Box.{OrbitBox}
use Rattle.orbit_sight.specs.Cell.{time_of_place}
use Rattle.orbit_sight.specs.Moment.{units_from}
use Rattle.orbit_sight.specs.Over.{IsFarOut, IsSpreadVector, cell_of, instant_on, place_on}
use Rattle.orbit_sight.specs.Craft.{IsCraft}
use Rattle.sgp4_model.specs.MeanElements.{IsMeanUnguarded}
use Rattle.sgp4_model.specs.PositionAt.{IsPositionAt}
use Rattle.elements.specs.Elements.{ElementsRecord, record_of_elements}
use Rattle.enc_plain.specs.declared.plain.Plain.{Plain}
use Rattle.enc_plain.proofs.PlainHeld.{middle}
use Rattle.sgp4_shape.specs.declared.consts.Consts.{Consts}
use Rattle.orbit_sight.proofs.CellLemmas.{at_start, line_starts}
use Rattle.orbit_sight.proofs.DistanceLemmas.{position_within}
use Rattle.orbit_sight.proofs.NearOrbitLemmas.{ends}
use Rattle.orbit_sight.specs.TakenBoxes.{cell_box, instant_box}
use Rattle.orbit_sight.proofs.GuardLemmas.{box_position}
use Rattle.orbit_sight.proofs.MomentLemmas.{in_seconds, in_units_of_time}
use Rattle.orbit_sight.proofs.OrbitLemmas.{WeekInside, near_orbit}
use Rattle.orbit_sight.proofs.WidthLemmas.{time_given}

-- ---- the time of a place of a window, from the epoch
pub minutes_over : (set : SetRecord) (start : ℤ) (p : ℚ) → unit_minutes 1 *ℚ (units_from set.epoch start +ℚ time_of_place p) ≡ minutes_since_epoch set (instant_of_place start p)
minutes_over set start p =
    rw (in_units_of_time set.epoch start, in_seconds start, in_seconds set.epoch)
    (ring (of_int start ∷ of_int set.epoch ∷ p ∷ [])
    {y = (of_int start *ℚ ratio (pos 1) 1000000000 +ℚ p *ℚ ratio (pos 1) 10000 -ℚ of_int set.epoch *ℚ ratio (pos 1) 1000000000) *ℚ ratio (pos 1) 60} (search reads depth 90) tt)

-- a tick's instant is a whole number of nanoseconds
pub tick_units : (epoch start : ℤ) (tick : ℕ) → units_from epoch start +ℚ time_of_place (of_int (pos tick)) ≡ units_from epoch (tick_instant start tick)
tick_units epoch start tick =
    rw (in_units_of_time epoch start, in_units_of_time epoch (tick_instant start tick), of_int_add start (pos (tick * 100000)), of_int_mul (pos tick) (pos 100000), of_int_is (pos 100000))
    (ring (of_int start ∷ of_int epoch ∷ of_int (pos tick) ∷ []) (search reads depth 90) tt)

-- the minutes from the epoch at the first tick of a cell
pub minutes_at_start : (set : SetRecord) (start : ℤ) (from to : ℕ) → unit_minutes 1 *ℚ units_from set.epoch (tick_instant start from) ≡ minutes_since_epoch set (instant_on (cell_of start from to) at_start)
minutes_at_start set start from to =
    ap (λ z. unit_minutes 1 *ℚ z) (sym (tick_units set.epoch start from))
    ∙ ap (λ z. unit_minutes 1 *ℚ (units_from set.epoch start +ℚ time_of_place z)) (sym (line_starts (of_int (pos from)) (of_int (pos to))))
    ∙ minutes_over set start (place_on (cell_of start from to) at_start)

-- the part of a window before a tick is at most ten days long
part_inside : (tick : ℕ) → tick ≤ most_ticks → Inside (between (pos 0) 1 (pos 1) 1) (time_of_place (of_int (pos tick)))
part_inside tick h =
    inside (pos 0) 1 (pos 1) 1
    (le_by (of_int (pos tick) ∷ []) (gap from_0 ⊗ known 1 9830400000) (search reads depth 90) tt)
    (le_by (of_int (pos tick) ∷ []) (gap to_most ⊗ known 1 9830400000 ⊕ known 1190400000 9830400000) (search reads depth 90) tt)
  where
    from_0 : ratio (pos 0) 1 ≤ℚ of_int (pos tick)
    from_0 = rw (← of_int_is (pos 0)) (of_int_le (omega (arith, ints)))

    to_most : of_int (pos tick) ≤ℚ ratio (pos 8640000000) 1
    to_most = rw (← of_int_is (pos 8640000000)) (of_int_le (omega (arith, ints, h)))

-- ---- the enclosure of the time over a least cell, at its first tick
module _ {A : Type 0} {C : A → Place → ℚ → Type 0} {E : A → Extent} {told : Bool} (law : Contained C E) {v : Iv} {a b r : A} {h : Place} where
  pub cell_time_held : (epoch start : ℤ) (tick : ℕ) → ((h : Place) (x : ℚ) → Holds v x → C a h x) → (T told → IsNarrowConstant v (E a)) → ((h : Place) (x y : ℚ) → C a h x → C b h y → C r h (x +ℚ y)) →
      (T told → IsNarrowSum (E a) (E b) (E r)) → IsTightest (λ x. x ≡ units_from epoch start) v → WeekInside (units_from epoch start) → WeekInside (units_from epoch (tick_instant start tick)) → tick ≤ most_ticks →
      C b h (time_of_place (of_int (pos tick))) → (T told → IsSpreadWithin 28640 (E b)) → IsHeld C E told r h (units_from epoch (tick_instant start tick)) cell_box.time
  unfolding given ◌+ᴿ◌
  cell_time_held epoch start tick a_covers a_narrow r_covers r_narrow tight near cell_near most b_covers b_narrow =
      let shift : IsHeld C E told a h (units_from epoch start) instant_box.time = within instant_box.time (constant_held a_covers a_narrow (time_given v epoch start tight near)) tt in
      let part : IsHeld C E told b h (time_of_place (of_int (pos tick))) (from_to (pos 0) (pos 1) 1 28640) =
      record { covers = b_covers; known = λ t _. record { inside = part_inside tick most; measured = (b_narrow t).measured; narrow = (b_narrow t).spread } } in
      within cell_box.time (claim_held (cell_box.time).range (held_at (tick_units epoch start tick) (plus_held law r_covers r_narrow shift part)) cell_near) tt

-- ---- what a position in the box is known to be
module _ {A : Type 0} {C : A → Place → ℚ → Type 0} {E : A → Extent} {told : Bool} (is_told : T told) (b : OrbitBox) (ok : T b.coordinate.ok) {position : Vec3 A} {h : Place} {v : Vector} where
  pub spread_of_position : IsHeldVector C E told position h v (box_position b) → IsSpreadVector b.coordinate.spread E position
  spread_of_position held = record {
    x = let k = held.x.known is_told ok in record { measured = k.measured; spread = k.narrow };
    y = let k = held.y.known is_told ok in record { measured = k.measured; spread = k.narrow };
    z = let k = held.z.known is_told ok in record { measured = k.measured; spread = k.narrow };
  }

-- ---- positions are far out
between_ends : (h : Place) (l u x y : ℚ) → l ≤ℚ x → x ≤ℚ u → l ≤ℚ y → y ≤ℚ u → (l ≤ℚ on_line h x y) × (on_line h x y ≤ℚ u)
between_ends h l u x y a b c d = (
  le_by (l ∷ x ∷ y ∷ h.at ∷ []) (known 1 2 ⊗ (gap h.high ⊗ gap a ⊕ gap h.low ⊗ gap c)) (search reads depth 90) tt,
  le_by (u ∷ x ∷ y ∷ h.at ∷ []) (known 1 2 ⊗ (gap h.high ⊗ gap b ⊕ gap h.low ⊗ gap d)) (search reads depth 90) tt,
)

-- between two instants that are near all are
pub line_near : (h : Place) (epoch start : ℤ) (m n : ℕ) → WeekInside (units_from epoch (tick_instant start m)) → WeekInside (units_from epoch (tick_instant start n)) →
    WeekInside (units_from epoch start +ℚ time_of_place (on_line h (of_int (pos m)) (of_int (pos n))))
line_near h epoch start m n first last =
    let p = ends (negsuc 6152) 10000 (pos 6153) 10000 (subst WeekInside (sym (tick_units epoch start m)) first) in
    let q = ends (negsuc 6152) 10000 (pos 6153) 10000 (subst WeekInside (sym (tick_units epoch start n)) last) in
    let z = between_ends h (ratio (negsuc 6152) 10000) (ratio (pos 6153) 10000) _ _ p.0 p.1 q.0 q.1 in
    subst WeekInside (line_is h (units_from epoch start) (of_int (pos m)) (of_int (pos n))) (inside (negsuc 6152) 10000 (pos 6153) 10000 z.0 z.1)
  where
    line_is : (h : Place) (u x y : ℚ) → on_line h (u +ℚ time_of_place x) (u +ℚ time_of_place y) ≡ u +ℚ time_of_place (on_line h x y)
    line_is h u x y = ring (h.at ∷ u ∷ x ∷ y ∷ []) (search reads depth 90) tt

pub far_out : (set : ElementsRecord) (consts : Consts Plain) (start : ℤ) (place : ℚ) (r : Vector) → IsCraft set consts → WeekInside (units_from set.epoch start +ℚ time_of_place place) →
    IsPositionAt (record_of_elements set) (instant_of_place start place) r → IsFarOut r
far_out set consts start place r craft week p =
    let s = p.mean_is.secular in
    let mean = subst (λ z. IsMeanUnguarded p.constants z s p.pi p.mean) (sym (minutes_over (record_of_elements set) start place)) p.mean_is.unguarded in
    let orbit = near_orbit (record_of_elements set) p.pi (units_from set.epoch start +ℚ time_of_place place) p.constants p.mean s consts p.pi_is craft.near_earth p.constants_are (craft.held middle p.pi p.constants p.pi_is p.constants_are) week mean in
    let within = position_within p.constants p.mean p.position_is.periodic s.tempa p.pi p.root r p.pi_is orbit p.position_is.unguarded in
    record { square = within.0; most = within.1 }
