-- How far apart the bounds of a position are, by numerals.
use Rattle.std.proofs.Common.{◌≡◌, arith, refl, true, ◌≤◌, ◌^◌, ℕ, ℤ, pos, negsuc, [], ◌∷◌, ◌+ℤ◌, ◌-ℤ◌, ◌≤ℤ◌, T}
use Rattle.std.proofs.lemmas.Int.{ints}
use Rattle.exact.specs.Rational.{of_int, ratio, zero_ℚ, ◌+ℚ◌, ◌≤ℚ◌}
use Rattle.exact.proofs.Bounds.{abs_le}
use Rattle.exact.proofs.Integers.{le_of_int, of_int_add, of_int_is}
use Rattle.exact.specs.Interval.{between}
use Rattle.exact.proofs.Intervals.{le_on}
use Rattle.exact.proofs.Order.{known, le_by, le_trans}
use Rattle.exact.proofs.RationalRing.{reads}
use Rattle.elements.specs.Elements.{ElementsRecord}
use Rattle.enc_plain.specs.declared.plain.Plain.{Plain}
use Rattle.fixed_iv.specs.Ends.{in_units}
use Rattle.fixed_iv.specs.Extent.{AreSmall, width_of}
use Rattle.fixed_iv.specs.Holds.{IsBounded, IsTightest}
use Rattle.fixed_iv.specs.Place.{Place}
use Rattle.fixed_iv.specs.Reach.{IsGiven, IsHeld}
use Rattle.fixed_iv.specs.declared.iv.Iv.{Iv}
use Rattle.fixed_iv.specs.declared.vec3.Vec3.{Vec3}
use Rattle.fixed_iv.proofs.NarrowLemmas.{measured_of}
use Rattle.fixed_iv.proofs.OuterLemmas.{width_is}
use Rattle.fixed_iv.proofs.WidthLemmas.{tight_bounded, tight_width}
use Rattle.sgp4_model.specs.Vector.{Vector}
use Rattle.fixed_iv.specs.EnclosedVector.{IsHeldVector}
use Rattle.orbit_sight.specs.Box.{OrbitBox}
use Rattle.orbit_sight.specs.TakenBoxes.{instant_box}
use Rattle.orbit_sight.specs.Craft.{IsBoundedVector, IsNarrowVector, plain_covers, plain_extent}
use Rattle.orbit_sight.specs.Moment.{units_from}
use Rattle.orbit_sight.proofs.GuardLemmas.{box_position}
use Rattle.orbit_sight.proofs.OrbitLemmas.{WeekInside}

-- ---- the time: within seven days, and two units wide
at_most_2 : (v : Iv) → of_int v.hi ≤ℚ of_int v.lo +ℚ zero_ℚ +ℚ ratio (pos 2) 1 → width_of v ≤ 2
at_most_2 v h = of_ends (width_of v) v.lo v.hi (width_is v) (le_of_int (le_trans h (rw (of_int_add v.lo (pos 2), of_int_is (pos 2)) (le_by (of_int v.lo ∷ []) (known 0 1) (search reads depth 90) tt))))
  where
    of_ends : (n : ℕ) (lo hi : ℤ) → pos n ≡ hi -ℤ lo → hi ≤ℤ (lo +ℤ pos 2) → n ≤ 2
    of_ends n lo hi e k = omega (arith, ints, e, k)

pub time_given : (v : Iv) (epoch at : ℤ) → IsTightest (λ x. x ≡ units_from epoch at) v → WeekInside (units_from epoch at) → IsGiven v (units_from epoch at) (between (negsuc 6152) 10000 (pos 6153) 10000) 2
time_given v epoch at tight inside = record {
  holds = tight.holds _ refl;
  bounded = bounded;
  within = at_most_2 v (tight_width zero_ℚ tight bounded refl (λ y z e f. rw (e, f) (le_by ((in_units (units_from epoch at)) ∷ []) (known 0 1) (search reads depth 90) tt)));
  inside = inside;
}
  where
    small : AreSmall (λ x. x ≡ units_from epoch at)
    small z e =
        rw e
        (abs_le
        (le_on (10 ^ 30) (between (negsuc 6152) 10000 (pos 6153) 10000 ∷ []) ((units_from epoch at) ∷ []) (inside, tt) (search reads depth 90) tt)
        (le_on (10 ^ 30) (between (negsuc 6152) 10000 (pos 6153) 10000 ∷ []) ((units_from epoch at) ∷ []) (inside, tt) (search reads depth 90) tt))

    bounded : IsBounded v
    bounded = tight_bounded tight small

pub time_held : (set : ElementsRecord) (at : ℤ) (time : Plain) → IsTightest (λ x. x ≡ units_from set.epoch at) time.iv → WeekInside (units_from set.epoch at) → (h : Place) →
    IsHeld plain_covers plain_extent true time h (units_from set.epoch at) instant_box.time
time_held set at time tight inside h =
    let g = time_given time.iv set.epoch at tight inside in
    record { covers = g.holds; known = λ _ _. record { inside = g.inside; measured = measured_of time.iv g.bounded; narrow = g.within } }

-- ---- the position
module _ (b : OrbitBox) (ok : T b.coordinate.ok) {position : Vec3 Plain} {h : Place} {v : Vector} (held : IsHeldVector plain_covers plain_extent true position h v (box_position b)) where
  pub narrow : IsNarrowVector b.coordinate.spread (record { x = position.x.iv; y = position.y.iv; z = position.z.iv })
  narrow = record {
    x = (held.x.known tt ok).narrow;
    y = (held.y.known tt ok).narrow;
    z = (held.z.known tt ok).narrow;
  }

  pub bounded : IsBoundedVector (record { x = position.x.iv; y = position.y.iv; z = position.z.iv })
  bounded = record {
    x = (held.x.known tt ok).measured.bounded;
    y = (held.y.known tt ok).measured.bounded;
    z = (held.z.known tt ok).measured.bounded;
  }

-- an instant's coordinates are at most 1/640,000 of an Earth radius wide
pub wider : {v : Vec3 Iv} → IsNarrowVector 226000000 v → IsNarrowVector 439804651 v
wider n = record { x = more _ n.x; y = more _ n.y; z = more _ n.z }
  where
    more : (w : ℕ) → w ≤ 226000000 → w ≤ 439804651
    more w h = omega arith
