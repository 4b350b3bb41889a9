-- Within seven days of the epoch bounds are found: no guard fails.
use Rattle.std.proofs.Common.{◌≡◌, arith, inl, inr, subst, sym, T, [], ◌∷◌, ◌<◌, ◌*◌, ◌^◌, ℤ, pos, unsigned_abs}
use Rattle.std.proofs.lemmas.Int.{ints, by_lt_z}
use Rattle.exact.specs.Rational.{ℚ, ◌*ℚ◌, ◌≤ℚ◌}
use Rattle.exact.proofs.Order.{gap, known, le_by, ◌⊕◌}
use Rattle.exact.specs.Interval.{number_of}
use Rattle.exact.proofs.RationalRing.{reads}
use Rattle.elements.specs.Elements.{ElementsRecord, record_of_elements}
use Rattle.enc_plain.specs.declared.plain.Plain.{Plain}
use Rattle.fixed_iv.specs.Follows.{Encloses}
use Rattle.fixed_iv.specs.Place.{Place}
use Rattle.fixed_iv.specs.declared.enc.Enc.{Ghosts}
use Rattle.fixed_iv.proofs.Held.{Contained}
use Rattle.fixed_iv.proofs.OuterLemmas.{number_ratio}
use Rattle.sgp4_drag.specs.Secular.{IsOutOfGuard}
use Rattle.sgp4_init.specs.ReachConsts.{reach_consts}
use Rattle.sgp4_model.specs.Angle.{least_pi}
use Rattle.sgp4_model.specs.EpochTime.{minutes_since_epoch}
use Rattle.sgp4_model.specs.MeanElements.{IsMean}
use Rattle.sgp4_model.specs.Position.{IsPosition, least_distance}
use Rattle.sgp4_model.specs.PositionAt.{IsPositionAt}
use Rattle.sgp4_model.specs.Vector.{Vector}
use Rattle.orbit_sight.proofs.SomePi.{some_pi}
use Rattle.sgp4_shape.specs.Covering.{unit_minutes}
use Rattle.sgp4_shape.specs.HeldConsts.{IsHeldConsts}
use Rattle.sgp4_shape.specs.HeldMean.{IsHeldMean}
use Rattle.sgp4_shape.specs.declared.consts.Consts.{Consts}
use Rattle.sgp4_shape.specs.declared.mean.Mean.{Mean}
use Rattle.sgp4_periodic.specs.Unplaced.{IsUnplaced}
use Rattle.sgp4_periodic.proofs.PlaceLemmas.{ellipse_of_position}
use Rattle.orbit_sight.specs.Box.{IsFit, IsOrbitInBox, OrbitBox}
use Rattle.orbit_sight.specs.TakenBoxes.{cell_box, instant_box, taken_far}
use Rattle.orbit_sight.proofs.GuardLemmas.{axis_certified, distance_certified, inside_guard, rectum_certified, vector_certified}
use Rattle.orbit_sight.proofs.SolutionLemmas.{Solution}

-- what is not near is away
pub away_unless : (z : ℤ) → ((¬ (604800 * 10 ^ 9 < unsigned_abs z)) → ⊥) → 604800 * 10 ^ 9 < unsigned_abs z
away_unless z f = by_lt_z (pos 604800000000000) (pos (unsigned_abs z)) (λ p. omega (arith, ints, p)) (λ p. absurd (f (λ q. omega (arith, ints, p, q))))

module _ (set : ElementsRecord) (x : ℚ) (consts : Consts Plain) (known_at : Solution set x consts) where
  open known_at use {constants, mean, periodic, secular}

  -- the guards hold of the solution
  pub mean_of : IsMean constants least_pi (unit_minutes 1 *ℚ x) mean
  mean_of = record { secular = secular; unguarded = known_at.mean_is; guarded = known_at.eccentricity; axis_guarded = known_at.axis }

  pub distance_guarded : least_distance ≤ℚ periodic.mrt
  distance_guarded = le_by (periodic.mrt ∷ []) (gap known_at.far ⊕ known 14 1000) (search reads depth 90) tt

  abbrev pub position_of : IsPosition constants mean least_pi known_at.root known_at.position
  position_of = record { periodic = periodic; unguarded = known_at.position_is; guarded = distance_guarded }

  -- so it is a position at the instant of this time
  pub is_position_at : (at : ℚ) → unit_minutes 1 *ℚ x ≡ minutes_since_epoch (record_of_elements set) at → IsPositionAt (record_of_elements set) at known_at.position
  is_position_at at is = record {
    pi = least_pi;
    pi_is = some_pi;
    constants = constants;
    constants_are = known_at.constants_are;
    mean = mean;
    mean_is = subst (λ y. IsMean constants least_pi y mean) is mean_of;
    root = known_at.root;
    position_is = position_of;
  }

  pub position_at : (at : ℚ) → unit_minutes 1 *ℚ x ≡ minutes_since_epoch (record_of_elements set) at → (r : Vector) × IsPositionAt (record_of_elements set) at r
  position_at at is = (known_at.position, is_position_at at is)

  far_enough : number_of taken_far ≤ℚ periodic.mrt
  far_enough = subst (λ z. z ≤ℚ periodic.mrt) (sym (number_ratio taken_far)) known_at.far

  -- it lies in the boxes of an instant and of a least cell
  pub in_instant_box : IsOrbitInBox constants periodic instant_box
  in_instant_box = record { drag = known_at.drag_in_box; position = known_at.in_box; far = far_enough }

  pub in_cell_box : IsOrbitInBox constants periodic cell_box
  in_cell_box = record { drag = known_at.drag_in_box; position = known_at.in_box; far = far_enough }

-- what lies in a box that fits meets the guards, with any enclosure that tells its spread
module _ {A : Type 0} (E : Ghosts A) (law : Contained E.covers E.extent) (is_told : T E.tells) (b : OrbitBox) (fit : IsFit reach_consts b) (set : ElementsRecord) (x : ℚ) (plain : Consts Plain)
    (known_at : Solution set x plain) (in_box : IsOrbitInBox known_at.constants known_at.periodic b) {h : Place} (consts : Consts A)
    (held_consts : IsHeldConsts E.covers E.extent E.tells consts h known_at.constants reach_consts) where
  open known_at use {constants, mean, periodic, secular}

  -- the eccentricity and the semimajor axis are inside their guards
  pub not_out_of_guard : (time : A) → Encloses E time h x b.time → IsOutOfGuard E consts time → ⊥
  not_out_of_guard time held (inl u) =
      u.outside (inside_guard law is_told reach_consts b fit u.ecc secular.ecc (u.held h least_pi x constants secular mean reach_consts b.time b.drag some_pi held_consts held in_box.drag known_at.mean_is))
  not_out_of_guard time held (inr u) =
      u.low (axis_certified law is_told reach_consts b fit u.am mean.am (u.held h least_pi x constants secular mean reach_consts b.time some_pi held_consts held known_at.mean_is))

  -- Kepler's equation, the semilatus rectum and the distance are certified
  pub not_unplaced : (m : Mean A) → IsHeldMean E.covers E.extent E.tells m h mean b.mean → IsUnplaced E.covers E.extent E.tells consts m → ⊥
  not_unplaced m held (inl u) =
      let e = u.held h least_pi constants mean periodic reach_consts b.mean some_pi held_consts held (ellipse_of_position known_at.position_is) in
      elim u.outside [
        | inl v ↦ vector_certified law is_told reach_consts b fit u.ellipse.ax u.ellipse.ay periodic.ax periodic.ay e.ax e.ay v
        | inr f ↦ f (rectum_certified law is_told reach_consts b fit u.ellipse.pl periodic.pl e.pl)
      ]
  not_unplaced m held (inr u) =
      u.low (distance_certified law is_told reach_consts b fit u.mrt periodic.mrt (u.held h least_pi known_at.root constants mean periodic known_at.position reach_consts b.mean b.position some_pi held_consts held known_at.position_is in_box.position) in_box.far)
