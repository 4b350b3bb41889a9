-- What the answers of `locate` say of a satellite's positions.
use Rattle.std.specs.Prelude.{◌≡◌, ◌≤ℤ◌, ◌+ℤ◌, ℕ, ℤ, pos, List, Some}
use Rattle.catalogue.specs.Entries.{entry_with}
use Rattle.catalogue.specs.declared.entry.Entry.{Entry}
use Rattle.elements.specs.Elements.{ElementsRecord, record_of_elements}
use Rattle.pass_text.specs.LocateLayout.{EdgeRecord, refused, inside}
use Rattle.sat_locate.specs.Edge.{IsBetween}
use Rattle.sat_locate.specs.Found.{IsFoundOf, IsInside}
use Rattle.sgp4_model.specs.PositionAt.{IsPositionAt}
use Rattle.sgp4_model.specs.Time.{instant_of_nanos}
use Rattle.sgp4_model.specs.Vector.{Vector}
use Rattle.sgp4_motion.specs.Fate.{MayAccept, MayRefuse}
use Rattle.sgp4_shape.specs.declared.fault.SatFault.{SatFault}

-- a vector is a position of the set at an instant
abbrev pub IsPositionOf : ElementsRecord → ℤ → Vector → Type 0
IsPositionOf set at r = IsPositionAt (record_of_elements set) (instant_of_nanos at) r

-- bounds hold each coordinate of each position, are at most 10,000 millimetres apart, and come only where there is a position
pub record BoundsHoldPositions : Type 0 where
  pub hold : (set : ElementsRecord) (at : ℤ) (x y z : EdgeRecord) (r : Vector) → IsInside set at x y z → IsPositionOf set at r →
      IsBetween x.low x.high r.x × IsBetween y.low y.high r.y × IsBetween z.low z.high r.z
  pub narrow : (set : ElementsRecord) (at : ℤ) (x y z : EdgeRecord) → IsInside set at x y z →
      (x.high ≤ℤ (x.low +ℤ pos 10_000)) × (y.high ≤ℤ (y.low +ℤ pos 10_000)) × (z.high ≤ℤ (z.low +ℤ pos 10_000))
  pub nowhere : (set : ElementsRecord) (at : ℤ) (x y z : EdgeRecord) → ((r : Vector) → ¬ IsPositionOf set at r) → ¬ IsInside set at x y z

-- the satellite that is found is the catalogue's, under its name; it is refused only where it may be, and placed only where it
-- may be accepted and is inside the bounds
pub record FoundAsItIs : Type 0 where
  pub fate : (entries : List Entry) (number : ℕ) (at : ℤ) (fault : SatFault) (name : List ℕ) → IsFoundOf entries number at (refused fault name) →
      (entry : Entry) × (entry_with number entries ≡ Some entry) × (name ≡ entry.name) × MayRefuse (record_of_elements entry.elements) at at fault
  pub place : (entries : List Entry) (number : ℕ) (at : ℤ) (name : List ℕ) (x y z : EdgeRecord) → IsFoundOf entries number at (inside name x y z) →
      (entry : Entry) × (entry_with number entries ≡ Some entry) × (name ≡ entry.name) × MayAccept (record_of_elements entry.elements) at at × IsInside entry.elements at x y z
