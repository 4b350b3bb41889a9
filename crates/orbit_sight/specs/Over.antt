-- The positions of a set over a cell of a window: which are covered, how narrow an enclosed one is, and how far out each is.
use Rattle.std.specs.Prelude.{ℕ, ℤ, pos}
use Rattle.exact.specs.Rational.{ℚ, of_int, ratio, ◌+ℚ◌, ◌*ℚ◌, ◌≤ℚ◌}
use Rattle.earth_frame.specs.Spread.{IsSpreadWithin}
use Rattle.elements.specs.Window.{tick_instant}
use Rattle.fixed_iv.specs.Extent.{Extent}
use Rattle.fixed_iv.specs.Place.{Place, on_line}
use Rattle.fixed_iv.specs.declared.enc.Enc.{Ghosts}
use Rattle.fixed_iv.specs.declared.vec3.Vec3.{Vec3}
use Rattle.sgp4_model.specs.PositionAt.{IsPositionAt}
use Rattle.sgp4_model.specs.Records.{SetRecord}
use Rattle.sgp4_model.specs.Time.{instant_of_place}
use Rattle.sgp4_model.specs.Vector.{Vector}
use Rattle.sgp4_motion.specs.Fate.{IsFar}
use Rattle.fixed_iv.specs.EnclosedVector.{CoversVector, IsHeldVector}
use Rattle.orbit_sight.specs.TakenBoxes.{cell_position, cell_spread}

-- each coordinate has bounds no wider than its spread, which is at most so many units of 2^-48
pub record IsSpreadVector {A : Type 0} (most : ℕ) (extent : A → Extent) (position : Vec3 A) : Type 0 where
  pub x : IsSpreadWithin most (extent position.x)
  pub y : IsSpreadWithin most (extent position.y)
  pub z : IsSpreadWithin most (extent position.z)

-- its square is at least 1.069, and at most 12.1: it is more than 1.033 Earth radii from there, and less than 3.48
pub record IsFarOut (r : Vector) : Type 0 where
  pub square : ratio (pos 1069) 1000 ≤ℚ r.x *ℚ r.x +ℚ r.y *ℚ r.y +ℚ r.z *ℚ r.z
  pub most : r.x *ℚ r.x +ℚ r.y *ℚ r.y +ℚ r.z *ℚ r.z ≤ℚ ratio (pos 121) 10

-- no end of a window of so many ticks is more than seven days from the epoch of the set
abbrev pub IsNearOver : SetRecord → ℤ → ℕ → Type 0
IsNearOver set start ticks = ¬ IsFar set start (tick_instant start ticks)

-- a cell from one tick of a window to another
pub record CellRecord : Type 0 where
  pub start : ℤ
  pub from : ℕ
  pub to : ℕ

abbrev pub cell_of : ℤ → ℕ → ℕ → CellRecord
cell_of start from to = record { start = start; from = from; to = to }

-- a place of the cell, from -1 at its first tick to 1 at its last, as a place of the window; and its instant
abbrev pub place_on : CellRecord → Place → ℚ
place_on cell h = on_line h (of_int (pos cell.from)) (of_int (pos cell.to))

abbrev pub instant_on : CellRecord → Place → ℚ
instant_on cell h = instant_of_place cell.start (place_on cell h)

module _ (set : SetRecord) (cell : CellRecord) where
  -- at each place of the cell each position of the set is covered
  abbrev pub CoversEachPosition : {A : Type 0} → Ghosts A → Vec3 A → Type 0
  CoversEachPosition E position = (h : Place) (r : Vector) → IsPositionAt set (instant_on cell h) r → CoversVector E.covers position h r

  -- there is one
  abbrev pub EachPlaceHasAPosition : Type 0
  EachPlaceHasAPosition = (h : Place) → (r : Vector) × IsPositionAt set (instant_on cell h) r

  -- each is far out
  abbrev pub EachPositionIsFarOut : Type 0
  EachPositionIsFarOut = (h : Place) (r : Vector) → IsPositionAt set (instant_on cell h) r → IsFarOut r

  -- the enclosed position is narrow, and at some place of the cell a position is enclosed as the numerals of a least cell say
  pub record IsLeastPosition {A : Type 0} (E : Ghosts A) (position : Vec3 A) : Type 0 where
    pub spread : IsSpreadVector cell_spread E.extent position
    pub at : Place
    pub r : Vector
    pub is : IsPositionAt set (instant_on cell at) r
    pub held : IsHeldVector E.covers E.extent E.tells position at r cell_position
