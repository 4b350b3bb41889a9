-- The sunlight of a satellite over a cell of a window: its track, and what enclosures of the shadow's numbers cover.
use Rattle.std.specs.Prelude.{ℕ, ◌+◌, ◌^◌, pos}
use Rattle.exact.specs.Rational.{ℚ, ◌+ℚ◌, ◌^ℚ◌, one_ℚ, ratio, ◌≤ℚ◌}
use Rattle.earth_frame.specs.Spread.{IsSpreadWithin}
use Rattle.elements.specs.Elements.{ElementsRecord, record_of_elements}
use Rattle.elements.specs.Window.{WindowRecord}
use Rattle.fixed_iv.specs.Holds.{Holds}
use Rattle.fixed_iv.specs.Place.{Place}
use Rattle.fixed_iv.specs.declared.enc.Enc.{Ghosts}
use Rattle.fixed_iv.specs.declared.iv.Iv.{Iv}
use Rattle.lin_form.specs.Covered.{IsCovered}
use Rattle.lin_form.specs.declared.lin.Lin.{Lin}
use Rattle.sgp4_model.specs.Certified.{TrackRecord}
use Rattle.sgp4_model.specs.Light.{ShadowRecord}
use Rattle.sgp4_model.specs.LitSolution.{EachLitSolution, IsLitSolution, lit_track}
use Rattle.sgp4_model.specs.Records.{SetRecord}
use Rattle.sgp4_model.specs.Time.{Throughout}
use Rattle.station_view.specs.Spot.{IsNoWider}
use Rattle.sun_shade.specs.declared.vector.Shade.{Shade}
use Rattle.orbit_sight.specs.Over.{CellRecord, instant_on}

-- the track of sunlight of a satellite over a window
abbrev pub lit_of : ElementsRecord → WindowRecord → TrackRecord
lit_of set window = lit_track (record_of_elements set) window.start window.ticks

-- the square of a position, from the shadow's numbers: g + p^2 + 1
abbrev pub square_of : ShadowRecord → ℚ
square_of v = v.g +ℚ v.p ^ℚ 2 +ℚ one_ℚ

module _ (set : SetRecord) (cell : CellRecord) where
  -- at each place of the cell the numbers of each lit solution are covered
  abbrev pub CoversEachLit : {A : Type 0} → Ghosts A → Shade A → Type 0
  CoversEachLit E shade =
      (h : Place) (v : ShadowRecord) → IsLitSolution set (instant_on cell h) v → E.covers shade.p h v.p × E.covers shade.g h v.g

  -- there is one
  abbrev pub EachPlaceHasALit : Type 0
  EachPlaceHasALit = (h : Place) → (v : ShadowRecord) × IsLitSolution set (instant_on cell h) v

  -- each is far out
  abbrev pub EachLitIsFarOut : Type 0
  EachLitIsFarOut = (h : Place) (v : ShadowRecord) → IsLitSolution set (instant_on cell h) v → ratio (pos 1069) 1000 ≤ℚ square_of v

-- the slope enclosures cover the numbers at the place
pub record CoverShadow (shade : Shade Lin) (h : Place) (v : ShadowRecord) : Type 0 where
  pub p : IsCovered shade.p h v.p
  pub g : IsCovered shade.g h v.g

-- the depth has a spread of at most 2^-17, the height of at most 2^-13
pub record IsLeastShade {A : Type 0} (E : Ghosts A) (shade : Shade A) : Type 0 where
  pub p : IsSpreadWithin (2 ^ 31) (E.extent shade.p)
  pub g : IsSpreadWithin (2 ^ 35) (E.extent shade.g)

-- the bounds of both
abbrev pub bounds_of : {A : Type 0} → Ghosts A → Shade A → Shade Iv
bounds_of E shade = record { p = (E.extent shade.p).ends; g = (E.extent shade.g).ends }

-- the bounds hold the numbers
pub record HoldShadow (shade : Shade Iv) (v : ShadowRecord) : Type 0 where
  pub p : Holds shade.p v.p
  pub g : Holds shade.g v.g

-- at each place of the closed least cell that begins at a tick there is a lit solution, and the bounds hold each one's numbers
abbrev pub HoldsEachLit : ElementsRecord → WindowRecord → ℕ → Shade Iv → Type 0
HoldsEachLit set window tick shade =
    Throughout tick (tick + 1) (EachLitSolution (record_of_elements set) window.start (HoldShadow shade))

-- the bounds of the depth are no wider than 2^-17, those of the height no wider than 2^-13
pub record AreNarrow (shade : Shade Iv) : Type 0 where
  pub p : IsNoWider (2 ^ 31) shade.p
  pub g : IsNoWider (2 ^ 35) shade.g
