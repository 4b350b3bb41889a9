-- From enclosed constants to the bounds of a position, or to why there are none.
use Rattle.std.proofs.Common.{◌≡◌, subst, sym, ℤ, Option, None, Some}
use Rattle.std.specs.Prelude.{IfNone, IfSome, MatchOption}
use Rattle.exact.specs.Rational.{ℚ, ◌*ℚ◌}
use Rattle.elements.specs.Elements.{ElementsRecord, record_of_elements}
use Rattle.enc_plain.specs.declared.plain.Plain.{Plain}
use Rattle.enc_plain.proofs.PlainHeld.{middle}
use Rattle.fixed_iv.specs.Place.{Place}
use Rattle.fixed_iv.specs.declared.iv.Iv.{Iv}
use Rattle.fixed_iv.specs.declared.vec3.Vec3.{Vec3}
use Rattle.sgp4_model.specs.Angle.{IsPi}
use Rattle.sgp4_model.specs.EpochTime.{minutes_since_epoch}
use Rattle.sgp4_model.specs.MeanElements.{IsMean}
use Rattle.sgp4_model.specs.OrbitRecords.{ConstRecord, MeanRecord}
use Rattle.sgp4_model.specs.Position.{IsPosition}
use Rattle.sgp4_model.specs.PositionAt.{IsPositionAt}
use Rattle.sgp4_model.specs.Time.{instant_of_nanos}
use Rattle.sgp4_model.specs.Vector.{Vector}
use Rattle.fixed_iv.specs.EnclosedVector.{CoversVector}
use Rattle.sgp4_shape.specs.Covering.{CoversConsts, CoversMean, unit_minutes}
use Rattle.sgp4_shape.specs.declared.consts.Consts.{Consts}
use Rattle.sgp4_shape.specs.declared.mean.Mean.{Mean}
use Rattle.orbit_sight.specs.Craft.{HoldsVector, IsBoundedVector, IsCraft, plain_covers}
use Rattle.orbit_sight.specs.Moment.{units_from}
use Rattle.orbit_sight.proofs.MomentLemmas.{minutes_are}

-- enclosed constants and an enclosed time give enclosed mean elements
abbrev pub CoverMeans : Consts Plain → Plain → Mean Plain → Type 0
CoverMeans consts time mean = (h : Place) (pi x : ℚ) (k : ConstRecord) (m : MeanRecord) → CoversConsts plain_covers consts k → plain_covers time h x → IsPi pi → IsMean k pi (unit_minutes 1 *ℚ x) m → CoversMean plain_covers mean h m

-- enclosed constants and mean elements give an enclosed position
abbrev CoverPositions : Consts Plain → Mean Plain → Vec3 Plain → Type 0
CoverPositions consts mean position = (h : Place) (pi root : ℚ) (k : ConstRecord) (m : MeanRecord) (v : Vector) → IsPi pi → CoversConsts plain_covers consts k → CoversMean plain_covers mean h m → IsPosition k m pi root v → CoversVector plain_covers position h v

-- the mean elements at the instant are enclosed
mean_at : (set : ElementsRecord) (at : ℤ) (consts : Consts Plain) (time : Plain) (mean : Mean Plain) → ((h : Place) → plain_covers time h (units_from set.epoch at)) → CoverMeans consts time mean →
    (h : Place) (pi : ℚ) (k : ConstRecord) (m : MeanRecord) → IsPi pi → CoversConsts plain_covers consts k → IsMean k pi (minutes_since_epoch (record_of_elements set) (instant_of_nanos at)) m → CoversMean plain_covers mean h m
mean_at set at consts time mean t covers h pi k m is_pi c is =
    covers h pi (units_from set.epoch at) k m c (t h) is_pi (subst (λ x. IsMean k pi x m) (sym (minutes_are (record_of_elements set) at)) is)

pub position_held : (set : ElementsRecord) (at : ℤ) (consts : Consts Plain) (time : Plain) (mean : Mean Plain) (position : Vec3 Plain) (r : Vector) →
    IsCraft set consts → ((h : Place) → plain_covers time h (units_from set.epoch at)) → CoverMeans consts time mean → CoverPositions consts mean position →
    IsPositionAt (record_of_elements set) (instant_of_nanos at) r → HoldsVector (record { x = position.x.iv; y = position.y.iv; z = position.z.iv }) r
position_held set at consts time mean position r craft t means positions p =
    let c = craft.enclosed p.pi p.constants p.pi_is p.constants_are in
    let m = mean_at set at consts time mean t means middle p.pi p.constants p.mean p.pi_is c p.mean_is in
    let v = positions middle p.pi p.root p.constants p.mean r p.pi_is c m p.position_is in
    record { x = v.x; y = v.y; z = v.z }

-- a vector that is kept holds what it held, and one that is not kept is not bounded
pub if_kept : (P : Vec3 Iv → Type 0) (o : Option (Vec3 Iv)) (v : Vec3 Iv) → IfSome o (λ kept. (kept ≡ v) × IsBoundedVector v) → P v → IfSome o P
if_kept P None v h p = tt
if_kept P (Some kept) v h p = subst P (sym h.0) p

pub if_not_kept : (P : Type 0) (o : Option (Vec3 Iv)) (v : Vec3 Iv) → IfNone o (¬ IsBoundedVector v) → ((¬ IsBoundedVector v) → P) → IfNone o P
if_not_kept P None v h f = f h
if_not_kept P (Some kept) v h f = tt

-- what holds of what is there, from what holds of it
pub if_there : {V : Type 0} {P Q : V → Type 0} (o : Option V) → IfSome o P → ((v : V) → P v → Q v) → IfSome o Q
if_there None p f = tt
if_there (Some v) p f = f v p

-- where nothing that is missing is possible, something is there
pub always_there : {V : Type 0} {P Q : V → Type 0} {N : Type 0} (o : Option V) → IfSome o P → IfNone o N → ((v : V) → P v → Q v) → (N → ⊥) → MatchOption o ⊥ Q
always_there None p n f g = g n
always_there (Some v) p n f g = f v p
