-- The semimajor axis.
use Rattle.std.proofs.Common.{◌∙◌, sym}
use Rattle.exact.specs.Rational.{ℚ, ◌*ℚ◌}
use Rattle.fixed_iv.specs.Follows.{Encloses, Follows2, Follows8}
use Rattle.fixed_iv.specs.Place.{Place}
use Rattle.fixed_iv.specs.Reach.{Reach}
use Rattle.fixed_iv.specs.declared.enc.Enc.{Ghosts}
use Rattle.fixed_iv.proofs.Held.{Contained, held_at}
use Rattle.fixed_iv.proofs.Promises.{Product, product}
use Rattle.sgp4_model.specs.MeanElements.{IsMeanUnguarded, SecularRecord}
use Rattle.sgp4_model.specs.OrbitRecords.{ConstRecord, MeanRecord}
use Rattle.sgp4_shape.specs.declared.consts.Consts.{Consts}
use Rattle.sgp4_shape.specs.Covering.{unit_minutes}
use Rattle.sgp4_shape.specs.HeldConsts.{ConstReach, IsHeldConsts}
use Rattle.sgp4_drag.specs.Lines.{drag_factor, semimajor_axis}
use Rattle.sgp4_drag.specs.Secular.{reach_am}
use Rattle.sgp4_drag.proofs.SecularLemmas.{factor_is, square_is}

-- the axis is enclosed, from powers of the time and the drag factor
pub axis_held : {A : Type 0} {E : Ghosts A} {k : Consts A} {t t2 t3 t4 tempa am : A} → Contained E.covers E.extent →
    Product E t t t2 → Product E t2 t t3 → Product E t2 t2 t4 → Follows8 E tempa drag_factor k.c1 k.d2 k.d3 k.d4 t t2 t3 t4 →
    Follows2 E am semimajor_axis k.a tempa →
    {h : Place} {pi x : ℚ} {c : ConstRecord} {s : SecularRecord} {m : MeanRecord} {r : ConstReach} {n : Reach} →
    IsHeldConsts E.covers E.extent E.tells k h c r → Encloses E t h x n → IsMeanUnguarded c (unit_minutes 1 *ℚ x) s pi m →
    Encloses E am h m.am (reach_am r n)
axis_held law squares cubes fourths factor axis {x = x} {c} {s} held t mean =
    let t2 = product law squares t t in
    let t3 = product law cubes t2 t in
    let t4 = product law fourths t2 t2 in
    let tempa = held_at (factor_is x c.c1 c.d2 c.d3 c.d4 ∙ sym mean.factors.tempa_is) (factor.gives held.c1 held.d2 held.d3 held.d4 t t2 t3 t4) in
    held_at (square_is c.a s.tempa ∙ sym mean.elements.am_is) (axis.gives held.a tempa)
