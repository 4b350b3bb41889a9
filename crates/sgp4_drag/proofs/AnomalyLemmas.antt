-- The mean anomaly, and the eccentricity before it is raised.
use Rattle.std.proofs.Common.{◌∙◌, ap, sym}
use Rattle.exact.specs.Rational.{ℚ, ◌-ℚ◌, ◌*ℚ◌}
use Rattle.fixed_iv.specs.Follows.{Encloses, Follows3, Follows7}
use Rattle.fixed_iv.specs.Place.{Place}
use Rattle.fixed_iv.specs.Reach.{Reach}
use Rattle.fixed_iv.specs.declared.enc.Enc.{Ghosts}
use Rattle.fixed_iv.proofs.Held.{Contained, held_at}
use Rattle.fixed_iv.proofs.Promises.{Product, Sum, Turn, product, sum, turn}
use Rattle.sgp4_model.specs.Angle.{IsPi}
use Rattle.sgp4_model.specs.MeanElements.{IsMeanUnguarded, SecularRecord}
use Rattle.sgp4_model.specs.OrbitRecords.{ConstRecord, MeanRecord}
use Rattle.sgp4_shape.specs.declared.consts.Consts.{Consts}
use Rattle.sgp4_shape.specs.Covering.{unit_minutes}
use Rattle.sgp4_shape.specs.Expected.{DragBox, IsInDragBox}
use Rattle.sgp4_shape.specs.HeldConsts.{ConstReach, IsHeldConsts}
use Rattle.sgp4_shape.proofs.ExpectedHeld.{expected_held}
use Rattle.sgp4_drag.specs.Lines.{decayed, drag_correction, grown}
use Rattle.sgp4_drag.specs.Secular.{reach_ecc, reach_g, reach_mm}
use Rattle.sgp4_drag.proofs.SecularLemmas.{correction_is, decay_is, rate_is}

-- the correction by drag, the mean anomaly with it, and the eccentricity are enclosed
pub record IsBegun {A : Type 0} (E : Ghosts A) (correction anomaly eccentricity : A) (h : Place) (s : SecularRecord) (r : ConstReach) (n : Reach) (b : DragBox) : Type 0 where
  pub g : Encloses E correction h s.g (reach_g r n b)
  pub mm : Encloses E anomaly h s.mm (reach_mm r n b)
  pub ecc : Encloses E eccentricity h s.ecc (reach_ecc r n b)

pub begun : {A : Type 0} {E : Ghosts A} {k : Consts A} {t mf bend g mm ecc : A} {first second : A × A} →
    Contained E.covers E.extent → Follows3 E mf grown k.m0 k.mdot t → Turn E mf first →
    Product E k.xmcof k.eta bend → Follows7 E g drag_correction k.omgcof k.xmcof bend k.eta k.delmo first.1 t →
    Sum E mf g mm → Turn E mm second →
    Follows7 E ecc decayed k.e k.bstar k.c4 k.c5 k.sin_m0 second.0 t →
    {h : Place} {pi x : ℚ} {c : ConstRecord} {s : SecularRecord} {m : MeanRecord} {r : ConstReach} {n : Reach} (b : DragBox) →
    IsPi pi → IsHeldConsts E.covers E.extent E.tells k h c r → Encloses E t h x n → IsInDragBox c b →
    IsMeanUnguarded c (unit_minutes 1 *ℚ x) s pi m → IsBegun E g mm ecc h s r n b
begun law grows turns bends corrects sums turns_again decays {x = x} {c} {s} b is_pi held t small mean =
    let angles = mean.angles in
    let factors = mean.factors in
    let mf = held_at (rate_is x c.m0 c.mdot ∙ sym angles.mf_is) (grows.gives held.m0 held.mdot t) in
    let cosine = (turn turns is_pi angles.mf_pair mf).1 in
    let bend = expected_held b.known b.bend (product law bends held.xmcof held.eta) small in
    let g = held_at (correction_is x c.omgcof c.xmcof c.eta c.delmo s.of_mf.cosine ∙ sym angles.g_is) (corrects.gives held.omgcof held.xmcof bend held.eta held.delmo cosine t) in
    let mm = held_at (sym angles.mm_is) (sum law sums mf g) in
    let sine = (turn turns_again is_pi factors.mm_pair mm).0 in
    let less = decay_is x c.e c.bstar c.c4 c.c5 c.sin_m0 s.of_mm.sine ∙ ap (λ z. c.e -ℚ z) (sym factors.tempe_is) in
    record { g = g; mm = mm; ecc = held_at (less ∙ sym mean.elements.ecc_is) (decays.gives held.e held.bstar held.c4 held.c5 held.sin_m0 sine t) }
