use Rattle.std.proofs.Common.{◌∙◌, ap, arith, inl, inr, sym}
use Rattle.exact.specs.Rational.{◌+ℚ◌, ◌*ℚ◌}
use Rattle.fixed_iv.specs.Reach.{nothing}
use Rattle.fixed_iv.proofs.Held.{covered, held_at}
use Rattle.fixed_iv.proofs.Promises.{difference, product, sum}
use Rattle.sgp4_shape.proofs.CoveredConsts.{covered_consts}
use Rattle.sgp4_shape.proofs.ExpectedHeld.{no_drag_box}
use Rattle.sgp4_model.proofs.MeanExists.{mean_elements_exist}
use Rattle.sgp4_shape.specs.Covering.{unit_minutes}
use Rattle.sgp4_drag.proofs.AnomalyLemmas.{begun}
use Rattle.sgp4_drag.proofs.AxisLemmas.{axis_held}
use Rattle.sgp4_drag.proofs.GuardLemmas.{held_at_least_1, held_guarded}
use Rattle.sgp4_drag.proofs.SecularLemmas.{longitude_is, node_is, raised_is, rate_is, untrue}
use Rattle.sgp4_drag.proofs.mean.secular.Goals as goal

pub returns-then-not-is_guarded-clause-none : goal.returns-then-not-is_guarded-clause-none
returns-then-not-is_guarded-clause-none g c =
    inl
    record {
      ecc = c.decayed-ecc.result;
      held = λ h pi x k s m r n b is_pi held t small mean.
          (begun g.met.E.Enc.contained c.grown-mf.ensures c.sincos-cosine.ensures c.times-bend.ensures c.drag_correction-g.ensures c.plus-mm.ensures c.sincos-sine.ensures c.decayed-ecc.ensures b is_pi held t small mean).ecc;
      outside = λ inside. untrue c.if-not-is_guarded.true (c.is_guarded.ensures.1 (rw c.bounds.ensures inside));
    }

pub returns-then-not-are_at_least_1-clause-none : goal.returns-then-not-are_at_least_1-clause-none
returns-then-not-are_at_least_1-clause-none g c =
    inr
    record {
      am = c.semimajor_axis-am.result;
      held = λ h pi x k s m r n is_pi held t mean.
          axis_held g.met.E.Enc.contained c.times-t2.ensures c.times-t3.ensures c.times-t4.ensures c.drag_factor-tempa.ensures c.semimajor_axis-am.ensures held t mean;
      low = λ inside. untrue c.if-not-are_at_least_1.true (c.are_at_least_1.ensures.1 (rw c.bounds-2.ensures inside));
    }

pub returns-clause-held : goal.returns-clause-held
returns-clause-held g c h pi x k m r n b held t small is_pi guarded =
    let law = g.met.E.Enc.contained in
    let s = guarded.secular in
    let mean = guarded.unguarded in
    let angles = mean.angles in
    let factors = mean.factors in
    let elements = mean.elements in
    let start = begun law c.grown-mf.ensures c.sincos-cosine.ensures c.times-bend.ensures c.drag_correction-g.ensures c.plus-mm.ensures c.sincos-sine.ensures c.decayed-ecc.ensures b is_pi held t small mean in
    let t2 = product law c.times-t2.ensures t t in
    let t3 = product law c.times-t3.ensures t2 t in
    let t4 = product law c.times-t4.ensures t2 t2 in
    let templ = c.longitude_gain-templ.ensures.gives held.t2cof held.t3cof held.t4cof held.t5cof t t2 t3 t4 in
    let ml = sum law c.plus.ensures start.mm (product law c.times.ensures held.n0 templ) in
    let wf = held_at (rate_is x k.w0 k.wdot ∙ sym angles.wf_is) (c.grown.ensures.gives held.w0 held.wdot t) in
    record {
      am = axis_held law c.times-t2.ensures c.times-t3.ensures c.times-t4.ensures c.drag_factor-tempa.ensures c.semimajor_axis-am.ensures held t mean;
      em = c.raised.ensures.gives (raised_is s.ecc m.em elements.em_is elements.em_is_else) start.ecc;
      ml = held_at (longitude_is x s.mm k.n0 k.t2cof k.t3cof k.t4cof k.t5cof ∙ ap (λ z. s.mm +ℚ k.n0 *ℚ z) (sym factors.templ_is) ∙ sym elements.ml_is) ml;
      wm = held_at (sym angles.wm_is ∙ sym elements.wm_is) (difference law c.minus.ensures wf start.g);
      om = held_at (node_is x k.o0 k.odot k.nodecf ∙ sym angles.om_is ∙ sym elements.om_is) (c.node.ensures.gives held.o0 held.odot held.nodecf t t2);
    }

pub returns-clause-covers : goal.returns-clause-covers
returns-clause-covers g c h pi x k m consts t is_pi mean =
    let held = returns-clause-held g c h pi x k m _ nothing no_drag_box (covered_consts _ _ _ _ _ consts h) (covered t) (λ u. absurd u) is_pi mean in
    record { am = held.am.covers; em = held.em.covers; ml = held.ml.covers; wm = held.wm.covers; om = held.om.covers }

pub returns-clause-exists : goal.returns-clause-exists
returns-clause-exists g c h pi x k consts t is_pi =
    let law = g.met.E.Enc.contained in
    let found = mean_elements_exist k pi (unit_minutes 1 *ℚ x) is_pi in
    let s = found.0 in
    let mean = found.1.1 in
    let held = covered_consts _ _ g.E.Enc.tells _ k consts h in
    let start = begun law c.grown-mf.ensures c.sincos-cosine.ensures c.times-bend.ensures c.drag_correction-g.ensures c.plus-mm.ensures c.sincos-sine.ensures c.decayed-ecc.ensures no_drag_box is_pi held (covered t) (λ u. absurd u) mean in
    let axis = axis_held law c.times-t2.ensures c.times-t3.ensures c.times-t4.ensures c.drag_factor-tempa.ensures c.semimajor_axis-am.ensures held (covered t) mean in
    let inside = rw c.bounds.ensures at (c.is_guarded.ensures.0 (grind (arith, c.if-not-is_guarded.false))) in
    let high = rw c.bounds-2.ensures at (c.are_at_least_1.ensures.0 (grind (arith, c.if-not-are_at_least_1.false))) in (
      found.1.0,
      record {
        secular = s;
        unguarded = mean;
        guarded = held_guarded _ s.ecc inside (law _ h s.ecc start.ecc.covers);
        axis_guarded = held_at_least_1 _ found.1.0.am high (law _ h found.1.0.am axis.covers);
      },
    )
