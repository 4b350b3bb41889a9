use Rattle.std.proofs.Common.{arith, inl, inr, refl}
use Rattle.fixed_iv.proofs.Held.{covered}
use Rattle.sgp4_shape.proofs.CoveredConsts.{covered_consts}
use Rattle.sgp4_model.proofs.PositionExists.{position_exists}
use Rattle.sgp4_periodic.proofs.ExistLemmas.{before_root, distance_guarded, is_ellipse, rectum_positive, vector_short}
use Rattle.sgp4_periodic.proofs.PlaceLemmas.{covered_mean, ellipse_of_position, no_box, untrue}
use Rattle.sgp4_periodic.proofs.teme.place.Goals as goal

pub returns-in_err-root-clause-none : goal.returns-in_err-root-clause-none
returns-in_err-root-clause-none g c =
    rw c.from_residual.ensures (inl (record {
      ellipse = c.ellipse_of-ellipse.result;
      held = c.ellipse_of-ellipse.ensures;
      outside = inl (c.in_err-root.ensures.none.0 refl);
    }))

pub returns-then-not-lie_above_0-clause-none : goal.returns-then-not-lie_above_0-clause-none
returns-then-not-lie_above_0-clause-none g c = inl (record {
  ellipse = c.ellipse_of-ellipse.result;
  held = c.ellipse_of-ellipse.ensures;
  outside = inr (λ above. untrue c.if-not-lie_above_0.true (c.lie_above_0.ensures.1 (rw c.bounds.ensures above)));
})

pub returns-then-not-are_distant-clause-none : goal.returns-then-not-are_distant-clause-none
returns-then-not-are_distant-clause-none g c = inr (record {
  mrt = c.corrected_at-at.result.mrt;
  held = λ h pi angle k m q v r n b is_pi consts mean p in_box.
      let ellipse = c.ellipse_of-ellipse.ensures h pi k m q r n is_pi consts mean (ellipse_of_position p) in
      let root = c.in_ok-root.ensures.held h pi _ _ _ angle _ _ _ b.vector is_pi ellipse.u ellipse.ax ellipse.ay in_box.vector (record { turn = _; solves = p.kepler }) in
      let at = c.corrected_at-at.ensures h pi angle k m q v _ _ _ _ b is_pi consts mean ellipse root p (λ _. in_box) in
      at.mrt;
  low = λ above. untrue c.if-not-are_distant.true (c.are_distant.ensures.1 (rw c.bounds-2.ensures above));
})

pub returns-clause-held : goal.returns-clause-held
returns-clause-held g c h pi angle k m v r n b is_pi consts mean guarded in_box =
    let p = guarded.unguarded in
    let ellipse = c.ellipse_of-ellipse.ensures h pi k m _ r n is_pi consts mean (ellipse_of_position p) in
    let root = c.in_ok-root.ensures.held h pi _ _ _ angle _ _ _ b.vector is_pi ellipse.u ellipse.ax ellipse.ay in_box.vector (record { turn = _; solves = p.kepler }) in
    let at = c.corrected_at-at.ensures h pi angle k m _ v _ _ _ _ b is_pi consts mean ellipse root p (λ _. in_box) in
    c.position.ensures h pi k m _ v _ b is_pi at p.corrected_latitude p.vector (λ _. in_box)

pub returns-clause-covers : goal.returns-clause-covers
returns-clause-covers g c h pi angle k m v is_pi consts mean guarded =
    let p = guarded.unguarded in
    let ellipse = c.ellipse_of-ellipse.ensures h pi k m _ _ _ is_pi (covered_consts _ _ g.E.Enc.tells _ k consts h) (covered_mean _ _ g.E.Enc.tells _ h m mean) (ellipse_of_position p) in
    let root = c.in_ok-root.ensures.covers h pi _ _ _ angle is_pi ellipse.u.covers ellipse.ax.covers ellipse.ay.covers (record { turn = _; solves = p.kepler }) in
    let at = c.corrected_at-at.ensures h pi angle k m _ v _ _ _ _ no_box is_pi (covered_consts _ _ g.E.Enc.tells _ k consts h) (covered_mean _ _ g.E.Enc.tells _ h m mean) ellipse (covered root) p (λ u. absurd u) in
    let position = c.position.ensures h pi k m _ v _ no_box is_pi at p.corrected_latitude p.vector (λ u. absurd u) in
    record { x = position.x.covers; y = position.y.covers; z = position.z.covers }

pub returns-clause-exists : goal.returns-clause-exists
returns-clause-exists g c h pi k m is_pi consts mean divides =
    let law = g.met.E.Enc.contained in
    let of_consts = covered_consts _ _ g.E.Enc.tells _ k consts h in
    let of_mean = covered_mean _ _ g.E.Enc.tells _ h m mean in
    let found = position_exists k m pi is_pi divides (λ turn ax ay pair ax_is ay_is.
    let e = c.ellipse_of-ellipse.ensures h pi k m (before_root k m turn ax ay) _ _ is_pi of_consts of_mean (is_ellipse k m turn ax ay pi divides pair ax_is ay_is) in
    (vector_short _ _ ax ay (λ u. untrue (c.in_ok-root.ensures.none.1 u) refl) (law _ h ax e.ax.covers) (law _ h ay e.ay.covers), rectum_positive _ _ (rw c.bounds.ensures at (c.lie_above_0.ensures.0 (grind (arith, c.if-not-lie_above_0.false)))) (law _ h _ e.pl.covers))) in
    let q = found.1.0 in
    let v = found.1.1.0 in
    let p = found.1.1.1 in
    let ellipse = c.ellipse_of-ellipse.ensures h pi k m q _ _ is_pi of_consts of_mean (ellipse_of_position p) in
    let root = c.in_ok-root.ensures.covers h pi _ _ _ found.0 is_pi ellipse.u.covers ellipse.ax.covers ellipse.ay.covers (record { turn = _; solves = p.kepler }) in
    let at = c.corrected_at-at.ensures h pi found.0 k m q v _ _ _ _ no_box is_pi of_consts of_mean ellipse (covered root) p (λ u. absurd u) in
    let far = rw c.bounds-2.ensures at (c.are_distant.ensures.0 (grind (arith, c.if-not-are_distant.false))) in
    (found.0, (v, record { periodic = q; unguarded = p; guarded = distance_guarded _ q.mrt far (law _ h q.mrt at.mrt.covers) }))
