use Rattle.std.proofs.Common.{arith, subst, ◌∙◌, ap, sym}
use Rattle.sgp4_model.specs.Angle.{IsSinCos}
use Rattle.sgp4_model.specs.Sidereal.{sidereal_angle}
use Rattle.earth_frame.specs.Over.{instant_after}
use Rattle.earth_frame.proofs.HalfTurnLemmas.{less_turns}
use Rattle.earth_frame.proofs.OffsetLemmas.{in_ut1-after, kept_base, kept_offset}
use Rattle.earth_frame.proofs.SpreadLemmas.{turn_within}
use Rattle.earth_frame.proofs.sidereal_time.sidereal.Goals as goal

pub returns-clause-covers : goal.returns-clause-covers
returns-clause-covers g c h p x turn pi k is =
    let angle = rw (kept_base c.in_ut1.result c.in_ut1.ensures.near) at (c.sidereal_angle.ensures.covers h p x pi k) in
    let base = rw (kept_offset c.args.dut1_ms c.requires) at c.in_ut1.ensures.value in
    let at_base = in_ut1-after c.args.dut1_ms c.args.base x ∙ ap (λ b. instant_after b x) (sym base) in
    let pair = subst (λ at. IsSinCos p (sidereal_angle p at) turn.sine turn.cosine) at_base is in
    c.sincos-sin.ensures.covers h p _ _ _ pi (less_turns p _ _ _ angle.turns pair) angle.covered

pub returns-clause-narrow_sine : goal.returns-clause-narrow_sine
returns-clause-narrow_sine g c h x k told one =
    turn_within (omega arith) (c.sincos-sin.ensures.narrow told).0 (c.sidereal_angle.ensures.narrow h x k told one)

pub returns-clause-narrow_cosine : goal.returns-clause-narrow_cosine
returns-clause-narrow_cosine g c h x k told one =
    turn_within (omega arith) (c.sincos-sin.ensures.narrow told).1 (c.sidereal_angle.ensures.narrow h x k told one)
