use Rattle.std.proofs.Common.{arith, subst}
use Rattle.fixed_iv.proofs.Held.{covered}
use Rattle.sun_shade.proofs.ShadowLemmas.{in_units_within, squared}
use Rattle.sun_shade.proofs.shadow.shade.Goals as goal

pub returns-clause-covers : goal.returns-clause-covers
returns-clause-covers g c h r s pos sun =
    let p = c.depth-p.ensures.follows.gives (covered pos.x) (covered pos.y) (covered pos.z) (covered sun.x) (covered sun.y) (covered sun.z) in
    let height = c.height.ensures.follows.gives (covered pos.x) (covered pos.y) (covered pos.z) p in
    (p.covers, subst (g.E.Enc.covers c.height.result h) (squared _ _) height.covers)

pub returns-clause-narrow_p : goal.returns-clause-narrow_p
returns-clause-narrow_p g c h r s v z small = in_units_within _ (omega arith) (c.depth-p.ensures.thin h r s v z small)

pub returns-clause-narrow_g : goal.returns-clause-narrow_g
returns-clause-narrow_g g c h r s v z small =
    let at = small.position in
    let toward = small.direction in
    let p = c.depth-p.ensures.follows.gives (covered at.x) (covered at.y) (covered at.z) (covered toward.x) (covered toward.y) (covered toward.z) in
    c.height.ensures.thin h r _ v z small.told at p.covers small.near small.narrow_pos small.narrow_sun (c.depth-p.ensures.thin h r s v z small)
