use Rattle.std.proofs.Common.{◌∙◌, ap, sym, pos}
use Rattle.exact.specs.Rational.{◌*ℚ◌, ◌/ℚ◌}
use Rattle.fixed_iv.specs.Reach.{turned, ◌+ᴿ◌, ◌-ᴿ◌, ◌*ᴿ◌, ◌/ᴿ◌}
use Rattle.fixed_iv.specs.ReachRoots.{cube_rooted, rooted}
use Rattle.fixed_iv.proofs.Held.{claim_held, held_at, within}
use Rattle.fixed_iv.proofs.HeldRoot.{cbrt2_held, sqrt_held}
use Rattle.fixed_iv.proofs.Promises.{difference, number, product, quotient, sum, turn}
use Rattle.sgp4_model.specs.Wgs72.{ke}
use Rattle.sgp4_shape.specs.Covering.{unit_minutes}
use Rattle.sgp4_motion.specs.HeldMotion.{reach_recovered}
use Rattle.sgp4_motion.proofs.FaultLemmas.{le_of_not_lt}
use Rattle.exact.proofs.Strict.{le_of_lt}
use Rattle.sgp4_motion.proofs.RecoveryLemmas.{axis_again, corrected_is, cosine_square_inside, divides_as_product, divides_at, effect_is, from_0, recovered_is, square_is}
use Rattle.sgp4_motion.proofs.recovery.recovered.Goals as goal

pub inclination-i-requires-clause-most : goal.inclination-i-requires-clause-most
inclination-i-requires-clause-most g c = rw c.incl.ensures.value (le_of_not_lt c.requires.ordinary.not_inclined)

pub eccentricity-e-requires-clause-most : goal.eccentricity-e-requires-clause-most
eccentricity-e-requires-clause-most g c = rw c.ecc.ensures.value (le_of_not_lt c.requires.ordinary.not_eccentric)

pub axis_power-power-requires-clause-least : goal.axis_power-power-requires-clause-least
axis_power-power-requires-clause-least g c = rw c.motion.ensures.value (le_of_lt c.requires.between.above)

pub axis_power-power-requires-clause-most : goal.axis_power-power-requires-clause-most
axis_power-power-requires-clause-most g c = rw c.motion.ensures.value (le_of_lt c.requires.between.below)

pub mean_motion-requires-clause-least : goal.mean_motion-requires-clause-least
mean_motion-requires-clause-least g c = rw c.motion-2.ensures.value (le_of_lt c.requires.between.above)

pub mean_motion-requires-clause-most : goal.mean_motion-requires-clause-most
mean_motion-requires-clause-most g c = rw c.motion-2.ensures.value (le_of_lt c.requires.between.below)

pub inclination-i-requires-clause-least : goal.inclination-i-requires-clause-least
inclination-i-requires-clause-least g c = rw c.incl.ensures.value (from_0 c.incl.ensures.elements.incl.least)

pub returns : goal.returns
unfolding turned rooted cube_rooted ◌+ᴿ◌ ◌-ᴿ◌ ◌*ᴿ◌ ◌/ᴿ◌
returns g c h pi m is_pi motion =
    let law = g.met.E.Enc.contained in
    let lines = motion.recovers in
    let one = number (pos 1) 0 0 c.constant-one.ensures c.from_ratio.ensures tt tt tt in
    let i = held_at (sym motion.i_is) (rw c.incl.ensures.value at (c.inclination-i.ensures h pi is_pi)) in
    let pair = turn c.sincos-si.ensures is_pi motion.i_pair i in
    let square = held_at (square_is m.c) (product law c.times-c2.ensures pair.1 pair.1) in
    let c2 = claim_held _ square (cosine_square_inside is_pi motion.i_pair) in
    let con41 = c.con41-con41.ensures.gives c2 in
    let e = held_at (sym motion.e_is) (rw c.ecc.ensures.value at (c.eccentricity-e.ensures h)) in
    let bb = held_at (sym lines.bb_is) (c.one_less_square-bb.ensures.gives e) in
    let b0 = sqrt_held law c.sqrt-b0.ensures.covers c.sqrt-b0.ensures.narrow lines.b0_is bb in
    let power = held_at (ap (λ t. ke /ℚ t) (sym motion.n_is)) (rw c.motion.ensures.value at (c.axis_power-power.ensures h pi is_pi)) in
    let a1 = cbrt2_held law c.cbrt2-a1.ensures.covers c.cbrt2-a1.ensures.narrow lines.a1_is power in
    let d1 = held_at (sym lines.d1_is) (c.oblateness-d1.ensures.gives lines.b0_bb_divides con41 b0 bb) in
    let de1 = held_at (effect_is m.d1 m.a1 ∙ sym lines.de1_is) (c.effect_at.ensures.gives (divides_as_product _ lines.a1_divides) d1 a1) in
    let a2 = held_at (corrected_is m.a1 m.de1 ∙ sym lines.a2_is) (c.corrected_axis-a2.ensures.gives a1 de1) in
    let de0 = held_at (effect_is m.d1 m.a2 ∙ sym lines.de0_is) (c.effect_at-2.ensures.gives (divides_as_product _ lines.a2_divides) d1 a2) in
    let growth = sum law c.plus-growth.ensures one de0 in
    let n = held_at (ap (λ t. unit_minutes 1 *ℚ t) (sym motion.n_is)) (rw c.motion-2.ensures.value at (c.mean_motion.ensures h pi is_pi)) in
    let n0 = held_at (recovered_is m.n _ ∙ ap (λ t. unit_minutes 1 *ℚ t) (sym lines.n0_is)) (quotient law c.divided-n0.ensures lines.de0_divides n growth) in
    let again = axis_again m.n _ lines.n_divides lines.de0_divides (divides_at lines.n0_is lines.n0_divides) ∙ ap (λ t. ke /ℚ t) (sym lines.n0_is) in
    let power0 = held_at again (product law c.times.ensures power growth) in
    let a = cbrt2_held law c.cbrt2-a.ensures.covers c.cbrt2-a.ensures.narrow lines.a_is power0 in
    let p = held_at (sym lines.p_is) (product law c.times-p.ensures a bb) in
    let rest = difference law c.minus.ensures one e in
    let rp = held_at (sym lines.rp_is) (product law c.times-rp.ensures a rest) in
    record {
      i = i;
      c = within reach_recovered.c pair.1 tt;
      si = within reach_recovered.si pair.0 tt;
      e = e;
      n0 = within reach_recovered.n0 n0 tt;
      a = within reach_recovered.a a tt;
      bb = within reach_recovered.bb bb tt;
      b0 = within reach_recovered.b0 b0 tt;
      p = within reach_recovered.p p tt;
      rp = within reach_recovered.rp rp tt;
      con41 = within reach_recovered.con41 (held_at (sym lines.con41_is) con41) tt;
      con42 = within reach_recovered.con42 (held_at (sym lines.con42_is) (c.con42-con42.ensures.gives c2)) tt;
    }
