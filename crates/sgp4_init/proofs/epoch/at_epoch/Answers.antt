use Rattle.std.proofs.Common.{sym}
use Rattle.fixed_iv.proofs.Held.{held_at, turn_held}
use Rattle.fixed_iv.proofs.Promises.{sum}
use Rattle.sgp4_motion.proofs.FaultLemmas.{le_of_not_lt}
use Rattle.sgp4_init.proofs.GivenLemmas.{twice_is}
use Rattle.sgp4_init.proofs.epoch.at_epoch.Goals as goal

pub radians-w0-requires : goal.radians-w0-requires
radians-w0-requires g c = rw c.argp.ensures.value (c.argp.ensures.elements.argp)

pub radians-m0-requires : goal.radians-m0-requires
radians-m0-requires g c = rw c.anomaly.ensures.value (c.anomaly.ensures.elements.anomaly)

pub radians-requires : goal.radians-requires
radians-requires g c = rw c.node.ensures.value (c.node.ensures.elements.node)

pub drag_term-requires : goal.drag_term-requires
drag_term-requires g c = rw c.bstar.ensures.value (le_of_not_lt c.requires)

pub returns : goal.returns
returns g c = record {
  gives = λ h pi z is_pi epoch.
      let law = g.met.E.Enc.contained in
      let w0 = held_at (sym epoch.w0_is) (rw c.argp.ensures.value at (c.radians-w0.ensures h pi is_pi)) in
      let m0 = held_at (sym epoch.m0_is) (rw c.anomaly.ensures.value at (c.radians-m0.ensures h pi is_pi)) in
      let of_w0 = turn_held c.sincos-cos_w0.ensures.covers c.sincos-cos_w0.ensures.narrow is_pi epoch.w0_pair w0 in
      let twice = held_at (twice_is z.w0) (sum law c.plus.ensures w0 w0) in
      let of_twice = turn_held c.sincos-cos_twice_w0.ensures.covers c.sincos-cos_twice_w0.ensures.narrow is_pi epoch.twice_w0_pair twice in
      let of_m0 = turn_held c.sincos-sin_m0.ensures.covers c.sincos-sin_m0.ensures.narrow is_pi epoch.m0_pair m0 in
      record {
        o0 = held_at (sym epoch.o0_is) (rw c.node.ensures.value at (c.radians.ensures h pi is_pi));
        w0 = w0;
        m0 = m0;
        cos_w0 = of_w0.1;
        cos_twice_w0 = of_twice.1;
        sin_m0 = of_m0.0;
        cos_m0 = of_m0.1;
        bstar = held_at (sym epoch.bstar_is) (rw c.bstar.ensures.value at (c.drag_term.ensures h));
      };
}
