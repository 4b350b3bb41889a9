use Rattle.std.proofs.Common.{◌^◌, Some, ap, inr, lit≤, negsuc, pos, refl, subst}
use Rattle.exact.specs.Rational.{◌≤ℚ◌, ◌<ℚ◌}
use Rattle.exact.proofs.Strict.{le_of_lt, not_zero}
use Rattle.fixed_iv.specs.Place.{Place}
use Rattle.fixed_iv.specs.Reach.{from_to, ◌-ᴿ◌, ◌*ᴿ◌, ◌/ᴿ◌}
use Rattle.fixed_iv.proofs.Held.{within}
use Rattle.sgp4_model.specs.Angle.{least_pi}
use Rattle.sgp4_model.specs.MeanMotion.{perigee_of}
use Rattle.sgp4_model.specs.Numerals.{decimal, whole}
use Rattle.sgp4_motion.specs.declared.limits.TheConstants.{LEAST_PERIGEE_KM}
use Rattle.sgp4_motion.proofs.FaultLemmas.{denies, le_of_not_lt, shows}
use Rattle.sgp4_motion.proofs.LimitLemmas.{below_limit, edge_and_a_metre, edge_less_a_metre, least_and_a_metre, perigee_from, perigee_next_above, perigee_next_below, perigee_under, period_below, period_from, period_is}
use Rattle.sgp4_motion.proofs.MotionLemmas.{rate_not_zero, some_motion, some_pi, some_place}
use Rattle.sgp4_motion.proofs.NearEarthLemmas.{in_a_form, mean_motion_positive, near_earth_held}
use Rattle.sgp4_motion.proofs.motion.recover_motion.Goals as goal

pub returns-then-not-is_short-clause-refused : goal.returns-then-not-is_short-clause-refused
unfolding ◌*ᴿ◌ ◌/ᴿ◌
returns-then-not-is_short-clause-refused g c =
    let law = g.met.E.Enc.contained in
    let told = c.requires.told in
    let shown = c.in_default.ensures in
    let found = some_motion _ shown.elements.ecc (le_of_not_lt shown.ordinary.not_eccentric) (le_of_lt shown.between.above) (le_of_lt shown.between.below) in
    let motion = c.recovered-motion.ensures some_place least_pi found.0 some_pi found.1 in
    let positive = mean_motion_positive (motion.n0.known told tt).inside in
    let period = within (from_to (pos 0) (pos 1) 1 4) (c.period.ensures.gives some_pi (rate_not_zero positive) motion.n0) tt in
    let long = rw c.bounds.ensures at (denies c.is_short.ensures c.if-not-is_short.true) in
    let least = period_from _ (period.known told tt) (law _ some_place _ period.covers) long in
    record {
      ordinary = shown.ordinary;
      slow = inr record {
        pi = least_pi;
        motion = found.0;
        is_pi = some_pi;
        recovered = found.1;
        at_least = subst (λ t. decimal 224999 3 ≤ℚ t) (period_is least_pi found.0.n0 (not_zero positive) (rate_not_zero positive)) least;
      };
    }

pub returns-then-not-is_high-clause-refused : goal.returns-then-not-is_high-clause-refused
unfolding ◌-ᴿ◌ ◌*ᴿ◌
returns-then-not-is_high-clause-refused g c =
    let law = g.met.E.Enc.contained in
    let told = c.requires.told in
    let shown = c.in_default.ensures in
    let found = some_motion _ shown.elements.ecc (le_of_not_lt shown.ordinary.not_eccentric) (le_of_lt shown.between.above) (le_of_lt shown.between.below) in
    let motion = c.recovered-motion.ensures some_place least_pi found.0 some_pi found.1 in
    let perigee = within (from_to (negsuc 1999) (pos 6100) 1 (2 ^ 20)) (c.perigee_km.ensures.gives motion.rp) tt in
    let low = rw c.bounds-perigee.ensures at (denies c.is_high.ensures c.if-not-is_high.true) in
    record {
      ordinary = shown.ordinary;
      fast = inr record {
        pi = least_pi;
        motion = found.0;
        is_pi = some_pi;
        recovered = found.1;
        below = subst (λ t. perigee_of found.0 <ℚ t) least_and_a_metre (perigee_next_below LEAST_PERIGEE_KM _ (perigee.known told tt) (law _ some_place _ perigee.covers) (below_limit LEAST_PERIGEE_KM low));
      };
    }

pub returns-in-None-clause-refused : goal.returns-in-None-clause-refused
unfolding ◌-ᴿ◌ ◌*ᴿ◌
returns-in-None-clause-refused g c =
    let law = g.met.E.Enc.contained in
    let told = c.requires.told in
    let shown = c.in_default.ensures in
    let found = some_motion _ shown.elements.ecc (le_of_not_lt shown.ordinary.not_eccentric) (le_of_lt shown.between.above) (le_of_lt shown.between.below) in
    let motion = c.recovered-motion.ensures some_place least_pi found.0 some_pi found.1 in
    let perigee = within (from_to (negsuc 1999) (pos 6100) 1 (2 ^ 20)) (c.perigee_km.ensures.gives motion.rp) tt in
    let edge = rw c.bounds-perigee.ensures at (c.in-None.ensures.edge refl) in
    record {
      ordinary = shown.ordinary;
      near = record {
        pi = least_pi;
        motion = found.0;
        is_pi = some_pi;
        recovered = found.1;
        at_least = subst (λ t. t ≤ℚ perigee_of found.0) edge_less_a_metre (perigee_next_above 220 _ (perigee.known told tt) (law _ some_place _ perigee.covers) edge.1);
        at_most = le_of_lt (subst (λ t. perigee_of found.0 <ℚ t) edge_and_a_metre (perigee_next_below 220 _ (perigee.known told tt) (law _ some_place _ perigee.covers) edge.0));
      };
    }

pub returns-in-Some-is_simple-clause-near_earth : goal.returns-in-Some-is_simple-clause-near_earth
returns-in-Some-is_simple-clause-near_earth g c = record {
  period = λ pi m is_pi recovered.
      let motion = c.recovered-motion.ensures some_place pi m is_pi recovered in
      let positive = mean_motion_positive (motion.n0.known c.requires.told tt).inside in
      let period = c.period.ensures.gives is_pi (rate_not_zero positive) motion.n0 in
      let short = rw c.bounds.ensures at (shows c.is_short.ensures c.if-not-is_short.false) in
      subst (λ t. t <ℚ whole 225) (period_is pi m.n0 (not_zero positive) (rate_not_zero positive)) (period_below _ (g.met.E.Enc.contained _ some_place _ period.covers) short);
  perigee = λ pi m is_pi recovered.
      let motion = c.recovered-motion.ensures some_place pi m is_pi recovered in
      let perigee = c.perigee_km.ensures.gives motion.rp in
      let high = rw c.bounds-perigee.ensures at (shows c.is_high.ensures c.if-not-is_high.false) in
      perigee_from LEAST_PERIGEE_KM _ (g.met.E.Enc.contained _ some_place _ perigee.covers) high;
}

pub returns-in-Some-is_simple-clause-form : goal.returns-in-Some-is_simple-clause-form
returns-in-Some-is_simple-clause-form g c pi m is_pi recovered =
    let motion = c.recovered-motion.ensures some_place pi m is_pi recovered in
    let perigee = g.met.E.Enc.contained _ some_place _ (c.perigee_km.ensures.gives motion.rp).covers in
    record {
      simple = λ e. perigee_under 220 _ (lit≤ tt) perigee (rw c.bounds-perigee.ensures at (c.in-Some-is_simple.ensures.simple (ap Some e)));
      full = λ e. perigee_from 220 _ perigee (rw c.bounds-perigee.ensures at (c.in-Some-is_simple.ensures.full (ap Some e)));
    }

pub returns-in-Some-is_simple-clause-held : goal.returns-in-Some-is_simple-clause-held
returns-in-Some-is_simple-clause-held g c h pi m is_pi recovered =
    in_a_form (near_earth_held _ pi c.requires.told is_pi recovered (returns-in-Some-is_simple-clause-near_earth g c) (c.recovered-motion.ensures h pi m is_pi recovered))

pub returns-in-Some-is_simple-clause-covers : goal.returns-in-Some-is_simple-clause-covers
returns-in-Some-is_simple-clause-covers g c pi m is_pi recovered =
    let held = λ (h : Place). c.recovered-motion.ensures h pi m is_pi recovered in
    record {
      i = λ h. (held h).i.covers;
      c = λ h. (held h).c.covers;
      si = λ h. (held h).si.covers;
      e = λ h. (held h).e.covers;
      n0 = λ h. (held h).n0.covers;
      a = λ h. (held h).a.covers;
      bb = λ h. (held h).bb.covers;
      b0 = λ h. (held h).b0.covers;
      p = λ h. (held h).p.covers;
      rp = λ h. (held h).rp.covers;
      con41 = λ h. (held h).con41.covers;
      con42 = λ h. (held h).con42.covers;
    }
