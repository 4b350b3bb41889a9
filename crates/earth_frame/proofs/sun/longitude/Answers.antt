use Rattle.std.proofs.Common.{arith, refl, pos, subst}
use Rattle.exact.specs.Rational.{of_int, ratio}
use Rattle.sgp4_model.specs.Angle.{least_pi}
use Rattle.sgp4_model.proofs.OwnPair.{sine_and_cosine_exist}
use Rattle.sgp4_model.proofs.Pythagoras.{sine_pairs_are_bounded}
use Rattle.fixed_iv.proofs.HeldLemmas.{holds_product}
use Rattle.earth_frame.proofs.AngleLemmas.{least, pi_slim}
use Rattle.earth_frame.proofs.HalfTurnLemmas.{less_turns}
use Rattle.earth_frame.proofs.SlimLemmas.{slim_number, slim_product}
use Rattle.earth_frame.proofs.SpreadLemmas.{constant_slim, product_slim, sum_slim, turn_slim}
use Rattle.earth_frame.proofs.SunLemmas.{centre_rate, longitude_is, second_rate, twice_pair}
use Rattle.earth_frame.proofs.sun.longitude.Goals as goal

pub returns-clause-covers : goal.returns-clause-covers
returns-clause-covers g c h p x pair twice pi k are =
    let anomaly = c.mean_anomaly-anomaly.ensures.covers h p x pi k in
    let sine = c.sincos-sine.ensures.covers h p _ _ _ pi (less_turns p _ _ _ anomaly.turns are.of_anomaly) anomaly.covered in
    let double = c.plus.ensures.covers h _ _ anomaly.covered anomaly.covered in
    let second = c.sincos-sine_of_twice.ensures.covers h p _ _ _ pi (twice_pair p _ anomaly.turns _ _ are.of_twice) double in
    let mean = c.mean_longitude.ensures.covers h p x pi k in
    let centre_held = holds_product c.mul.ensures (c.pi.ensures.holds p pi) (c.from_ratio.ensures.holds (ratio (pos 1915) 180000) refl) in
    let second_held = holds_product c.mul-2.ensures (c.pi-2.ensures.holds p pi) (c.from_ratio-2.ensures.holds (ratio (pos 20) 180000) refl) in
    let centre = c.times.ensures.covers h _ _ (c.constant.ensures.covers h _ centre_held) sine.0 in
    let last = c.times-2.ensures.covers h _ _ (c.constant-2.ensures.covers h _ second_held) second.0 in
    let sum = c.plus-2.ensures.covers h _ _ (c.plus-centre.ensures.covers h _ _ mean.covered centre) last in
    record { turns = mean.turns; covered = subst (g.E.Enc.covers c.plus-2.result h) (longitude_is p _ _ _ (of_int mean.turns)) sum }

pub returns-clause-narrow : goal.returns-clause-narrow
returns-clause-narrow g c h x k told one =
    let law = g.met.E.Enc.contained in
    let w = (g.E.Enc.extent c.args.t).spread in
    let anomaly = c.mean_anomaly-anomaly.ensures.covers h least_pi x least k in
    let anomaly_slim = c.mean_anomaly-anomaly.ensures.narrow h x k told one in
    let pair = sine_and_cosine_exist least_pi _ least in
    let sine = c.sincos-sine.ensures.covers h least_pi _ pair.0 pair.1.0 least pair.1.1 anomaly.covered in
    let sine_slim = turn_slim 110338190870614 (c.sincos-sine.ensures.narrow told).0 anomaly_slim (sine_pairs_are_bounded least_pi _ pair.0 pair.1.0 least pair.1.1).0 (law c.sincos-sine.result.0 h _ sine.0) one.most (omega arith) in
    let double = c.plus.ensures.covers h _ _ anomaly.covered anomaly.covered in
    let double_slim = sum_slim 220676381741196 (c.plus.ensures.narrow told) anomaly_slim anomaly_slim (law c.mean_anomaly-anomaly.result h _ anomaly.covered) (law c.mean_anomaly-anomaly.result h _ anomaly.covered) (law c.plus.result h _ double) (omega arith) one.most (omega arith) in
    let second_pair = sine_and_cosine_exist least_pi _ least in
    let second = c.sincos-sine_of_twice.ensures.covers h least_pi _ second_pair.0 second_pair.1.0 least second_pair.1.1 double in
    let second_slim = turn_slim 220676381741212 (c.sincos-sine_of_twice.ensures.narrow told).0 double_slim (sine_pairs_are_bounded least_pi _ second_pair.0 second_pair.1.0 least second_pair.1.1).0 (law c.sincos-sine_of_twice.result.0 h _ second.0) one.most (omega arith) in
    let mean = c.mean_longitude.ensures.covers h least_pi x least k in
    let mean_slim = c.mean_longitude.ensures.narrow h x k told one in
    let centre_held = holds_product c.mul.ensures (c.pi.ensures.holds least_pi least) (c.from_ratio.ensures.holds (ratio (pos 1915) 180000) refl) in
    let second_held = holds_product c.mul-2.ensures (c.pi-2.ensures.holds least_pi least) (c.from_ratio-2.ensures.holds (ratio (pos 20) 180000) refl) in
    let centre_iv = slim_product 9407753677183 8294 0 c.mul.ensures (pi_slim w c.pi.result c.pi.ensures.holds c.pi.ensures.width c.pi.ensures.bounded) (slim_number (ratio (pos 1915) 180000) c.from_ratio.ensures (omega arith) centre_rate) (omega arith) (omega arith) (omega arith) (omega arith) in
    let second_iv = slim_product 98253302117 8284 0 c.mul-2.ensures (pi_slim w c.pi-2.result c.pi-2.ensures.holds c.pi-2.ensures.width c.pi-2.ensures.bounded) (slim_number (ratio (pos 20) 180000) c.from_ratio-2.ensures (omega arith) second_rate) (omega arith) (omega arith) (omega arith) (omega arith) in
    let centre_at = c.constant.ensures.covers h _ centre_held in
    let second_at = c.constant-2.ensures.covers h _ second_held in
    let centre_constant = constant_slim 9 (c.constant.ensures.narrow told) centre_iv (omega arith) centre_held (law c.constant.result h _ centre_at) one.most (omega arith) in
    let second_constant = constant_slim 9 (c.constant-2.ensures.narrow told) second_iv (omega arith) second_held (law c.constant-2.result h _ second_at) one.most (omega arith) in
    let centre = c.times.ensures.covers h _ _ centre_at sine.0 in
    let last = c.times-2.ensures.covers h _ _ second_at second.0 in
    let centre_slim = product_slim 13095593118653 14770 7 3940649673964 (c.times.ensures.narrow told) centre_constant sine_slim (law c.constant.result h _ centre_at) (law c.sincos-sine.result.0 h _ sine.0) (law c.times.result h _ centre) (omega arith) (omega arith) (omega arith) (omega arith) one.most (omega arith) in
    let last_slim = product_slim 175283890993 16799 1 562949953439 (c.times-2.ensures.narrow told) second_constant second_slim (law c.constant-2.result h _ second_at) (law c.sincos-sine_of_twice.result.0 h _ second.0) (law c.times-2.result h _ last) (omega arith) (omega arith) (omega arith) (omega arith) one.most (omega arith) in
    let sum = c.plus-centre.ensures.covers h _ _ mean.covered centre in
    let sum_at = sum_slim 114278840544562 (c.plus-centre.ensures.narrow told) mean_slim centre_slim (law c.mean_longitude.result h _ mean.covered) (law c.times.result h _ centre) (law c.plus-centre.result h _ sum) (omega arith) one.most (omega arith) in
    sum_slim 114841790498000 (c.plus-2.ensures.narrow told) sum_at last_slim (law c.plus-centre.result h _ sum) (law c.times-2.result h _ last) (law c.plus-2.result h _ (c.plus-2.ensures.covers h _ _ sum last)) (omega arith) one.most (omega arith)
