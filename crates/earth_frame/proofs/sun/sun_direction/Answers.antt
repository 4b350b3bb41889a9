use Rattle.std.proofs.Common.{arith}
use Rattle.sgp4_model.specs.Angle.{least_pi}
use Rattle.sgp4_model.proofs.OwnPair.{sine_and_cosine_exist}
use Rattle.sgp4_model.proofs.Pythagoras.{sine_pairs_are_bounded}
use Rattle.earth_frame.proofs.AngleLemmas.{least}
use Rattle.earth_frame.proofs.HalfTurnLemmas.{less_turns}
use Rattle.earth_frame.proofs.SlimLemmas.{slim_wider}
use Rattle.earth_frame.proofs.SpreadLemmas.{constant_slim, product_slim, turn_slim}
use Rattle.earth_frame.proofs.SunLemmas.{cosine_within, sun_within}
use Rattle.earth_frame.proofs.sun.sun_direction.Goals as goal

pub returns-clause-covers : goal.returns-clause-covers
returns-clause-covers g c h p x sun pi k is =
    let inside = g.met.E.Enc.contained c.args.t h x k in
    let angle = c.longitude.ensures.covers h p x is.anomaly is.twice_anomaly pi k (record { of_anomaly = is.of_anomaly; of_twice = is.of_twice_anomaly }) in
    let pair = c.sincos-sine.ensures.covers h p _ _ _ pi (less_turns p _ _ _ angle.turns is.of_longitude) angle.covered in
    let tilt = c.constant.ensures.covers h _ (c.tilt.ensures.holds x (rw c.bounds.ensures inside) p pi) in
    let leaning = c.sincos-tilt_sine.ensures.covers h p _ _ _ pi is.of_tilt tilt in
    record {
      x = rw is.x pair.1;
      y = rw is.y (c.times.ensures.covers h _ _ leaning.1 pair.0);
      z = rw is.z (c.times-2.ensures.covers h _ _ leaning.0 pair.0);
    }

pub returns-clause-narrow_x : goal.returns-clause-narrow_x
returns-clause-narrow_x g c h x k told one =
    let law = g.met.E.Enc.contained in
    let w = (g.E.Enc.extent c.args.t).spread in
    let inside = law c.args.t h x k in
    let anomaly = sine_and_cosine_exist least_pi _ least in
    let twice = sine_and_cosine_exist least_pi _ least in
    let angle = c.longitude.ensures.covers h least_pi x (record { sine = anomaly.0; cosine = anomaly.1.0 }) (record { sine = twice.0; cosine = twice.1.0 }) least k (record { of_anomaly = anomaly.1.1; of_twice = twice.1.1 }) in
    let slim = c.longitude.ensures.narrow h x k told one in
    let own = sine_and_cosine_exist least_pi _ least in
    let pair = c.sincos-sine.ensures.covers h least_pi _ own.0 own.1.0 least own.1.1 angle.covered in
    let near = sine_pairs_are_bounded least_pi _ own.0 own.1.0 least own.1.1 in
    let rule = c.sincos-sine.ensures.narrow told in
    cosine_within (turn_slim 114841790498016 rule.1 slim near.1 (law c.sincos-sine.result.1 h _ pair.1) one.most (omega arith))

pub returns-clause-narrow_y : goal.returns-clause-narrow_y
returns-clause-narrow_y g c h x k told one =
    let law = g.met.E.Enc.contained in
    let w = (g.E.Enc.extent c.args.t).spread in
    let inside = law c.args.t h x k in
    let anomaly = sine_and_cosine_exist least_pi _ least in
    let twice = sine_and_cosine_exist least_pi _ least in
    let angle = c.longitude.ensures.covers h least_pi x (record { sine = anomaly.0; cosine = anomaly.1.0 }) (record { sine = twice.0; cosine = twice.1.0 }) least k (record { of_anomaly = anomaly.1.1; of_twice = twice.1.1 }) in
    let slim = c.longitude.ensures.narrow h x k told one in
    let own = sine_and_cosine_exist least_pi _ least in
    let pair = c.sincos-sine.ensures.covers h least_pi _ own.0 own.1.0 least own.1.1 angle.covered in
    let near = sine_pairs_are_bounded least_pi _ own.0 own.1.0 least own.1.1 in
    let rule = c.sincos-sine.ensures.narrow told in
    let held = c.tilt.ensures.holds x (rw c.bounds.ensures inside) least_pi least in
    let tilt = c.constant.ensures.covers h _ held in
    let tilt_iv = slim_wider (rw c.bounds.ensures one.measured.width) (c.tilt.ensures.slim (rw c.bounds.ensures one.unit)) in
    let tilt_slim = constant_slim 2251799813707 (c.constant.ensures.narrow told) tilt_iv (omega arith) held (law c.constant.result h _ tilt) one.most (omega arith) in
    let lean = sine_and_cosine_exist least_pi _ least in
    let leaning = c.sincos-tilt_sine.ensures.covers h least_pi _ lean.0 lean.1.0 least lean.1.1 tilt in
    let lean_near = sine_pairs_are_bounded least_pi _ lean.0 lean.1.0 least lean.1.1 in
    let lean_rule = c.sincos-tilt_sine.ensures.narrow told in
    let sine_slim = turn_slim 114841790498016 rule.0 slim near.0 (law c.sincos-sine.result.0 h _ pair.0) one.most (omega arith) in
    let lean_slim = turn_slim 2251799813723 lean_rule.1 tilt_slim lean_near.1 (law c.sincos-tilt_sine.result.1 h _ leaning.1) one.most (omega arith) in
    sun_within (product_slim 399487301346397 122813 212 119345390125441 (c.times.ensures.narrow told) lean_slim sine_slim (law c.sincos-tilt_sine.result.1 h _ leaning.1) (law c.sincos-sine.result.0 h _ pair.0) (law c.times.result h _ (c.times.ensures.covers h _ _ leaning.1 pair.0)) (omega arith) (omega arith) (omega arith) (omega arith) one.most (omega arith))

pub returns-clause-narrow_z : goal.returns-clause-narrow_z
returns-clause-narrow_z g c h x k told one =
    let law = g.met.E.Enc.contained in
    let w = (g.E.Enc.extent c.args.t).spread in
    let inside = law c.args.t h x k in
    let anomaly = sine_and_cosine_exist least_pi _ least in
    let twice = sine_and_cosine_exist least_pi _ least in
    let angle = c.longitude.ensures.covers h least_pi x (record { sine = anomaly.0; cosine = anomaly.1.0 }) (record { sine = twice.0; cosine = twice.1.0 }) least k (record { of_anomaly = anomaly.1.1; of_twice = twice.1.1 }) in
    let slim = c.longitude.ensures.narrow h x k told one in
    let own = sine_and_cosine_exist least_pi _ least in
    let pair = c.sincos-sine.ensures.covers h least_pi _ own.0 own.1.0 least own.1.1 angle.covered in
    let near = sine_pairs_are_bounded least_pi _ own.0 own.1.0 least own.1.1 in
    let rule = c.sincos-sine.ensures.narrow told in
    let held = c.tilt.ensures.holds x (rw c.bounds.ensures inside) least_pi least in
    let tilt = c.constant.ensures.covers h _ held in
    let tilt_iv = slim_wider (rw c.bounds.ensures one.measured.width) (c.tilt.ensures.slim (rw c.bounds.ensures one.unit)) in
    let tilt_slim = constant_slim 2251799813707 (c.constant.ensures.narrow told) tilt_iv (omega arith) held (law c.constant.result h _ tilt) one.most (omega arith) in
    let lean = sine_and_cosine_exist least_pi _ least in
    let leaning = c.sincos-tilt_sine.ensures.covers h least_pi _ lean.0 lean.1.0 least lean.1.1 tilt in
    let lean_near = sine_pairs_are_bounded least_pi _ lean.0 lean.1.0 least lean.1.1 in
    let lean_rule = c.sincos-tilt_sine.ensures.narrow told in
    let sine_slim = turn_slim 114841790498016 rule.0 slim near.0 (law c.sincos-sine.result.0 h _ pair.0) one.most (omega arith) in
    let lean_slim = turn_slim 2251799813723 lean_rule.0 tilt_slim lean_near.0 (law c.sincos-tilt_sine.result.0 h _ leaning.0) one.most (omega arith) in
    sun_within (product_slim 399487301346397 122813 212 119345390125441 (c.times-2.ensures.narrow told) lean_slim sine_slim (law c.sincos-tilt_sine.result.0 h _ leaning.0) (law c.sincos-sine.result.0 h _ pair.0) (law c.times-2.result h _ (c.times-2.ensures.covers h _ _ leaning.0 pair.0)) (omega arith) (omega arith) (omega arith) (omega arith) one.most (omega arith))
