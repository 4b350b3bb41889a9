use Rattle.std.proofs.Common.{arith, refl, pos}
use Rattle.exact.specs.Rational.{ratio}
use Rattle.earth_frame.proofs.SlimLemmas.{slim_number}
use Rattle.earth_frame.proofs.SunLemmas.{angle_at, anomaly_goes_on, anomaly_rate}
use Rattle.earth_frame.proofs.sun.mean_anomaly.Goals as goal

pub returns-clause-covers : goal.returns-clause-covers
returns-clause-covers g c h p x pi k =
    angle_at (anomaly_goes_on p c.args.base x) (c.steady_angle.ensures.covers h p x _ (ratio (pos 5046273536) 81000000000) pi k c.anomaly_at_base.ensures.holds (c.from_ratio.ensures.holds (ratio (pos 5046273536) 81000000000) refl))

pub returns-clause-narrow : goal.returns-clause-narrow
returns-clause-narrow g c =
    let rate = ratio (pos 5046273536) 81000000000 in
    c.steady_angle.ensures.narrow _ rate c.anomaly_at_base.ensures.holds (c.from_ratio.ensures.holds rate refl)
    c.anomaly_at_base.ensures.within (slim_number rate c.from_ratio.ensures (omega arith) anomaly_rate)
