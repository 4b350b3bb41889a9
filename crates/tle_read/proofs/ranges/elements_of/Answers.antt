use Rattle.tle_read.proofs.RangeLemmas.{is_motion, is_ecc, is_ecc_below, is_angle, is_any_angle}
use Rattle.tle_read.proofs.ranges.elements_of.Goals as goal

pub make-requires : goal.make-requires
make-requires c =
    let ranges = c.requires.ranges in
    let second = c.args.second.now in
    rw (c.decimal.ensures, c.decimal-2.ensures, c.decimal-3.ensures, c.decimal-4.ensures, c.decimal-5.ensures, c.decimal-6.ensures) (record {
      motion = is_motion second.motion ranges.motion;
      ecc = is_ecc second.ecc;
      ecc_below = is_ecc_below second.ecc c.requires.ecc;
      incl = is_angle second.incl 180 ranges.incl;
      node = is_any_angle second.node ranges.node;
      argp = is_any_angle second.argp ranges.argp;
      anomaly = is_any_angle second.anomaly ranges.anomaly;
    })
