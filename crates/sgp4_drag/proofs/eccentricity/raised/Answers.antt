use Rattle.std.proofs.Common.{pos}
use Rattle.fixed_iv.proofs.HeldChoice.{max_held}
use Rattle.fixed_iv.proofs.HeldGiven.{ratio_given}
use Rattle.sgp4_drag.proofs.eccentricity.raised.Goals as goal

pub returns : goal.returns
returns g c = record {
  gives = λ greater ecc.
      max_held g.met.E.Enc.contained c.max_const.ensures.covers c.max_const.ensures.narrow ecc (ratio_given (pos 1) 999999 1 c.from_ratio.ensures tt tt) greater;
}
