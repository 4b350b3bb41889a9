use Rattle.std.proofs.Common.{sym, arith}
use Rattle.decimals.proofs.FitLemmas.{long_fits_not, nought_fits, short_fits_as}
use Rattle.decimals.proofs.fit.fit.Goals as goal

pub returns-in-Long : goal.returns-in-Long
returns-in-Long c = λ n h. sym (long_fits_not c.args.minus n _ (rw c.in-Long.is at h))

pub returns-in-Short-eq0-default : goal.returns-in-Short-eq0-default
returns-in-Short-eq0-default c = λ n h.
    rw c.whole.ensures.form (sym (nought_fits c.args.minus n c.in-Short-eq0-default.digits c.in-Short-eq0-default.zeros _ (omega arith) (rw c.in-Short-eq0-default.is at h)))

pub returns-in-Short : goal.returns-in-Short
returns-in-Short c = λ n h.
    rw (c.shifted.ensures, c.from.ensures, c.from-in-Short.ensures, c.from-in-Short-2.ensures)
    (short_fits_as c.args.minus n c.in-Short.digits c.in-Short.zeros c.args.places c.parts-up.result.0 c.parts-up.result.1 _ (rw c.in-Short.is at h) c.parts-up.ensures)
