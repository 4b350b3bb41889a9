use Rattle.std.proofs.Common.{◌∙◌, sym, refl}
use Rattle.decimals.proofs.ReadLemmas.{mantissa_value, mantissa_shape, not_so}
use Rattle.decimals.proofs.read.read_mantissa.Goals as goal

pub returns-in-Some : goal.returns-in-Some
returns-in-Some c = λ text form value.
    let digits = rw (c.cut_at_point.ensures.whole, c.cut_at_point.ensures.fraction) at (c.in-Some.ensures.digits.0 refl) in
    let fits = rw (c.cut_at_point.ensures.whole, c.cut_at_point.ensures.fraction, ← value) at (c.fit.ensures _ c.in-Some.ensures.keeps) in
    fits ∙ sym (mantissa_value c.args.minus c.args.mantissa.now text form digits)

pub returns-in-None : goal.returns-in-None
returns-in-None c = λ text form value.
    let digits = rw (c.cut_at_point.ensures.whole, c.cut_at_point.ensures.fraction) at (not_so _ c.in-None.ensures.digits) in
    sym (mantissa_shape c.args.minus c.args.mantissa.now text digits)
