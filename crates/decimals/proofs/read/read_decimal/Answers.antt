use Rattle.std.proofs.Common.{◌+◌, ◌-◌, take, drop, length, Some, None, ◌∙◌, sym, refl}
use Rattle.decimals.specs.NumberText.{is_exponent}
use Rattle.decimals.proofs.ReadLemmas.{read_with, read_without, exponent_shape, not_so, slice_to_end}
use Rattle.decimals.proofs.read.read_decimal.Goals as goal

pub returns-in-None : goal.returns-in-None
returns-in-None c =
    c.read_mantissa.ensures None refl refl
    ∙ read_without c.args.text.now c.without_sign-unsigned.result.now c.has_minus-minus.result c.has_minus-minus.ensures c.without_sign-unsigned.ensures (sym c.in-None.ensures)

pub returns-in-Some-exponent_in : goal.returns-in-Some-exponent_in
returns-in-Some-exponent_in c =
    let unsigned = c.without_sign-unsigned.result.now in
    let place = c.in-Some.place in
    let rest = take (length unsigned - (place + 1)) (drop (place + 1) unsigned) in
    c.read_mantissa-in-Some-exponent_in.ensures (Some rest) (c.in-Some-exponent_in.ensures.form.0 refl) c.in-Some-exponent_in.ensures.value
    ∙ read_with c.args.text.now unsigned rest c.has_minus-minus.result place c.has_minus-minus.ensures c.without_sign-unsigned.ensures (sym c.in-Some.ensures) (slice_to_end unsigned (place + 1))

pub returns-in-None-exponent_in : goal.returns-in-None-exponent_in
returns-in-None-exponent_in c =
    let unsigned = c.without_sign-unsigned.result.now in
    let place = c.in-Some.place in
    let rest = take (length unsigned - (place + 1)) (drop (place + 1) unsigned) in
    sym (exponent_shape c.has_minus-minus.result (take place unsigned) rest (not_so (is_exponent rest) c.in-None-exponent_in.ensures.form))
    ∙ read_with c.args.text.now unsigned rest c.has_minus-minus.result place c.has_minus-minus.ensures c.without_sign-unsigned.ensures (sym c.in-Some.ensures) (slice_to_end unsigned (place + 1))
