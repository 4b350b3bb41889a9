use Rattle.std.proofs.Common.{◌≡◌, ◌-◌, ◌*◌, ◌^◌, arith, refl, sym}
use Rattle.decimals.proofs.AsDecimalLemmas.{as_decimal-whole, as_decimal-large, as_decimal-fraction, as_decimal-fine}
use Rattle.decimals.proofs.SignificantLemmas.{many_zeros_after}
use Rattle.decimals.proofs.fit.shifted.Goals as goal

pub returns-then-places-gt18 : goal.returns-then-places-gt18
returns-then-places-gt18 c = sym (as_decimal-fine c.args.minus c.args.digits c.args.up c.args.down (omega arith) c.requires.last_digit)

pub returns-then-up-down : goal.returns-then-up-down
returns-then-up-down c =
    rw c.of_parts.ensures (sym (as_decimal-fraction c.args.minus c.args.digits c.args.up c.args.down (omega arith) (omega arith) c.requires.last_digit c.requires.size))

pub returns-then-zeros-gt17 : goal.returns-then-zeros-gt17
returns-then-zeros-gt17 c =
    sym (as_decimal-large c.args.minus c.args.digits c.args.up c.args.down (omega arith) (many_zeros_after c.args.digits (c.args.up - c.args.down) c.requires.last_digit (omega arith)))

pub returns-then-size-lt-TOO_LARGE : goal.returns-then-size-lt-TOO_LARGE
returns-then-size-lt-TOO_LARGE c =
    let size : c.from.result * c.from-2.result ≡ c.args.digits * 10 ^ (c.args.up - c.args.down) = rw (c.from.ensures, c.from-2.ensures, c.power_of_ten.ensures) refl in
    rw (c.of_parts-then-size-lt-TOO_LARGE.ensures, size) (sym (as_decimal-whole c.args.minus c.args.digits c.args.up c.args.down (omega arith) (omega (arith, size))))

pub returns-else-size-lt-TOO_LARGE : goal.returns-else-size-lt-TOO_LARGE
returns-else-size-lt-TOO_LARGE c =
    let size : c.from.result * c.from-2.result ≡ c.args.digits * 10 ^ (c.args.up - c.args.down) = rw (c.from.ensures, c.from-2.ensures, c.power_of_ten.ensures) refl in
    sym (as_decimal-large c.args.minus c.args.digits c.args.up c.args.down (omega arith) (omega (arith, size)))
