use Rattle.std.proofs.Common.{◌≡◌, ◌+◌, ◌*◌, ◌^◌, arith}
use Rattle.decimals.proofs.SignificantLemmas.{many_zeros, long_from_size, short_from_size, joined_in_code}
use Rattle.decimals.proofs.significant.Significant.joined.Goals as goal

pub returns-then-zeros-ge17-clause-keeps : goal.returns-then-zeros-ge17-clause-keeps
returns-then-zeros-ge17-clause-keeps c =
    long_from_size (c.args.digits * 10 ^ c.args.zeros) c.args.digit c.requires.digit.0 c.requires.digit.1
    (many_zeros c.args.digits c.args.zeros c.args.digit c.requires.some c.if-zeros-ge17.true)

pub returns-then-all-lt-TOO_LARGE-clause-keeps : goal.returns-then-all-lt-TOO_LARGE-clause-keeps
returns-then-all-lt-TOO_LARGE-clause-keeps c =
    let all : c.from.result * c.from-2.result + c.from-3.result ≡ c.args.digits * 10 ^ c.args.zeros * 10 + c.args.digit =
    rw (c.from.ensures, c.from-2.ensures, c.from-3.ensures, c.power_of_ten.ensures) (joined_in_code c.args.digits c.args.zeros c.args.digit) in
    rw all (short_from_size (c.args.digits * 10 ^ c.args.zeros) c.args.digit c.requires.digit.0 c.requires.digit.1 (omega (arith, all)))

pub returns-else-all-lt-TOO_LARGE-clause-keeps : goal.returns-else-all-lt-TOO_LARGE-clause-keeps
returns-else-all-lt-TOO_LARGE-clause-keeps c =
    let all : c.from.result * c.from-2.result + c.from-3.result ≡ c.args.digits * 10 ^ c.args.zeros * 10 + c.args.digit =
    rw (c.from.ensures, c.from-2.ensures, c.from-3.ensures, c.power_of_ten.ensures) (joined_in_code c.args.digits c.args.zeros c.args.digit) in
    long_from_size (c.args.digits * 10 ^ c.args.zeros) c.args.digit c.requires.digit.0 c.requires.digit.1 (omega (arith, all))
