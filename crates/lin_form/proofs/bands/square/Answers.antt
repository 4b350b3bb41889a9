use Rattle.std.proofs.Common.{arith}
use Rattle.std.proofs.lemmas.Int.{ints}
use Rattle.exact.specs.Rational.{◌*ℚ◌, zero_ℚ}
use Rattle.fixed_iv.proofs.HeldLemmas.{holds_product}
use Rattle.fixed_iv.proofs.QuotientResultLemmas.{holds_zero}
use Rattle.lin_form.proofs.BandLemmas.{square_greater}
use Rattle.lin_form.proofs.bands.square.Goals as goal

pub returns : goal.returns
returns c x k =
    c.max_const.ensures.holds (x *ℚ x) (record {
      left = x *ℚ x;
      right = zero_ℚ;
      of_left = holds_product c.mul.ensures k k;
      of_right = holds_zero (omega (arith, ints, c.from_ends.ensures.low)) (omega (arith, ints, c.from_ends.ensures.high));
      is = square_greater x;
    })
