use Rattle.std.proofs.Common.{arith}
use Rattle.std.proofs.lemmas.Int.{ints}
use Rattle.exact.specs.Rational.{zero_ℚ}
use Rattle.fixed_iv.proofs.QuotientResultLemmas.{holds_zero}
use Rattle.lin_form.proofs.LinLemmas.{level_on}
use Rattle.lin_form.proofs.lin.Lin.level.Goals as goal

pub returns : goal.returns
returns c h x k = record {
  middle = x;
  slope = zero_ℚ;
  ranged = k;
  centred = k;
  sloped = holds_zero (omega (arith, ints, c.from_ends.ensures.low)) (omega (arith, ints, c.from_ends.ensures.high));
  is = level_on h x;
}
