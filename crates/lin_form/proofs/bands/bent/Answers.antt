use Rattle.std.proofs.Common.{arith, inl, inr}
use Rattle.std.proofs.lemmas.Int.{ints}
use Rattle.fixed_iv.proofs.QuotientResultLemmas.{holds_zero}
use Rattle.lin_form.proofs.BandLemmas.{bent_held}
use Rattle.lin_form.proofs.bands.bent.Goals as goal

pub returns : goal.returns
returns c h x k =
    bent_held h x (c.hull.ensures.holds _ (inl k))
    (c.hull.ensures.holds _ (inr (holds_zero (omega (arith, ints, c.from_ends.ensures.low)) (omega (arith, ints, c.from_ends.ensures.high)))))
