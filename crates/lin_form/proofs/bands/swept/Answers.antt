use Rattle.std.proofs.Common.{inl, inr}
use Rattle.fixed_iv.proofs.HeldLemmas.{holds_negative}
use Rattle.lin_form.proofs.BandLemmas.{swept_held}
use Rattle.lin_form.proofs.bands.swept.Goals as goal

pub returns : goal.returns
returns c h s k = swept_held h s (c.hull.ensures.holds _ (inl k)) (c.hull.ensures.holds _ (inr (holds_negative c.neg.ensures k)))
