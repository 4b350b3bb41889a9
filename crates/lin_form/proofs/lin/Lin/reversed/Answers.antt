use Rattle.exact.specs.Rational.{neg_ℚ}
use Rattle.fixed_iv.proofs.HeldLemmas.{holds_negative}
use Rattle.lin_form.proofs.PartLemmas.{reversed_on}
use Rattle.lin_form.proofs.lin.Lin.reversed.Goals as goal

pub returns : goal.returns
returns c h g x e k = record {
  middle = k.middle;
  slope = neg_ℚ k.slope;
  ranged = k.ranged;
  centred = k.centred;
  sloped = holds_negative c.neg.ensures k.sloped;
  is = reversed_on h g x k.middle k.slope e k.is;
}
