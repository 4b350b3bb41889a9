use Rattle.root_enc.proofs.WholeLemmas.{cube_of_limbs}
use Rattle.root_enc.proofs.whole.cube_of.Goals as goal

pub returns : goal.returns
returns c = rw (c.from.ensures, c.from-2.ensures, c.from-3.ensures, c.from-4.ensures) (cube_of_limbs c.args.root)
