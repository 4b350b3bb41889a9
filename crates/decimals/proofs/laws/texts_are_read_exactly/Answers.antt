use Rattle.decimals.proofs.ReadLaw.{read_exactly}
use Rattle.decimals.proofs.laws.texts_are_read_exactly.Goals as goal

pub returns : goal.returns
returns c = read_exactly
