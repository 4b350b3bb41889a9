use Rattle.sgp4_model.proofs.OffsetLemmas.{offset_shifts_the_sidereal_pair}
use Rattle.sgp4_model.proofs.offset_laws.offset_shifts_the_sidereal_pair.Goals as goal

pub returns : goal.returns
returns c = offset_shifts_the_sidereal_pair
