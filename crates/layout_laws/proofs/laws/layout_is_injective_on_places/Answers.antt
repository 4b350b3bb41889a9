use Rattle.layout_laws.proofs.LocateLemmas.{layouts_tell_places}
use Rattle.layout_laws.proofs.laws.layout_is_injective_on_places.Goals as goal

pub returns : goal.returns
returns c = layouts_tell_places
