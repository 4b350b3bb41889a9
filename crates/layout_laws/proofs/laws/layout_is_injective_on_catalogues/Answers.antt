use Rattle.layout_laws.proofs.ShowLemmas.{layouts_tell_catalogues}
use Rattle.layout_laws.proofs.laws.layout_is_injective_on_catalogues.Goals as goal

pub returns : goal.returns
returns c = layouts_tell_catalogues
