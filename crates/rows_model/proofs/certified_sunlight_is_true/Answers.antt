use Rattle.rows_model.proofs.SunlightCases.{certified_sunlight_is_true}
use Rattle.rows_model.proofs.certified_sunlight_is_true.Goals as goal

pub returns : goal.returns
returns c = certified_sunlight_is_true
