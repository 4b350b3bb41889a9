use Rattle.sgp4_model.proofs.MotionExists.{recovered_motion_exists}
use Rattle.sgp4_model.proofs.motion_laws.recovered_motion_exists.Goals as goal

pub returns : goal.returns
returns c = recovered_motion_exists
