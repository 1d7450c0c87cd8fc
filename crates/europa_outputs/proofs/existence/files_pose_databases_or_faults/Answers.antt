use Rattle.europa_outputs.proofs.Posing.{files_pose}
use Rattle.europa_outputs.proofs.existence.files_pose_databases_or_faults.Goals as goal

pub returns : goal.returns
returns c = files_pose
