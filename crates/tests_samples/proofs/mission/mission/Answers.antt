use Rattle.tests_samples.proofs.MissionLaws.{lawful_mission}
use Rattle.tests_samples.proofs.mission.mission.Goals as goal

pub returns : goal.returns
returns c = lawful_mission c.built.result c.built.ensures
