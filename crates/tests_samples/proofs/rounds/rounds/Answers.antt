use Rattle.tests_samples.proofs.RoundsLaws.{lawful_rounds}
use Rattle.tests_samples.proofs.rounds.rounds.Goals as goal

pub returns : goal.returns
returns c = lawful_rounds c.built.result c.built.ensures
