use Rattle.tests_base.proofs.Lawfulness.{lawful_sample}
use Rattle.tests_base.proofs.sample.sample.Goals as goal

pub returns : goal.returns
returns c = lawful_sample c.built.result c.built.ensures
