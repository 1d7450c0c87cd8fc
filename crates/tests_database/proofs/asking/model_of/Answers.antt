use Rattle.tests_database.proofs.Seeing.{lawful_of}
use Rattle.tests_database.proofs.asking.model_of.Goals as goal

pub returns-clause-lawful : goal.returns-clause-lawful
returns-clause-lawful c = lawful_of c.args.db.now.database c.model.result.now c.model.ensures.model c.model.ensures.sound
