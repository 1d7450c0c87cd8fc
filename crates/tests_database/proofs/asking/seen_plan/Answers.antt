use Rattle.tests_database.proofs.Seeing.{lawful_there, model_there, settled_there, least_there}
use Rattle.tests_database.proofs.asking.seen_plan.Goals as goal

pub plan_of-requires-clause-lawful : goal.plan_of-requires-clause-lawful
plan_of-requires-clause-lawful c = lawful_there c.args.model.now c.args.view.now c.requires

pub plan_of-requires-clause-model : goal.plan_of-requires-clause-model
plan_of-requires-clause-model c = model_there c.args.model.now c.args.view.now c.requires

pub plan_of-requires-clause-settled : goal.plan_of-requires-clause-settled
plan_of-requires-clause-settled c = settled_there c.args.model.now c.args.view.now c.requires

pub plan_of-requires-clause-least : goal.plan_of-requires-clause-least
plan_of-requires-clause-least c = least_there c.args.model.now c.args.view.now c.requires
