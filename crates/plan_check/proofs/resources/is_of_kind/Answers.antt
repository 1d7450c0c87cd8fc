use Rattle.plan_check.proofs.Sorting.{kind_answer}
use Rattle.plan_check.proofs.resources.is_of_kind.Goals as goal

pub returns-in-Some : goal.returns-in-Some
returns-in-Some c = kind_answer c.args.model.now c.args.token.now c.in-Some.found c.args.kind c.is_kind.result c.in-Some.ensures c.is_kind.ensures
