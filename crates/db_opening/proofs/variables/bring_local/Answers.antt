use Rattle.db_opening.proofs.Locals.{brings_found}
use Rattle.db_opening.proofs.variables.bring_local.Goals as goal

pub returns-clause-brings : goal.returns-clause-brings
returns-clause-brings c =
    brings_found c.args.model.now c.args.pred c.args.at.token c.args.at.rule c.args.number c.in-Some.variable.now c.in-Some.ensures
    c.args.store.now c.bring_variable.new.store c.bring_variable.result c.bring_variable.ensures.brings
