use Rattle.db_opening.proofs.Bringing.{brings_put}
use Rattle.db_opening.proofs.variables.bring_variable.Goals as goal

pub returns-clause-brings : goal.returns-clause-brings
returns-clause-brings c =
    brings_put c.args.key c.args.base.now c.args.store.now c.add_variable.new.self c.in_ok-domain.domain c.in_ok-add_variable.field-0
    c.in_ok-domain.ensures.given c.in_ok-add_variable.ensures.put
