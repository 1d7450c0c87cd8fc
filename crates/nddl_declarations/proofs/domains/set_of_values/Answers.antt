use Rattle.nddl_declarations.proofs.Placing.{made_ascending}
use Rattle.nddl_declarations.proofs.domains.set_of_values.Goals as goal

pub returns-in-Ok : goal.returns-in-Ok
returns-in-Ok c = made_ascending c.args.values.now c.in-Ok.domain c.in-Ok.ensures
