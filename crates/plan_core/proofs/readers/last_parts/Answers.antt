use Rattle.model_core.specs.Naming.{names_of}
use Rattle.plan_core.proofs.Stepping.{last_found}
use Rattle.plan_core.proofs.readers.last_parts.Goals as goal

pub returns : goal.returns
returns c =
    last_found c.args.model.now (names_of c.args.params.now) c.args.params.now c.args.cursor.now.rest.now c.parameters.new.cursor.rest.now c.args.values.now.items c.parameters.new.values.items c.none_left.result
    c.in_ok-parameters.ensures c.none_left.ensures
