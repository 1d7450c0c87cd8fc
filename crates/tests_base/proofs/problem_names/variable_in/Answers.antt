use Rattle.model_core.proofs.Naming.{names_what_there_is}
use Rattle.tests_base.proofs.problem_names.variable_in.Goals as goal

pub is_written-requires : goal.is_written-requires
is_written-requires c =
    names_what_there_is c.args.model.now c.args.name.now c.in-Ok-Some.variable
    (rw c.in-Ok-Some.field-0-is at (rw c.in-Ok-Some.is at c.resolve_var.ensures))
