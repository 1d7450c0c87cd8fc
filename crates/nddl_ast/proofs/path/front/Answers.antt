use Rattle.std.proofs.Common.{sym, ◌∙◌}
use Rattle.nddl_ast.proofs.Paths.{path_behind}
use Rattle.nddl_ast.proofs.path.front.Goals as goal

pub returns-in-Some : goal.returns-in-Some
returns-in-Some c = path_behind c.args.path.now.first c.in-Some.field-0-0.now c.args.path.now.rest c.in-Some.rest.now (sym c.as_slice.ensures ∙ c.in-Some.ensures.cases.0)
