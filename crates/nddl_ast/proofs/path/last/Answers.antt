use Rattle.std.proofs.Common.{sym, ◌∙◌}
use Rattle.nddl_ast.proofs.Paths.{last_behind}
use Rattle.nddl_ast.proofs.path.last.Goals as goal

pub returns-in-Some : goal.returns-in-Some
returns-in-Some c = sym (last_behind c.args.path.now.first c.in-Some.name.now c.args.path.now.rest c.in-Some.field-0-1.now (sym c.as_slice.ensures ∙ c.in-Some.ensures.cases.0))
