use Rattle.nddl_ast.proofs.Equal.{same_is_equal}
use Rattle.nddl_ast.proofs.same.same_is_equal.Goals as goal

pub returns : goal.returns
returns c = same_is_equal
