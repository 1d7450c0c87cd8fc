use Rattle.std.proofs.Common.{List, ◌↔◌, IsTrue, subst}
use Rattle.std.specs.Prelude.{IfOk}
use Rattle.model_core.specs.declared.variable.VarDecl.{VarDecl}
use Rattle.model_lawful.specs.Naming.{HaveGlobalNames}
use Rattle.model_lawful.proofs.whole.are_globals_named.Goals as goal

pub returns : goal.returns
returns c = subst (λ (list : List VarDecl). IfOk c.have_global_names.result (λ answer. IsTrue answer ↔ HaveGlobalNames list)) c.as_slice.ensures c.have_global_names.ensures
