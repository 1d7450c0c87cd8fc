use Rattle.std.proofs.Common.{List, ◌↔◌, IsTrue, subst}
use Rattle.std.specs.Prelude.{◌≢◌, AllPairs, IfOk}
use Rattle.model_core.specs.declared.variable.VarDecl.{VarDecl}
use Rattle.model_core.specs.Naming.{names_of}
use Rattle.model_lawful.proofs.classes.are_fields_distinct.Goals as goal

pub returns : goal.returns
returns c = subst (λ (list : List VarDecl). IfOk c.are_distinct.result (λ answer. IsTrue answer ↔ AllPairs ◌≢◌ (names_of list))) c.as_slice.ensures c.are_distinct.ensures
