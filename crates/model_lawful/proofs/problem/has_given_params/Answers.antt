use Rattle.std.proofs.Common.{List, ◌↔◌, IsTrue, All, subst}
use Rattle.model_core.specs.declared.variable.VarDecl.{VarDecl}
use Rattle.model_core.specs.Variables.{IsGiven}
use Rattle.model_lawful.proofs.problem.has_given_params.Goals as goal

pub returns : goal.returns
returns c = subst (λ (list : List VarDecl). IsTrue c.are_given.result ↔ All (λ (v : VarDecl). IsGiven v.base) list) c.as_slice.ensures c.are_given.ensures
