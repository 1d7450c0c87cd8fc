use Rattle.std.proofs.Common.{List, ◌↔◌, IsTrue, All, subst}
use Rattle.model_core.specs.declared.variable.VarDecl.{VarDecl}
use Rattle.model_core.specs.Naming.{IsParameterName, names_of}
use Rattle.model_lawful.proofs.preds.has_named_params.Goals as goal

pub returns : goal.returns
returns c = subst (λ (list : List VarDecl). IsTrue c.have_form.result ↔ All IsParameterName (names_of list)) c.as_slice.ensures c.have_form.ensures
