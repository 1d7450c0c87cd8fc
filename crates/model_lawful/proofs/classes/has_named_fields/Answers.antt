use Rattle.std.proofs.Common.{List, ◌↔◌, IsTrue, All, subst}
use Rattle.model_core.specs.declared.variable.VarDecl.{VarDecl}
use Rattle.eu_name.specs.Word.{IsName}
use Rattle.model_core.specs.Naming.{names_of}
use Rattle.model_lawful.proofs.classes.has_named_fields.Goals as goal

pub returns : goal.returns
returns c = subst (λ (list : List VarDecl). IsTrue c.have_form.result ↔ All IsName (names_of list)) c.as_slice.ensures c.have_form.ensures
