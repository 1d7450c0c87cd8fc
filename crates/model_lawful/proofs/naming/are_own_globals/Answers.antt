use Rattle.std.proofs.Common.{List, ◌↔◌, IsTrue, All, map, subst}
use Rattle.model_core.specs.declared.variable.VarDecl.{VarDecl}
use Rattle.model_lawful.specs.Naming.{IsOwnName}
use Rattle.model_lawful.proofs.naming.are_own_globals.Goals as goal

pub returns : goal.returns
returns c = subst (λ (list : List VarDecl). IsTrue c.have_form.result ↔ All IsOwnName (map (λ (v : VarDecl). v.name) list)) c.as_slice.ensures c.have_form.ensures
