use Rattle.std.proofs.Common.{List, ◌↔◌, IsTrue, All, map, subst}
use Rattle.model_core.specs.declared.class.Enum.{Enum}
use Rattle.model_lawful.specs.Naming.{IsOwnName}
use Rattle.model_lawful.proofs.naming.are_own_enums.Goals as goal

pub returns : goal.returns
returns c = subst (λ (list : List Enum). IsTrue c.have_form.result ↔ All IsOwnName (map (λ (e : Enum). e.name) list)) c.as_slice.ensures c.have_form.ensures
