use Rattle.std.proofs.Common.{List, ◌↔◌, IsTrue, All, subst}
use Rattle.std.specs.List.{flat_map}
use Rattle.model_core.specs.declared.class.Enum.{Enum}
use Rattle.model_lawful.specs.Naming.{IsOwnName}
use Rattle.model_lawful.proofs.naming.are_own_members.Goals as goal

pub returns : goal.returns
returns c = subst (λ (list : List Enum). IsTrue c.have_own_members.result ↔ All IsOwnName (flat_map (λ (e : Enum). e.members) list)) c.as_slice.ensures c.have_own_members.ensures
