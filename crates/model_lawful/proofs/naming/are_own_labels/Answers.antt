use Rattle.std.proofs.Common.{List, ◌↔◌, IsTrue, All, map, subst}
use Rattle.model_core.specs.declared.model.Root.{Root}
use Rattle.model_lawful.specs.Naming.{IsOwnName}
use Rattle.model_lawful.proofs.naming.are_own_labels.Goals as goal

pub returns : goal.returns
returns c = subst (λ (list : List Root). IsTrue c.have_form.result ↔ All IsOwnName (map (λ (r : Root). r.label) list)) c.as_slice.ensures c.have_form.ensures
