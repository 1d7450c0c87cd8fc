use Rattle.std.proofs.Common.{List, ◌↔◌, IsTrue, All, subst}
use Rattle.model_core.specs.declared.model.Root.{Root}
use Rattle.model_core.specs.Lawful.{IsLawfulRoot}
use Rattle.model_lawful.proofs.whole.has_lawful_roots.Goals as goal

pub returns : goal.returns
returns c = subst (λ (list : List Root). IsTrue c.are_lawful_roots.result ↔ All (IsLawfulRoot c.args.model.now) list) c.as_slice.ensures c.are_lawful_roots.ensures
