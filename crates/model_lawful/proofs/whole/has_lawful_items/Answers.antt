use Rattle.std.proofs.Common.{List, ◌↔◌, IsTrue, All, subst}
use Rattle.model_core.specs.declared.item.Item.{Item}
use Rattle.model_core.specs.Kinds.{OfProblem}
use Rattle.model_core.specs.Lawful.{IsLawfulItem}
use Rattle.model_lawful.proofs.whole.has_lawful_items.Goals as goal

pub returns : goal.returns
returns c = subst (λ (list : List Item). IsTrue c.are_lawful_items.result ↔ All (IsLawfulItem c.args.model.now OfProblem) list) c.as_slice.ensures c.are_lawful_items.ensures
