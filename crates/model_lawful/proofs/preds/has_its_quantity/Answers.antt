use Rattle.std.proofs.Common.{List, ◌↔◌, IsTrue, subst}
use Rattle.model_core.specs.declared.variable.VarDecl.{VarDecl}
use Rattle.model_core.specs.Lawful.{HasQuantity}
use Rattle.model_lawful.proofs.preds.has_its_quantity.Goals as goal

pub returns : goal.returns
returns c = subst (λ (list : List VarDecl). IsTrue c.has_quantity.result ↔ HasQuantity c.args.pred.now.kind list) c.as_slice.ensures c.has_quantity.ensures
