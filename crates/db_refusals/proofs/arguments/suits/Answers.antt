use Rattle.std.proofs.Common.{sym, subst}
use Rattle.std.specs.Prelude.{◌↔◌, IsTrue}
use Rattle.model_core.specs.declared.decision.ConArg.{ConArg}
use Rattle.db_refusals.specs.Typing.{Suits}
use Rattle.db_refusals.proofs.Typing.{suits_as}
use Rattle.db_refusals.proofs.arguments.suits.Goals as goal

pub returns-in-Var : goal.returns-in-Var
returns-in-Var c =
    subst (λ (argument : ConArg). IsTrue c.is_same_kind.result ↔ Suits c.args.model.now c.args.reading c.args.kind argument) (sym c.in-Var.is)
    (suits_as c.args.model.now c.args.reading c.args.kind c.kind_of.result c.in-Var.name c.is_same_kind.result c.kind_of.ensures c.is_same_kind.ensures)
