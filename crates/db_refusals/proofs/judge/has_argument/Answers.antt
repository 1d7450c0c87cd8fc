use Rattle.std.proofs.Common.{sym, subst}
use Rattle.std.specs.Prelude.{◌↔◌, IsTrue}
use Rattle.model_core.specs.Content.{shown}
use Rattle.model_core.specs.declared.decision.ConArg.{ConArg}
use Rattle.plan_defs.specs.Refusals.{IsArgumentKnown}
use Rattle.db_store.specs.Stores.{snapshot_of, named_content}
use Rattle.db_refusals.proofs.Told.{variable_told}
use Rattle.db_refusals.proofs.judge.has_argument.Goals as goal

pub returns-in-Var : goal.returns-in-Var
returns-in-Var c =
    let state = shown (named_content (snapshot_of c.args.store.now)) in
    subst (λ (argument : ConArg). IsTrue c.has_variable.result ↔ IsArgumentKnown state argument) (sym c.in-Var.is)
    (variable_told state c.in-Var.name c.has_variable.result c.has_variable.ensures)
