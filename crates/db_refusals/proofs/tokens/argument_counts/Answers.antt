use Rattle.std.proofs.Common.{sym, subst}
use Rattle.std.specs.Prelude.{◌↔◌, IsTrue}
use Rattle.model_core.specs.declared.decision.ConArg.{ConArg}
use Rattle.model_core.specs.Decided.{IsTaken}
use Rattle.plan_defs.specs.Claims.{argument_of}
use Rattle.plan_defs.specs.Terms.{ArgumentCounts}
use Rattle.db_refusals.proofs.tokens.argument_counts.Goals as goal

pub returns-in-Var : goal.returns-in-Var
returns-in-Var c = λ decisions snapshot same told.
    subst (λ (argument : ConArg). IsTrue c.variable_counts.result ↔ ArgumentCounts c.args.model.now (IsTaken decisions) (argument_of argument)) (sym c.in-Var.is)
    (c.variable_counts.ensures decisions snapshot same told)
