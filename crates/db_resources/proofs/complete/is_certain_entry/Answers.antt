use Rattle.std.proofs.Common.{sym, subst}
use Rattle.std.specs.Prelude.{IfOk, MatchBool}
use Rattle.model_core.specs.declared.rule.Entry.{Entry}
use Rattle.db_resources.specs.Completeness.{IsCertainEntry}
use Rattle.db_resources.proofs.complete.is_certain_entry.Goals as goal

pub returns-in-Branch : goal.returns-in-Branch
returns-in-Branch c =
    subst (λ (entry : Entry). IfOk c.is_certain.result (λ certain. MatchBool certain
    (IsCertainEntry c.args.model.now c.args.store.now c.args.block.now c.args.place entry)
    (IsCertainEntry c.args.model.now c.args.store.now c.args.block.now c.args.place entry → ⊥)))
    (sym c.in-Branch.is) c.is_certain.ensures
