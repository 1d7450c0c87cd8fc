use Rattle.std.proofs.Common.{refl, sym, subst}
use Rattle.model_core.specs.History.{History, standing}
use Rattle.plan_defs.specs.History.{IsHistory}
use Rattle.db_history.specs.Standing.{KeepsList}
use Rattle.plan_db.proofs.database.Db.new.Goals as goal

pub invariant_of-result : goal.invariant_of-result
invariant_of-result c = record {
  lawful = c.requires;
  kept = record {
    is_history = subst (IsHistory c.args.model) (sym c.new-2.ensures) refl;
    list = λ ready. subst (λ (h : History). KeepsList c.args.model (standing h) c.in_ok-kept.kept) (sym c.new-2.ensures) c.in_ok-kept.ensures;
  };
}

pub returns-clause-sound : goal.returns-clause-sound
returns-clause-sound c = record {
  lawful = c.requires;
  history = subst (IsHistory c.args.model) (sym c.new-2.ensures) refl;
}
