use Rattle.std.proofs.Common.{List, sym, subst}
use Rattle.model_core.specs.declared.decision.Decision.{Decision}
use Rattle.db_history.specs.Standing.{KeepsList}
use Rattle.db_history.proofs.objection.judge.Goals as goal

pub judge_after-requires-clause-kept : goal.judge_after-requires-clause-kept
judge_after-requires-clause-kept c =
    subst (λ (list : List Decision). KeepsList c.args.model.now list c.args.kept.now) (sym c.standing.ensures) c.requires.list
