use Rattle.std.proofs.Common.{List, sym, subst}
use Rattle.model_core.specs.declared.decision.Decision.{Decision}
use Rattle.db_history.specs.Standing.{KeepsList}
use Rattle.db_history.proofs.settle.settle_standing.Goals as goal

pub settle_without-requires-clause-kept : goal.settle_without-requires-clause-kept
settle_without-requires-clause-kept c =
    subst (λ (list : List Decision). KeepsList c.args.model.now list c.args.kept.now) (sym c.standing.ensures) c.requires.kept.list
