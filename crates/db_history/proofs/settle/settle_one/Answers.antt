use Rattle.std.proofs.Common.{List, sym, subst}
use Rattle.model_core.specs.declared.decision.Decision.{Decision}
use Rattle.plan_defs.specs.Refusals.{IsAdmissible}
use Rattle.plan_defs.specs.Settling.{IsSettled}
use Rattle.plan_defs.proofs.Settling.{IsSettled-push}
use Rattle.db_history.specs.Standing.{KeepsList}
use Rattle.db_history.proofs.settle.settle_one.Goals as goal

pub may_stay-stays-requires-clause-kept : goal.may_stay-stays-requires-clause-kept
may_stay-stays-requires-clause-kept c =
    subst (λ (list : List Decision). KeepsList c.args.model.now list c.args.kept.now) (sym c.as_slice.ensures.value) c.requires.kept

pub returns-in_ok-stay-clause-settled : goal.returns-in_ok-stay-clause-settled
returns-in_ok-stay-clause-settled c =
    let admissible = subst (λ (list : List Decision). IsAdmissible c.args.model.now list c.args.decision.now) c.as_slice.ensures.value c.if-stays.ensures in
    subst (IsSettled c.args.model.now) (sym c.in_ok-stay.ensures.list)
    (IsSettled-push c.args.model.now c.args.settled.now.decisions.items c.args.decision.now c.requires.settled admissible)
