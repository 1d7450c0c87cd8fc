use Rattle.std.proofs.Common.{◌≡◌, ◌++◌, ◌∷◌, [], List, sym, ap, ◌∙◌, subst}
use Rattle.decision_log.proofs.Lists.{before-push}
use Rattle.model_core.specs.declared.decision.Decision.{Decision}
use Rattle.plan_defs.specs.Settling.{IsSettled}
use Rattle.plan_defs.proofs.Settling.{IsSettled-push}
use Rattle.db_history.specs.Advancing.{but_last}
use Rattle.db_history.specs.Standing.{KeepsList}
use Rattle.db_history.proofs.settle.stay.Goals as goal
use Rattle.db_history.proofs.settle.stay.Goals.{After-as_slice}

list_is : (c : After-as_slice) → c.as_slice.result.now ≡ c.args.decisions.now.items ++ c.args.decision.now ∷ []
list_is c =
    c.as_slice.ensures.value ∙ (c.in_ok-push.ensures.items ∙ ap (λ (d : Decision). c.args.decisions.now.items ++ d ∷ []) c.in_ok-copy.ensures)

pub go_on-requires-clause-settled : goal.go_on-requires-clause-settled
go_on-requires-clause-settled c =
    subst (IsSettled c.args.model.now) (sym (list_is c))
    (IsSettled-push c.args.model.now c.args.decisions.now.items c.args.decision.now c.requires.settled c.requires.admissible)

pub go_on-requires-clause-kept : goal.go_on-requires-clause-kept
go_on-requires-clause-kept c =
    subst (λ (list : List Decision). KeepsList c.args.model.now (but_last list) c.args.kept.now) (sym (list_is c))
    (subst (λ (list : List Decision). KeepsList c.args.model.now list c.args.kept.now) (sym (before-push c.args.decisions.now.items c.args.decision.now)) c.requires.kept)

pub returns-clause-kept : goal.returns-clause-kept
returns-clause-kept c =
    subst (λ (list : List Decision). KeepsList c.args.model.now list c.go_on.new.kept) c.as_slice.ensures.value c.in_ok-go_on.ensures.ok.0
