use Rattle.std.proofs.Common.{List, sym, subst}
use Rattle.model_core.specs.declared.decision.Decision.{Decision}
use Rattle.model_core.specs.History.{History, standing}
use Rattle.plan_defs.specs.History.{IsHistory}
use Rattle.plan_defs.specs.Settling.{IsSettled}
use Rattle.db_store.specs.Stamps.{StampsRise}
use Rattle.db_store.specs.Stores.{Stored}
use Rattle.plan_defs.proofs.Settling.{IsSettled-push}
use Rattle.db_history.specs.Advancing.{EndsAdmissibly}
use Rattle.db_history.specs.Standing.{KeepsList}
use Rattle.db_history.specs.Kept.{KeepsHistory, LeaveState}
use Rattle.db_history.proofs.Fronts.{pushed_ends}
use Rattle.db_history.proofs.Returning.{on_err}
use Rattle.db_history.proofs.Keeping.{accepted_list, accepted_before, pop_after_push}
use Rattle.plan_defs.proofs.Histories.{accepted_is, standing_settled}
use Rattle.db_history.proofs.forward.accept.Goals as goal

pub returns-in_err-push_copy-clause-kept : goal.returns-in_err-push_copy-clause-kept
returns-in_err-push_copy-clause-kept c =
    subst (λ (h : History). KeepsHistory c.args.model.now h c.args.kept.now) (sym c.in_err-push_copy.ensures.err) c.requires.kept

pub go_on-requires-clause-settled : goal.go_on-requires-clause-settled
go_on-requires-clause-settled c =
    subst (IsSettled c.args.model.now) (sym (accepted_list c.args.log.now c.push_copy.new.log c.args.decision.now c.standing.result.now c.standing.ensures c.in_ok-push_copy.ensures.ok))
    (IsSettled-push c.args.model.now (standing c.args.log.now) c.args.decision.now (standing_settled c.args.model.now c.args.log.now c.requires.kept.is_history) c.requires.admissible)

pub go_on-requires-clause-admissible : goal.go_on-requires-clause-admissible
go_on-requires-clause-admissible c =
    subst (EndsAdmissibly c.args.model.now) (sym (accepted_list c.args.log.now c.push_copy.new.log c.args.decision.now c.standing.result.now c.standing.ensures c.in_ok-push_copy.ensures.ok))
    (pushed_ends c.args.model.now (standing c.args.log.now) c.args.decision.now c.requires.admissible)

pub go_on-requires-clause-kept : goal.go_on-requires-clause-kept
go_on-requires-clause-kept c =
    subst (λ (list : List Decision). KeepsList c.args.model.now list c.args.kept.now) (sym (accepted_before c.args.log.now c.push_copy.new.log c.args.decision.now c.standing.result.now c.standing.ensures c.in_ok-push_copy.ensures.ok)) c.requires.kept.list

pub returns-in-Ok-clause-fits : goal.returns-in-Ok-clause-fits
returns-in-Ok-clause-fits c =
    subst (λ (list : List Decision). LeaveState c.args.model.now list c.in-Ok.fit) c.standing.ensures c.in-Ok.ensures.ok.1

pub returns-in-Ok-clause-kept : goal.returns-in-Ok-clause-kept
returns-in-Ok-clause-kept c = record {
  is_history = subst (IsHistory c.args.model.now) (sym c.in_ok-push_copy.ensures.ok)
      (accepted_is c.args.model.now c.args.log.now c.args.decision.now c.requires.kept.is_history c.requires.admissible);
  list = subst (λ (list : List Decision). KeepsList c.args.model.now list c.go_on.new.kept) c.standing.ensures c.in-Ok.ensures.ok.0;
}

pub returns-in-Err-clause-kept : goal.returns-in-Err-clause-kept
returns-in-Err-clause-kept c =
    let back = pop_after_push c.args.log.now c.push_copy.new.log c.pop.new.self c.args.decision.now c.pop.result c.in_ok-push_copy.ensures.ok c.pop.ensures in
    subst (λ (h : History). KeepsHistory c.args.model.now h c.go_on.new.kept) (sym back) (record {
      is_history = c.requires.kept.is_history;
      list = subst (λ (list : List Decision). KeepsList c.args.model.now list c.go_on.new.kept) (accepted_before c.args.log.now c.push_copy.new.log c.args.decision.now c.standing.result.now c.standing.ensures c.in_ok-push_copy.ensures.ok) c.in-Err.ensures.err;
    })

pub returns-in_err-push_copy-clause-risen : goal.returns-in_err-push_copy-clause-risen
returns-in_err-push_copy-clause-risen c =
    on_err c.from_residual.result (StampsRise c.args.kept.now.stored c.args.kept.now.stored)
    (subst (λ (stored : Stored). StampsRise stored stored) c.store.ensures (c.stamps_rise.ensures.same c.store.result.now c.is_sound.ensures))

pub returns-in-Err-clause-risen : goal.returns-in-Err-clause-risen
returns-in-Err-clause-risen c = c.in-Err.ensures.risen
