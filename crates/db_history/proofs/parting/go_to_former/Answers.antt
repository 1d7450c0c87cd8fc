use Rattle.std.proofs.Common.{List, sym, subst}
use Rattle.std.proofs.lemmas.Result.{on_ok_weaker}
use Rattle.model_core.specs.declared.decision.Decision.{Decision}
use Rattle.plan_defs.specs.Settling.{IsSettled}
use Rattle.db_history.specs.Standing.{KeepsList}
use Rattle.db_history.proofs.Keeping.{former_settled}
use Rattle.db_history.proofs.parting.go_to_former.Goals as goal

pub go_over_to-requires-clause-settled : goal.go_over_to-requires-clause-settled
go_over_to-requires-clause-settled c =
    subst (IsSettled c.args.model.now) (sym c.as_slice.ensures)
    (former_settled c.args.model.now c.args.log.now c.in-Ok.former c.requires.kept.is_history c.in-Ok.ensures)

pub returns-in-Ok-clause-ok : goal.returns-in-Ok-clause-ok
returns-in-Ok-clause-ok c =
    on_ok_weaker c.go_over_to.result
    (λ keeps. (c.in-Ok.former, c.in-Ok.ensures, subst (λ (list : List Decision). KeepsList c.args.model.now list c.go_over_to.new.kept) c.as_slice.ensures keeps))
    c.go_over_to.ensures
