use Rattle.std.proofs.Common.{◌<◌, List, length, sym, subst, arith}
use Rattle.model_core.specs.declared.decision.Decision.{Decision}
use Rattle.db_history.specs.Standing.{KeepsList}
use Rattle.db_history.proofs.Returning.{take_whole}
use Rattle.db_history.proofs.Fronts.{next_settled, next_ends, next_before}
use Rattle.db_history.proofs.forward.go_on_from.Goals as goal

pub go_on-requires-clause-settled : goal.go_on-requires-clause-settled
go_on-requires-clause-settled c =
    let within : c.loop-number.number < length c.args.decisions.now = omega arith in
    next_settled c.args.model.now c.args.decisions.now c.requires.settled c.loop-number.number within

pub go_on-requires-clause-admissible : goal.go_on-requires-clause-admissible
go_on-requires-clause-admissible c =
    let within : c.loop-number.number < length c.args.decisions.now = omega arith in
    next_ends c.args.model.now c.args.decisions.now c.requires.settled c.loop-number.number within

pub go_on-requires-clause-kept : goal.go_on-requires-clause-kept
go_on-requires-clause-kept c =
    let within : c.loop-number.number < length c.args.decisions.now = omega arith in
    subst (λ (list : List Decision). KeepsList c.args.model.now list c.loop-number.kept)
    (sym (next_before c.args.model.now c.args.decisions.now c.requires.settled c.loop-number.number within)) c.loop-number.invariant

pub returns : goal.returns
returns c =
    subst (λ (list : List Decision). KeepsList c.args.model.now list c.loop-number.kept)
    (take_whole c.args.decisions.now c.loop-number.number (omega arith)) c.loop-number.invariant
