use Rattle.std.proofs.Common.{List, ◌+◌, ◌-◌, length, take, drop, sym, subst, arith}
use Rattle.std.proofs.lemmas.List.{take-append-drop, length-drop}
use Rattle.std.proofs.lemmas.Result.{on_ok_weaker}
use Rattle.model_core.specs.declared.decision.Decision.{Decision}
use Rattle.plan_defs.specs.Settling.{IsSettled}
use Rattle.db_history.specs.Standing.{KeepsList}
use Rattle.db_history.proofs.Returning.{take_whole}
use Rattle.db_history.specs.Settled.{GoesOver}
use Rattle.db_history.proofs.Fronts.{front_settled}
use Rattle.db_history.proofs.Overs.{settles_without}
use Rattle.db_history.proofs.settle.settle_without.Goals as goal

pub back_to-requires : goal.back_to-requires
back_to-requires c = (c.args.model.now, (c.args.decisions.now, c.requires.kept, c.requires.within))

pub settle_on-requires-clause-settled : goal.settle_on-requires-clause-settled
settle_on-requires-clause-settled c =
    subst (IsSettled c.args.model.now) (sym c.in_ok-keep_all.ensures.decisions)
    (front_settled c.args.model.now c.args.decisions.now c.requires.settled (take c.args.place c.args.decisions.now) (drop c.args.place c.args.decisions.now)
    (sym (take-append-drop c.args.place c.args.decisions.now)))

pub settle_on-requires-clause-kept : goal.settle_on-requires-clause-kept
settle_on-requires-clause-kept c =
    subst (λ (list : List Decision). KeepsList c.args.model.now list c.back_to.new.self) (sym c.in_ok-keep_all.ensures.decisions)
    (c.back_to.ensures.kept c.args.model.now c.args.decisions.now c.requires.kept c.requires.within).1

pub returns-clause-ok : goal.returns-clause-ok
returns-clause-ok c =
    on_ok_weaker c.settle_on.result
    (λ goes.
    let rest = drop (c.args.place + 1) c.args.decisions.now in
    let whole = take_whole rest (length c.args.decisions.now - (c.args.place + 1)) (omega (arith, length-drop (c.args.place + 1) c.args.decisions.now)) in
    let over = subst (λ (list : List Decision). GoesOver c.args.model.now list c.keep_all.new.settled.decisions.items c.push.new.self.items
    c.settle_on.new.settled.decisions.items c.settle_on.new.settled.flags.items) whole goes in
    settles_without c.args.model.now c.args.decisions.now c.args.place c.keep_all.new.settled.decisions.items c.settle_on.new.settled.decisions.items
    c.keep_all.new.settled.flags.items c.push.new.self.items c.settle_on.new.settled.flags.items c.requires.settled c.requires.within
    c.in_ok-keep_all.ensures.decisions c.in_ok-keep_all.ensures.flags c.in_ok-push.ensures.items over)
    c.settle_on.ensures.over
