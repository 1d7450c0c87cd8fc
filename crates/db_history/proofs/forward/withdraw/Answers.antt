use Rattle.std.proofs.Common.{List, length, ap}
use Rattle.model_core.specs.declared.decision.Decision.{Decision}
use Rattle.db_history.proofs.Keeping.{can_withdraw, withdraws}
use Rattle.db_history.proofs.forward.withdraw.Goals as goal

pub back_to-requires : goal.back_to-requires
back_to-requires c =
    can_withdraw c.requires.0 c.args.log.now c.pop.new.self _ c.in-Some.ensures c.args.kept.now c.requires.1 (length c.standing.result.now)
    (ap (λ (list : List Decision). length list) c.standing.ensures)

pub returns-in-Some : goal.returns-in-Some
returns-in-Some c = λ model keeps.
    withdraws model c.args.log.now c.pop.new.self _ c.in-Some.ensures c.args.kept.now keeps (length c.standing.result.now)
    (ap (λ (list : List Decision). length list) c.standing.ensures) c.back_to.new.self c.back_to.ensures.kept c.back_to.ensures.stamps
