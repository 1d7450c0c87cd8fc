use Rattle.std.proofs.Common.{◌<◌, ◌≤◌, length, arith}
use Rattle.db_history.proofs.Keeping.{front_whole}
use Rattle.db_history.proofs.parting.go_back.Goals as goal

pub returns-then-number-decisions : goal.returns-then-number-decisions
returns-then-number-decisions c = λ model keeps.
    let less : c.args.number < length c.args.decisions.now = omega arith in
    (c.back_to.ensures.kept model c.args.decisions.now keeps less).1

pub returns-else-number-decisions : goal.returns-else-number-decisions
returns-else-number-decisions c = λ model keeps.
    let long : length c.args.decisions.now ≤ c.args.number = omega arith in
    front_whole model c.args.decisions.now c.args.number c.args.kept.now long keeps
