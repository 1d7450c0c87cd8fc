use Rattle.std.proofs.Common.{◌∙◌}
use Rattle.db_history.specs.Advancing.{but_last}
use Rattle.db_history.proofs.Keeping.{rests}
use Rattle.db_history.proofs.forward.go_on.Goals as goal

pub push-requires-clause-rest : goal.push-requires-clause-rest
push-requires-clause-rest c =
    let admissible = c.requires.admissible.2 in
    rests c.args.model.now (but_last c.args.decisions.now) c.args.kept.now c.requires.kept admissible.state admissible.least

pub returns-clause-ok : goal.returns-clause-ok
returns-clause-ok c =
    (c.in_ok-push.ensures.ok.1, c.fits.ensures c.args.model.now c.args.decisions.now c.in_ok-push.ensures.ok.1)

pub returns-clause-stamps : goal.returns-clause-stamps
returns-clause-stamps c = λ rest. c.in_ok-push.ensures.stamps (c.in_ok-push.ensures.ok.0 ∙ rest)
