use Rattle.std.proofs.Common.{sym, ◌∙◌}
use Rattle.solver_core.proofs.Seeing.{unseen_collapsed, seen_least, seen_visited}
use Rattle.solver_core.proofs.visiting.visit.Goals as goal

pub look-requires-clause-model : goal.look-requires-clause-model
look-requires-clause-model g c = c.in-Ok.ensures.model ∙ sym c.model.ensures.model

pub look-requires-clause-least : goal.look-requires-clause-least
look-requires-clause-least g c = seen_least c.args.db.now c.in-Ok.view c.in-Ok.ensures c.model.ensures.sound c.model.result.now c.model.ensures.model

pub returns-in-Ok : goal.returns-in-Ok
returns-in-Ok g c =
    seen_visited c.args.db.now c.in-Ok.view c.in-Ok.ensures c.model.ensures.sound c.model.result.now c.model.ensures.model (g.R.FlawRule.is_first c.args.rule.now) (g.R.FlawRule.are_choices c.args.rule.now) c.args.bound c.look.result c.look.ensures

pub returns-in-Err : goal.returns-in-Err
returns-in-Err g c = unseen_collapsed c.args.db.now c.in-Err._fault c.in-Err.ensures c.requires.ready
