use Rattle.std.proofs.Common.{sym, ◌∙◌}
use Rattle.plan_defs.proofs.Settling.{least_not_collapsed}
use Rattle.model_core.specs.History.{standing}
use Rattle.solver_core.proofs.Seeing.{unseen_collapsed, seen_least, seen_first, seen_choices}
use Rattle.solver_core.proofs.visiting.next_choice.Goals as goal

pub choice-requires-clause-model : goal.choice-requires-clause-model
choice-requires-clause-model g c = c.in-Ok.ensures.model ∙ sym c.model-model.ensures.model

pub choice-requires-clause-least : goal.choice-requires-clause-least
choice-requires-clause-least g c = seen_least c.args.db.now c.in-Ok.view c.in-Ok.ensures c.model-model.ensures.sound c.model-model.result.now c.model-model.ensures.model

pub choice-requires-clause-first : goal.choice-requires-clause-first
choice-requires-clause-first g c =
    seen_first c.args.db.now c.in-Ok.view c.in-Ok.ensures c.model-model.ensures.sound c.model-model.result.now c.model-model.ensures.model (g.R.FlawRule.is_first c.args.rule.now) (g.R.FlawRule.are_choices c.args.rule.now) c.args.bound c.args.branch.now.flaw c.requires.first

pub unreachable-requires : goal.unreachable-requires
unreachable-requires g c =
    least_not_collapsed c.args.db.now.database.model (standing c.args.db.now.database.history) c.requires.first.0 c.requires.first.1
    (unseen_collapsed c.args.db.now c.in-Err._fault c.in-Err.ensures c.requires.ready)

pub returns-clause-choice : goal.returns-clause-choice
returns-clause-choice g c =
    seen_choices c.args.db.now c.in-Ok.view c.in-Ok.ensures c.model-model.ensures.sound c.model-model.result.now c.model-model.ensures.model (g.R.FlawRule.is_first c.args.rule.now) (g.R.FlawRule.are_choices c.args.rule.now) c.args.bound c.args.branch.now.flaw c.args.branch.now.next c.choice.result c.choice.ensures
