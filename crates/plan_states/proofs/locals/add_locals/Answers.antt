-- One rule after another.
use Rattle.std.proofs.Common.{◌<◌, arith}
use Rattle.plan_defs.specs.Surveying.{IsRuleLine, IsRuleFlaw}
use Rattle.plan_states.proofs.Counting.{rule_number_below}
use Rattle.plan_states.proofs.Following.{rules_before}
use Rattle.plan_states.proofs.Gathering.{surveys_more, surveys_all}
use Rattle.plan_states.proofs.Placing.{flaw_gives}
use Rattle.plan_states.proofs.locals.add_locals.Goals as goal

pub loop-rule-preserved : goal.loop-rule-preserved
loop-rule-preserved g c = λ token at.
    surveys_more (g.V.View.model c.args.view.now) (g.V.View.decisions c.args.view.now) (g.V.View.state c.args.view.now) (IsRuleLine (g.V.View.model c.args.view.now) (g.V.View.decisions c.args.view.now) (g.V.View.state c.args.view.now) token) (IsRuleFlaw (g.V.View.model c.args.view.now) (g.V.View.decisions c.args.view.now) (g.V.View.state c.args.view.now) token) c.loop-rule.rule
    c.args.lines.now.items c.loop-rule.lines.items c.add_rule.new.lines.items (rules_before (g.V.View.model c.args.view.now) (g.V.View.decisions c.args.view.now) (g.V.View.state c.args.view.now) token) (c.loop-rule.invariant token at) (c.in_ok-add_rule.ensures token at)

pub returns : goal.returns
returns g c = λ token at.
    surveys_all (g.V.View.model c.args.view.now) (g.V.View.decisions c.args.view.now) (g.V.View.state c.args.view.now) (IsRuleLine (g.V.View.model c.args.view.now) (g.V.View.decisions c.args.view.now) (g.V.View.state c.args.view.now) token) (IsRuleFlaw (g.V.View.model c.args.view.now) (g.V.View.decisions c.args.view.now) (g.V.View.state c.args.view.now) token) c.loop-rule.rule c.args.lines.now.items c.loop-rule.lines.items
    (λ rule line is.
    let below : rule < c.count_rules-rule-end.result =
    rule_number_below (g.V.View.model c.args.view.now) c.args.model.now c.requires.model (g.V.View.decisions c.args.view.now) (g.V.View.state c.args.view.now) c.requires.settled c.args.place c.args.pred c.requires.at token at rule is.0 _ is.1.1.0 c.count_rules-rule-end.ensures is.1.1.1 in
    omega arith)
    (λ rule flaw sought is.
    let gives = flaw_gives (g.V.View.model c.args.view.now) (g.V.View.decisions c.args.view.now) (g.V.View.state c.args.view.now) token rule sought.0 flaw sought.1 is in
    let below : rule < c.count_rules-rule-end.result =
    rule_number_below (g.V.View.model c.args.view.now) c.args.model.now c.requires.model (g.V.View.decisions c.args.view.now) (g.V.View.state c.args.view.now) c.requires.settled c.args.place c.args.pred c.requires.at token at rule sought.0 _ gives.0 c.count_rules-rule-end.ensures gives.1 in
    omega arith)
    (c.loop-rule.invariant token at)
