-- The first that is found is the first of all.
use Rattle.std.proofs.Common.{arith}
use Rattle.flaw_core.specs.Seeking.{IsRuleFlawAt}
use Rattle.flaw_core.proofs.Finding.{found_at, none_more, none_all}
use Rattle.std.proofs.Common.{◌<◌}
use Rattle.flaw_core.proofs.Sorting.{rules_before, rule_counted}
use Rattle.flaw_core.proofs.Telling.{settled_of}
use Rattle.flaw_core.proofs.values.unbound_local.Goals as goal

pub returns-in-Some : goal.returns-in-Some
returns-in-Some g c = found_at (g.V.View.model c.args.view.now) (g.V.View.decisions c.args.view.now) (g.V.View.state c.args.view.now) (IsRuleFlawAt (g.V.View.state c.args.view.now) c.args.place) c.loop-rule.rule c.in-Some.flaw (rules_before (g.V.View.state c.args.view.now) c.args.place) c.loop-rule.invariant c.in-Some.ensures

pub loop-rule-preserved : goal.loop-rule-preserved
loop-rule-preserved g c = none_more (g.V.View.model c.args.view.now) (g.V.View.decisions c.args.view.now) (g.V.View.state c.args.view.now) (IsRuleFlawAt (g.V.View.state c.args.view.now) c.args.place) c.loop-rule.rule c.loop-rule.invariant c.in_default.ensures

pub returns : goal.returns
returns g c = none_all (g.V.View.model c.args.view.now) (g.V.View.decisions c.args.view.now) (g.V.View.state c.args.view.now) (IsRuleFlawAt (g.V.View.state c.args.view.now) c.args.place) c.loop-rule.rule (λ rule flaw sought has. let below : rule < c.count_rules-rule-end.result = rule_counted (g.V.View.model c.args.view.now) c.args.model.now c.requires.model (g.V.View.decisions c.args.view.now) (g.V.View.state c.args.view.now) (settled_of (g.V.View.model c.args.view.now) (g.V.View.decisions c.args.view.now) (g.V.View.state c.args.view.now) c.requires.least) c.args.place c.args.pred c.requires.at c.count_rules-rule-end.result c.count_rules-rule-end.ensures rule flaw sought has in omega (arith, below, c.loop-rule.auto.rule-end)) c.loop-rule.invariant
