use Rattle.std.proofs.Common.{ℕ, List, map, subst}
use Rattle.std.proofs.lemmas.List.{take_all}
use Rattle.model_lawful.specs.Preds.{AreRules}
use Rattle.model_lawful.proofs.Ruling.{no_rules, rules_step}
use Rattle.model_lawful.proofs.preds.rules_at.Goals as goal

pub returns-in-None : goal.returns-in-None
returns-in-None c = no_rules c.args.model.now c.args.places.now c.loop-place.place-index 0 c.loop-place-test.true c.in-None.ensures

pub loop-place-preserved : goal.loop-place-preserved
loop-place-preserved c =
    rules_step (λ rule. rule.now) c.args.model.now c.args.places.now c.loop-place.place-index 0 c.loop-place.rules.items c.push.new.self.items c.in-Some.rule c.loop-place-test.true
    c.loop-place.invariant c.in-Some.ensures c.in_ok-push-in-Some.ensures.items

pub returns : goal.returns
returns c =
    subst (λ (l : List ℕ). AreRules c.args.model.now l (map (λ rule. rule.now) c.loop-place.rules.items)) (take_all c.loop-place.place-index c.args.places.now c.loop-place-test.false) c.loop-place.invariant
