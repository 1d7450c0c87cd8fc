use Rattle.std.proofs.Common.{ℕ, List, map, Bor, sym, subst}
use Rattle.std.specs.Prelude.{MatchOption}
use Rattle.model_core.specs.declared.rule.Rule.{Rule}
use Rattle.model_typing.proofs.Telling.{ok_as, told_not}
use Rattle.model_lawful.specs.Preds.{AreLawfulRules, AreRules, HasLawfulRules}
use Rattle.model_lawful.proofs.Ruling.{rules_once}
use Rattle.model_lawful.proofs.preds.has_lawful_rules.Goals as goal

pub returns-in-Some : goal.returns-in-Some
returns-in-Some c =
    let model = c.args.model.now in
    let number = c.args.number in
    let pred = c.args.pred.now in
    let items = map (λ (rule : Bor Rule). rule.now) c.in-Some.rules.items in
    let found = subst (λ found. MatchOption found ((rules : List Rule) → AreRules model c.as_slice.result.now rules → ⊥) (λ rules. AreRules model c.as_slice.result.now (map (λ (rule : Bor Rule). rule.now) rules.items)))
    c.in-Some.is c.in_ok-found.ensures in
    let are : AreRules model pred.rules items = subst (λ (l : List ℕ). AreRules model l items) c.as_slice.ensures found in
    ok_as c.are_lawful_rules.result (AreLawfulRules model number (map (λ (rule : Bor Rule). rule.now) c.as_slice-in-Some.result.now)) (HasLawfulRules model number pred)
    (λ lawful. (items, are, subst (λ (l : List (Bor Rule)). AreLawfulRules model number (map (λ (rule : Bor Rule). rule.now) l)) c.as_slice-in-Some.ensures.value lawful))
    (λ has. subst (λ (l : List (Bor Rule)). AreLawfulRules model number (map (λ (rule : Bor Rule). rule.now) l)) (sym c.as_slice-in-Some.ensures.value)
    (subst (AreLawfulRules model number) (rules_once model pred.rules has.0 items has.1 are) has.2))
    c.are_lawful_rules.ensures

pub returns-in-None : goal.returns-in-None
returns-in-None c =
    let model = c.args.model.now in
    told_not _ (λ has.
    subst (λ found. MatchOption found ((rules : List Rule) → AreRules model c.as_slice.result.now rules → ⊥) (λ rules. AreRules model c.as_slice.result.now (map (λ (rule : Bor Rule). rule.now) rules.items)))
    c.in-None.is c.in_ok-found.ensures has.0 (subst (λ (l : List ℕ). AreRules model l has.0) (sym c.as_slice.ensures) has.1))
