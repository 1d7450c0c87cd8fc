-- A local of a rule stands in one of its blocks.
use Rattle.std.proofs.Common.{◌≡◌, ℕ, sym, ◌∙◌, subst}
use Rattle.std.specs.Prelude.{Contains}
use Rattle.eu_name.proofs.Members.{get_below, get_from_contains}
use Rattle.model_core.specs.declared.model.Model.{Model}
use Rattle.model_core.specs.declared.rule.Rule.{Rule}
use Rattle.model_core.specs.Blocks.{TokenBlock, IsBlock, OfLocal, direct}
use Rattle.model_core.specs.Entries.{Entries}
use Rattle.model_core.specs.Lawful.{IsLawful}
use Rattle.model_core.specs.Standing.{StandsAt}
use Rattle.model_core.proofs.Blocks.{rule_once}
use Rattle.model_core.proofs.Lawful.{rule_lawful}

module _ (model : Model) (lawful : IsLawful model) where
  -- a local stands in one block of its rule
  pub local_once : (block other : TokenBlock) (entries stood : Entries) (local : ℕ) → block.token ≡ other.token → block.rule ≡ other.rule
      → IsBlock model block entries → IsBlock model other stood → Contains (direct entries) (OfLocal local) → Contains (direct stood) (OfLocal local) → block ≡ other
  local_once block other entries stood local tokens rules is is_other stands stands_other =
      let of_rule = rule_lawful model lawful is.slot.pred block.rule is.rule is.has_rule in
      let here = get_from_contains (direct entries) (OfLocal local) stands in
      let there = get_from_contains (direct stood) (OfLocal local) stands_other in
      let one : StandsAt is.rule.top block.path here.0 (OfLocal local) = record { block = entries; way = is.way; stands = here.1 } in
      let same_rule = rule_once model _ _ block other entries stood tokens rules is is_other in
      let two : StandsAt is.rule.top other.path there.0 (OfLocal local) =
      subst (λ (r : Rule). StandsAt r.top other.path there.0 (OfLocal local)) (sym same_rule) (record { block = stood; way = is_other.way; stands = there.1 }) in
      let declared = (of_rule.entries block.path here.0 (OfLocal local) one).1 in
      let once = of_rule.locals_stand local (get_below is.rule.locals local declared.0 declared.1) in
      let paths : block.path ≡ other.path = (once.only block.path here.0 one).0 ∙ sym (once.only other.path there.0 two).0 in
      (λ i. record { token = tokens i; rule = rules i; path = paths i })
