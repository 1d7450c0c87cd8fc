-- The rules of tokens, and whether their items are true.
use Rattle.std.proofs.Common.{◌≡◌, ℕ, List, [], Option, Some, None, sym, ap, ◌∙◌, subst, arith}
use Rattle.std.specs.Prelude.{slice_get, All, MatchOption}
use Rattle.eu_name.specs.declared.name.Step.{Step}
use Rattle.eu_name.specs.declared.name.TokenName.{TokenName}
use Rattle.model_core.specs.declared.model.Model.{Model}
use Rattle.model_core.specs.declared.model.Root.{Root}
use Rattle.model_core.specs.declared.rule.Rule.{Rule}
use Rattle.model_core.specs.declared.rule.Slot.{Slot}
use Rattle.model_core.specs.Blocks.{Follows}
use Rattle.model_core.specs.Lookup.{LeadsOn}
use Rattle.model_core.specs.Names.{token_at}
use Rattle.model_core.specs.Numbers.{PlacedItem, items_from}
use Rattle.model_core.specs.Tokens.{HasToken, HasRule, IsRoot, slot_of}
use Rattle.model_core.proofs.Items.{item_all}
use Rattle.model_core.proofs.Leading.{reaches_on, on_reaches, token_once}
use Rattle.model_core.proofs.Rules.{has_rule_once}
use Rattle.eu_name.proofs.Members.{get_same}
use Rattle.plan_defs.specs.declared.plan.Plan.{Plan}
use Rattle.plan_defs.specs.Plans.{IsActivatedIn}
use Rattle.plan_defs.specs.Terms.{InRule}
use Rattle.plan_defs.specs.Valid.{IsTrueInRule}
use Rattle.plan_values.specs.Openings.{Allows}
use Rattle.plan_values.specs.Walks.{FirstFails, IsTruePlaced, HasRuleOf, IsAllTrue, IsFirstFalse}

-- ---- predicates

module _ (model : Model) (number : ℕ) (steps : List Step) (root : Root) (is_root : IsRoot model number root) where
  pub leads_token : (pred : ℕ) → LeadsOn model root.pred steps pred → (slot : Slot) × HasToken model (token_at number steps) slot × (slot.pred ≡ pred)
  leads_token pred on =
      let last = on_reaches model (slot_of root) pred steps on in
      (last.0, record { root = root; is_root = is_root; reached = last.1 }, last.2)

  pub leads_no_token : ((pred : ℕ) → LeadsOn model root.pred steps pred → ⊥) → (slot : Slot) → HasToken model (token_at number steps) slot → ⊥
  leads_no_token none slot has =
      let roots : has.root ≡ root = get_same model.problem.roots number has.root root has.is_root is_root in
      let on = reaches_on model (slot_of has.root) slot steps has.reached in
      none slot.pred (subst (λ (r : Root). LeadsOn model r.pred steps slot.pred) roots on)

  pub pred_found : (found : Option ℕ) → MatchOption found ((pred : ℕ) → LeadsOn model root.pred steps pred → ⊥) (LeadsOn model root.pred steps)
      → MatchOption found ((slot : Slot) → HasToken model (token_at number steps) slot → ⊥) (λ pred. (slot : Slot) × HasToken model (token_at number steps) slot × (slot.pred ≡ pred))
  pred_found None is = leads_no_token is
  pred_found (Some pred) is = leads_token pred is

-- ---- rules

module _ (model : Model) (token : TokenName) (number : ℕ) where
  pub one_rule : (one other : Rule) → HasRuleOf model token number one → HasRuleOf model token number other → one ≡ other
  one_rule one other p q =
      let slots = token_once model token p.slot q.slot p.has_token q.has_token in
      has_rule_once model q.slot.pred number one other (subst (λ (s : Slot). HasRule model s.pred number one) slots p.has_rule) q.has_rule

  pub rule_for : (pred : ℕ) (rule : Rule) → (slot : Slot) × HasToken model token slot × (slot.pred ≡ pred) → HasRule model pred number rule → HasRuleOf model token number rule
  rule_for pred rule (slot, has, same) has_rule = record { slot = slot; has_token = has; has_rule = subst (λ (n : ℕ). HasRule model n number rule) (sym same) has_rule }

  pub no_rule : (pred : ℕ) → (slot : Slot) × HasToken model token slot × (slot.pred ≡ pred) → ((rule : Rule) → HasRule model pred number rule → ⊥)
      → (rule : Rule) → HasRuleOf model token number rule → ⊥
  no_rule pred (slot, has, same) none rule is =
      none rule (subst (λ (n : ℕ). HasRule model n number rule) (ap (λ (s : Slot). s.pred) (token_once model token is.slot slot is.has_token has) ∙ same) is.has_rule)

  -- ---- items

  module _ (plan : Plan) where
    pub no_items : ((rule : Rule) → HasRuleOf model token number rule → ⊥) → IsAllTrue model plan token number
    no_items none item placed entries is_open claim at says =
        absurd (none is_open.has_block.rule (record { slot = is_open.has_block.slot; has_token = is_open.has_block.has_token; has_rule = is_open.has_block.has_rule }))

    module _ (rule : Rule) (is : HasRuleOf model token number rule) where
      abbrev P : PlacedItem → Type 0
      P = IsTruePlaced model plan (InRule token number) rule.top

      -- the item at the place is true, if it passes
      true_at : (item : ℕ) → ((placed : PlacedItem) → slice_get (items_from [] 0 rule.top) item ≡ Some placed → P placed) → IsTrueInRule model plan token number item
      true_at item passes placed entries is_open claim at says =
          let block = is_open.has_block in
          let same = one_rule block.rule rule (record { slot = block.slot; has_token = block.has_token; has_rule = block.has_rule }) is in
          passes placed (subst (λ (r : Rule). slice_get (items_from [] 0 r.top) item ≡ Some placed) same at) entries
          (subst (λ (r : Rule). Follows (Allows model plan (InRule token number)) r.top placed.path entries) same block.way) claim says

      pub all_true : All P (items_from [] 0 rule.top) → IsAllTrue model plan token number
      all_true pass item = true_at item (λ placed at. item_all P (items_from [] 0 rule.top) item placed pass at)

      -- and if it is true, it passes
      passes_at : (item : ℕ) (placed : PlacedItem) → IsActivatedIn plan token → slice_get (items_from [] 0 rule.top) item ≡ Some placed → IsTrueInRule model plan token number item → P placed
      passes_at item placed activated at holds block way claim says =
          holds placed block (record {
            activated = activated;
            has_block = record { slot = is.slot; has_token = is.has_token; rule = rule; has_rule = is.has_rule; way = way };
          }) claim at says

      pub first_false : (found : ℕ) → IsActivatedIn plan token → FirstFails P 0 (items_from [] 0 rule.top) found → IsFirstFalse model plan token number found
      first_false found activated fails =
          let same : fails.place ≡ found = omega (arith, fails.is_number) in
          record {
            is_false = λ holds. fails.fails (passes_at fails.place fails.placed activated fails.at (subst (λ (n : ℕ). IsTrueInRule model plan token number n) (sym same) holds));
            before = λ earlier less. true_at earlier (λ placed at. fails.before earlier placed (omega (arith, less, same)) at);
          }
