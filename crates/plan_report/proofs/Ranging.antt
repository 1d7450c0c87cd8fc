-- What a plan breaks has names.
use Rattle.std.proofs.Common.{◌≡◌, ℕ, ℤ, zero, suc, ◌<◌, ◌⊎◌, true, false, List, [], ◌∷◌, Option, Some, None, slice_get, length, inl, inr, refl, sym, ◌∙◌, subst, arith}
use Rattle.std.proofs.lemmas.Int.{ints, by_lt_z}
use Rattle.eu_name.specs.declared.name.TokenName.{TokenName}
use Rattle.eu_name.specs.declared.name.VarName.TheVariants as variables
use Rattle.model_core.specs.declared.class.Pred.{Pred}
use Rattle.model_core.specs.declared.model.Model.{Model}
use Rattle.model_core.specs.declared.model.Root.{Root}
use Rattle.model_core.specs.declared.rule.Rule.{Rule}
use Rattle.model_core.specs.declared.rule.Slot.{Slot}
use Rattle.model_core.specs.declared.variable.Base.{Base}
use Rattle.model_core.specs.Lawful.{IsLawful, IsToken}
use Rattle.model_core.specs.Tokens.{HasRule, HasToken, root_token, slot_token}
use Rattle.model_core.specs.Variables.{HasBase}
use Rattle.model_core.proofs.Items.{item_all}
use Rattle.model_core.proofs.Leading.{token_once}
use Rattle.plan_defs.specs.declared.plan.Clause.{Clause}
use Rattle.plan_defs.specs.declared.plan.Clause.TheVariants.{V1, V2, V3, V4, V5, V6, V7, V8, V9, V10}
use Rattle.plan_defs.specs.declared.plan.Line.{Line}
use Rattle.plan_defs.specs.declared.plan.Line.TheVariants as lines
use Rattle.plan_defs.specs.declared.plan.Place.{Place}
use Rattle.plan_defs.specs.declared.plan.Place.TheVariants as places
use Rattle.plan_defs.specs.declared.plan.Plan.{Plan}
use Rattle.plan_defs.specs.Broken.{IsBroken}
use Rattle.plan_defs.specs.Plans.{IsPlanOf, IsLineOf, IsTakenIn, plan_situation}
use Rattle.plan_defs.specs.Resources.{IsInstant}
use Rattle.plan_defs.specs.Support.{AsksFor}
use Rattle.plan_defs.specs.Valid.{IsLineAt, IsActivatedAt, AsksForLocal, Becomes, HasDeclaredValue, IsAsked, IsLineOfSort, IsTrueInRule, SuitsIfMerged, SuitsIfToken}
use Rattle.plan_values.proofs.Declaring.{slot_found}
use Rattle.plan_inventory.proofs.Suiting.{asks_stands, local_stands}
use Rattle.plan_inventory.proofs.Sweeping.{slot_below, local_below}
use Rattle.plan_report.specs.Naming.{HasNames}
use Rattle.plan_report.proofs.Placing.{same_activated}

-- ---- items of lists

found_or_not : {X : Type 0} (xs : List X) (k : ℕ) → ((x : X) × (slice_get xs k ≡ Some x)) ⊎ (slice_get xs k ≡ None)
found_or_not [] k = inr refl
found_or_not (x ∷ xs) zero = inl (x, refl)
found_or_not (x ∷ xs) (suc k) = found_or_not xs k

not_found : {X : Type 0} (found : Option X) (x : X) → found ≡ Some x → found ≡ None → ⊥
not_found found x some none = let same : Some x ≡ None = sym some ∙ none in cc

within_found : {X : Type 0} (xs : List X) (k : ℕ) → k < length xs → slice_get xs k ≡ None → ⊥
within_found [] k within none = absurd (omega (arith, within))
within_found (x ∷ xs) zero within none = cc
within_found (x ∷ xs) (suc k) within none = within_found xs k (omega (arith, within)) none

-- what isn't so of all that stands there stands there
stands : {X : Type 0} (xs : List X) (k : ℕ) (P : X → Type 0) → (((x : X) → slice_get xs k ≡ Some x → P x) → ⊥) → (x : X) × (slice_get xs k ≡ Some x)
stands xs k P broken = elim (found_or_not xs k) [
  | inl found ↦ found
  | inr none ↦ absurd (broken (λ x at. absurd (not_found (slice_get xs k) x at none)))
]

-- ---- rules

module _ (model : Model) (pred number : ℕ) where
  abbrev RuleOrNot : Type 0
  RuleOrNot = ((rule : Rule) × HasRule model pred number rule) ⊎ ((rule : Rule) → HasRule model pred number rule → ⊥)

  module _ (predicate : Pred) (is_predicate : slice_get model.preds pred ≡ Some predicate) where
    same_predicate : (rule : Rule) (has : HasRule model pred number rule) → has.predicate ≡ predicate
    same_predicate rule has = let is = has.is_predicate in cc

    listed_at : (place : ℕ) → slice_get predicate.rules number ≡ Some place → RuleOrNot
    listed_at place listed = elim (found_or_not model.rules place) [
      | inl found ↦ inl (found.0, record { predicate = predicate; place = place; is_predicate = is_predicate; listed = listed; is_rule = found.1 })
      | inr none ↦ inr (λ rule has.
          let same : slice_get predicate.rules number ≡ Some has.place = subst (λ (p : Pred). slice_get p.rules number ≡ Some has.place) (same_predicate rule has) has.listed in
          let same_place : has.place ≡ place = cc in
          not_found (slice_get model.rules place) rule (subst (λ (k : ℕ). slice_get model.rules k ≡ Some rule) same_place has.is_rule) none)
    ]

    rule_of_pred : RuleOrNot
    rule_of_pred = elim (found_or_not predicate.rules number) [
      | inl found ↦ listed_at found.0 found.1
      | inr none ↦ inr (λ rule has.
          not_found (slice_get predicate.rules number) has.place (subst (λ (p : Pred). slice_get p.rules number ≡ Some has.place) (same_predicate rule has) has.listed) none)
    ]

  rule_or_not : RuleOrNot
  rule_or_not = elim (found_or_not model.preds pred) [
    | inl found ↦ rule_of_pred found.0 found.1
    | inr none ↦ inr (λ rule has. not_found (slice_get model.preds pred) has.predicate has.is_predicate none)
  ]

module _ (model : Model) (plan : Plan) (lawful : IsLawful model) (is_plan : IsPlanOf model plan) where
  -- ---- lines

  activated_there : (line : ℕ) (P : TokenName → Type 0) → (((token : TokenName) → IsActivatedAt plan line token → P token) → ⊥) → (token : TokenName) × IsActivatedAt plan line token
  activated_there line P broken = elim (found_or_not plan.lines line) [
    | inl found ↦ of_line found.0 found.1
    | inr none ↦ absurd (broken (λ token act. absurd (not_found (slice_get plan.lines line) _ act.1 none)))
  ]
    where
      clash : (said : Line) → IsLineAt plan line said → ((token : TokenName) (act : IsActivatedAt plan line token) → said ≡ lines.Token token false act.0 → ⊥) → (token : TokenName) × IsActivatedAt plan line token
      clash said at other = absurd (broken (λ token act. absurd (other token act
          (let same : Some said ≡ Some (lines.Token token false act.0) = sym at ∙ act.1 in cc))))

      of_line : (said : Line) → IsLineAt plan line said → (token : TokenName) × IsActivatedAt plan line token
      of_line (lines.Token token false values) at = (token, (values, at))
      of_line (lines.Token token true values) at = clash (lines.Token token true values) at (λ other act same. cc)
      of_line (lines.Merged token target) at = clash (lines.Merged token target) at (λ other act same. cc)
      of_line (lines.Rejected token) at = clash (lines.Rejected token) at (λ other act same. cc)
      of_line (lines.Local name value) at = clash (lines.Local name value) at (λ other act same. cc)

  token_known : (line : ℕ) (token : TokenName) → IsActivatedAt plan line token → IsToken model token
  token_known line token act =
      let is : IsLineOf model (lines.Token token false act.0) = item_all (IsLineOf model) plan.lines line (lines.Token token false act.0) is_plan.lines act.1 in
      (is.0, is.1)

  -- ---- slots and locals of a token

  module _ (token : TokenName) (slot : Slot) (has : HasToken model token slot) (number : ℕ) where
    module _ (rule : Rule) (has_rule : HasRule model slot.pred number rule) where
      slot_in : (place : ℕ) → IsToken model (slot_token token number place) ⊎ (AsksFor model (plan_situation plan) token (record { rule = number; slot = place }) → ⊥)
      slot_in place = elim (found_or_not rule.slots place) [
        | inl found ↦ inl (found.0, slot_found model token.root token.steps (record { rule = number; slot = place }) slot.pred found.0 (slot, has, refl) (record { rule = rule; has_rule = has_rule; is_slot = found.1 }))
        | inr none ↦ inr (λ asks. within_found rule.slots place
            (slot_below model lawful token number rule (record { slot = slot; has_token = has; has_rule = has_rule }) plan place (asks_stands model plan token (record { rule = number; slot = place }) asks)) none)
      ]

      local_in : (place : ℕ) → ((base : Base) × HasBase model (variables.Local token number place) base) ⊎ (AsksForLocal model plan token number place → ⊥)
      local_in place = elim (found_or_not rule.locals place) [
        | inl found ↦ inl (found.0.base, record { slot = slot; has_token = has; variable = found.0; has_local = record { found = rule; has_rule = has_rule; declared = found.1 }; is_base = refl })
        | inr none ↦ inr (λ asks. within_found rule.locals place
            (local_below model lawful token number rule (record { slot = slot; has_token = has; has_rule = has_rule }) plan place (local_stands model plan token number place asks)) none)
      ]

    no_rule_asks : ((rule : Rule) → HasRule model slot.pred number rule → ⊥) → (place : ℕ) → AsksFor model (plan_situation plan) token (record { rule = number; slot = place }) → ⊥
    no_rule_asks none place asks =
        let block = asks.is_open.has_block in
        none block.rule (subst (λ (s : Slot). HasRule model s.pred number block.rule) (token_once model token block.slot slot block.has_token has) block.has_rule)

    no_rule_local : ((rule : Rule) → HasRule model slot.pred number rule → ⊥) → (place : ℕ) → AsksForLocal model plan token number place → ⊥
    no_rule_local none place asks =
        let block = asks.is_open.has_block in
        none block.rule (subst (λ (s : Slot). HasRule model s.pred number block.rule) (token_once model token block.slot slot block.has_token has) block.has_rule)

    slot_or_not : (place : ℕ) → IsToken model (slot_token token number place) ⊎ (AsksFor model (plan_situation plan) token (record { rule = number; slot = place }) → ⊥)
    slot_or_not place = elim (rule_or_not model slot.pred number) [
      | inl found ↦ slot_in found.0 found.1 place
      | inr none ↦ inr (no_rule_asks none place)
    ]

    local_or_not : (place : ℕ) → ((base : Base) × HasBase model (variables.Local token number place) base) ⊎ (AsksForLocal model plan token number place → ⊥)
    local_or_not place = elim (rule_or_not model slot.pred number) [
      | inl found ↦ local_in found.0 found.1 place
      | inr none ↦ inr (no_rule_local none place)
    ]

  -- ---- clause by clause

  global_named : (number : ℕ) → IsBroken model plan V1 (places.Global number) → HasNames model plan (places.Global number)
  global_named number broken = elim (found_or_not model.problem.globals number) [
    | inl found ↦ found
    | inr none ↦ absurd (broken (λ within. absurd (within_found model.problem.globals number within none)))
  ]

  slot_named : (line rule number : ℕ) → IsBroken model plan V5 (places.Slot line rule number) → HasNames model plan (places.Slot line rule number)
  slot_named line rule number broken =
      let act = activated_there line (λ (token : TokenName). AsksFor model (plan_situation plan) token (record { rule = rule; slot = number }) → IsTakenIn plan (slot_token token rule number)) broken in
      let known = token_known line act.0 act.1 in
      elim (slot_or_not act.0 known.0 known.1 rule number) [
        | inl is ↦ (act.0, (act.1, is))
        | inr none ↦ absurd (broken (λ token at asks. absurd (none
            (subst (λ (t : TokenName). AsksFor model (plan_situation plan) t (record { rule = rule; slot = number })) (same_activated plan line token act.0 at act.1) asks))))
      ]

  local_named : (line rule number : ℕ) → IsBroken model plan V5 (places.Local line rule number) → HasNames model plan (places.Local line rule number)
  local_named line rule number broken =
      let act = activated_there line (λ (token : TokenName). AsksForLocal model plan token rule number → HasDeclaredValue model plan (variables.Local token rule number)) broken in
      let known = token_known line act.0 act.1 in
      elim (local_or_not act.0 known.0 known.1 rule number) [
        | inl is ↦ (act.0, (act.1, is))
        | inr none ↦ absurd (broken (λ token at asks. absurd (none
            (subst (λ (t : TokenName). AsksForLocal model plan t rule number) (same_activated plan line token act.0 at act.1) asks))))
      ]

  item_named : (line rule number : ℕ) → IsBroken model plan V7 (places.Item line rule number) → HasNames model plan (places.Item line rule number)
  item_named line rule number broken =
      let act = activated_there line (λ (token : TokenName). IsTrueInRule model plan token rule number) broken in
      (lines.Token act.0 false act.1.0, act.1.1)

  pair_named : (first second : ℕ) → IsBroken model plan V8 (places.Pair first second) → HasNames model plan (places.Pair first second)
  pair_named first second broken = (here, there)
    where
      here : (said : Line) × IsLineAt plan first said
      here = elim (found_or_not plan.lines first) [
        | inl found ↦ found
        | inr none ↦ absurd (broken (λ less one other at at'. absurd (not_found (slice_get plan.lines first) _ at.1.1 none)))
      ]

      there : (said : Line) × IsLineAt plan second said
      there = elim (found_or_not plan.lines second) [
        | inl found ↦ found
        | inr none ↦ absurd (broken (λ less one other at at'. absurd (not_found (slice_get plan.lines second) _ at'.1.1 none)))
      ]

  instant_or_not : (at : ℤ) → IsInstant model at ⊎ (IsInstant model at → ⊥)
  instant_or_not at = by_lt_z at model.problem.start
      (λ below. inr (λ is. absurd (omega (arith, ints, below, is.0))))
      (λ since. by_lt_z model.problem.end at
      (λ above. inr (λ is. absurd (omega (arith, ints, above, is.1))))
      (λ until. inl (since, until)))

  instant_named : (number : ℕ) (at : ℤ) → (slice_get model.objects number ≡ None → ⊥) → ((IsInstant model at → ⊥) → ⊥) → HasNames model plan (places.Instant number at)
  instant_named number at an_object an_instant = elim (found_or_not model.objects number) [
    | inl found ↦ elim (instant_or_not at) [ inl is ↦ (found, is) | inr none ↦ absurd (an_instant none) ]
    | inr none ↦ absurd (an_object none)
  ]

  pub place_named : (clause : Clause) (place : Place) → IsBroken model plan clause place → HasNames model plan place
  place_named V1 (places.Global number) broken = global_named number broken
  place_named V1 place broken = absurd (broken tt)
  place_named V2 (places.Root number) broken = stands model.problem.roots number (λ (root : Root). Becomes plan root.kind (root_token number)) broken
  place_named V2 (places.Line line) broken = stands plan.lines line IsLineOfSort broken
  place_named V2 place broken = absurd (broken tt)
  place_named V3 (places.Line line) broken = stands plan.lines line (SuitsIfToken model plan) broken
  place_named V3 place broken = absurd (broken tt)
  place_named V4 (places.Line line) broken = stands plan.lines line (SuitsIfMerged model plan) broken
  place_named V4 place broken = absurd (broken tt)
  place_named V5 (places.Slot line rule number) broken = slot_named line rule number broken
  place_named V5 (places.Local line rule number) broken = local_named line rule number broken
  place_named V5 place broken = absurd (broken tt)
  place_named V6 (places.Line line) broken = stands plan.lines line (IsAsked model plan) broken
  place_named V6 place broken = absurd (broken tt)
  place_named V7 (places.Problem item) broken = tt
  place_named V7 (places.Item line rule number) broken = item_named line rule number broken
  place_named V7 place broken = absurd (broken tt)
  place_named V8 (places.Pair first second) broken = pair_named first second broken
  place_named V8 place broken = absurd (broken tt)
  place_named V9 (places.Instant number at) broken = instant_named number at
      (λ none. broken (λ object capacity at_object kind instant. absurd (not_found (slice_get model.objects number) object at_object none)))
      (λ none. broken (λ object capacity at_object kind instant. absurd (none instant)))
  place_named V9 place broken = absurd (broken tt)
  place_named V10 (places.Instant number at) broken = instant_named number at
      (λ none. broken (λ object initial low high at_object kind instant. absurd (not_found (slice_get model.objects number) object at_object none)))
      (λ none. broken (λ object initial low high at_object kind instant. absurd (none instant)))
  place_named V10 place broken = absurd (broken tt)
