-- What suits tokens, merged ones and roots, by their lines.
use Rattle.std.proofs.Common.{◌≡◌, ℕ, ◌+◌, ◌<◌, ℤ, Bool, true, false, List, length, get_or, Some, inl, inr, refl, sym, ap, ◌∙◌, subst, below_more}
use Rattle.std.specs.Prelude.{Contains, MatchBool, slice_get}
use Rattle.eu_name.specs.declared.name.Step.{Step}
use Rattle.eu_name.specs.declared.name.TokenName.{TokenName}
use Rattle.eu_name.proofs.Members.{get_same}
use Rattle.model_core.specs.declared.model.Model.{Model}
use Rattle.model_core.specs.declared.model.Root.{Root}
use Rattle.model_core.specs.declared.model.RootKind.{RootKind}
use Rattle.model_core.specs.declared.model.RootKind.TheVariants.{Goal, Rejectable, Fact}
use Rattle.model_core.specs.Blocks.{OfSlot, OfLocal}
use Rattle.model_core.specs.Tokens.{IsRoot, root_token}
use Rattle.model_core.proofs.Items.{item_at}
use Rattle.plan_defs.specs.declared.plan.Line.{Line}
use Rattle.plan_defs.specs.declared.plan.Line.TheVariants as lines
use Rattle.plan_defs.specs.declared.plan.Plan.{Plan}
use Rattle.plan_defs.specs.Claims.{lasts}
use Rattle.plan_defs.specs.Plans.{order_name, TakesPlaceWith, IsActivatedIn, plan_situation}
use Rattle.plan_defs.specs.Refusals.{HaveSamePredicate}
use Rattle.plan_defs.specs.Support.{AsksFor}
use Rattle.plan_defs.specs.Valid.{HasDeclaredParts, IsClaimTrue, SuitsToken, SuitsMerge, Becomes, AsksForLocal}
use Rattle.plan_defs.proofs.Saying.{one_line}
use Rattle.plan_values.specs.Keys.{IsOrderly}
use Rattle.plan_values.specs.Openings.{StandsInRule}
use Rattle.plan_values.specs.Values.{IsLineFor, HasValues}
use Rattle.plan_values.proofs.Matching.{match_bool}
use Rattle.plan_values.proofs.Naming.{of_token, gives_from, gives_there}
use Rattle.plan_inventory.specs.Bases.{AreDeclaredIn}
use Rattle.plan_inventory.specs.Breaks.{SuitsKind, RootBecomes}

-- ---- values

module _ (model : Model) (plan : Plan) (ok : IsOrderly plan) (token : TokenName) (values : List ℤ) (has : HasValues plan token values) where
  pub parts_from : AreDeclaredIn model token values → HasDeclaredParts model plan token
  parts_from all part is = let each = all part is in (each.0, gives_from plan ok token part values each.0 has each.1, each.2)

  pub parts_to : HasDeclaredParts model plan token → AreDeclaredIn model token values
  parts_to parts part is = let each = parts part is in (each.0, gives_there plan ok token part values each.0 has each.1, each.2)

module _ (model : Model) (plan : Plan) (ok : IsOrderly plan) (token : TokenName) (values : List ℤ) (takes : TakesPlaceWith plan token values) where
  pub token_answer : (answer : Bool) → AreDeclaredIn model token values → MatchBool answer (IsClaimTrue model plan (lasts token)) (IsClaimTrue model plan (lasts token) → ⊥)
      → MatchBool answer (SuitsToken model plan token) (SuitsToken model plan token → ⊥)
  token_answer answer declared is = match_bool answer _ _ _ _
      (λ holds. record { parts = parts_from model plan ok token values (inl takes) declared; lasts = holds })
      (λ fails suits. fails suits.lasts) is

  pub token_fails : (AreDeclaredIn model token values → ⊥) → SuitsToken model plan token → ⊥
  token_fails none suits = none (parts_to model plan ok token values (inl takes) suits.parts)

module _ (model : Model) (plan : Plan) (ok : IsOrderly plan) (token target : TokenName) (merged : Contains plan.lines (lines.Merged token target)) where
  pub merge_answer : (named : TokenName) (values : List ℤ) (answer : Bool) → named ≡ target → (target ≡ token → ⊥) → HaveSamePredicate model token target → TakesPlaceWith plan named values
      → MatchBool answer (AreDeclaredIn model token values) (AreDeclaredIn model token values → ⊥) → MatchBool answer (SuitsMerge model plan token target) (SuitsMerge model plan token target → ⊥)
  merge_answer named values answer same apart preds takes is =
      let there : TakesPlaceWith plan target values = subst (λ (n : TokenName). TakesPlaceWith plan n values) same takes in
      let has : HasValues plan token values = inr (target, merged, there) in
      match_bool answer _ _ _ _
      (λ declared. record { there = (values, there); apart = apart; same = preds; parts = parts_from model plan ok token values has declared })
      (λ none suits. none (parts_to model plan ok token values has suits.parts)) is

  pub merge_nowhere : (named : TokenName) → named ≡ target → ((values : List ℤ) → TakesPlaceWith plan named values → ⊥) → SuitsMerge model plan token target → ⊥
  merge_nowhere named same none suits = none suits.there.0 (subst (λ (n : TokenName). TakesPlaceWith plan n suits.there.0) (sym same) suits.there.1)

-- ---- roots

module _ (plan : Plan) (ok : IsOrderly plan) (token : TokenName) (line : Line) (is : IsLineFor plan (of_token token) line) where
  same_name : (name : TokenName) → order_name line ≡ of_token name → name ≡ token
  same_name name named =
      let e : of_token name ≡ of_token token = sym named ∙ is.1 in
      cc

  the_line : (other : Line) → Contains plan.lines other → order_name other ≡ of_token token → line ≡ other
  the_line other there named = one_line plan ok.order line other is.0 there (is.1 ∙ sym named)

  own_line : (name : TokenName) (fact : Bool) (values : List ℤ) → line ≡ lines.Token name fact values → Contains plan.lines (lines.Token token fact values)
  own_line name fact values says =
      subst (λ (n : TokenName). Contains plan.lines (lines.Token n fact values)) (same_name name (ap order_name says)) (subst (Contains plan.lines) says is.0)

  merged_line : (name target : TokenName) → line ≡ lines.Merged name target → Contains plan.lines (lines.Merged token target)
  merged_line name target says =
      subst (λ (n : TokenName). Contains plan.lines (lines.Merged n target)) (same_name name (ap order_name says)) (subst (Contains plan.lines) says is.0)

  rejected_line : (name : TokenName) → line ≡ lines.Rejected name → Contains plan.lines (lines.Rejected token)
  rejected_line name says =
      subst (λ (n : TokenName). Contains plan.lines (lines.Rejected n)) (same_name name (ap order_name says)) (subst (Contains plan.lines) says is.0)

  suits_becomes : (kind : RootKind) (shape : Line) → line ≡ shape → SuitsKind kind shape → Becomes plan kind token
  suits_becomes Fact (lines.Token name true values) says suits = (values, own_line name true values says)
  suits_becomes Fact (lines.Token name false values) says suits = absurd suits
  suits_becomes Fact (lines.Merged name target) says suits = absurd suits
  suits_becomes Fact (lines.Rejected name) says suits = absurd suits
  suits_becomes Fact (lines.Local name value) says suits = absurd suits
  suits_becomes Goal (lines.Token name true values) says suits = absurd suits
  suits_becomes Goal (lines.Token name false values) says suits = inl (values, own_line name false values says)
  suits_becomes Goal (lines.Merged name target) says suits = inr (target, merged_line name target says)
  suits_becomes Goal (lines.Rejected name) says suits = absurd suits
  suits_becomes Goal (lines.Local name value) says suits = absurd suits
  suits_becomes Rejectable (lines.Token name true values) says suits = absurd suits
  suits_becomes Rejectable (lines.Token name false values) says suits = inl (inl (values, own_line name false values says))
  suits_becomes Rejectable (lines.Merged name target) says suits = inl (inr (target, merged_line name target says))
  suits_becomes Rejectable (lines.Rejected name) says suits = inr (rejected_line name says)
  suits_becomes Rejectable (lines.Local name value) says suits = absurd suits

  becomes_suits : (kind : RootKind) → Becomes plan kind token → SuitsKind kind line
  becomes_suits Fact (values, there) = subst (SuitsKind Fact) (sym (the_line (lines.Token token true values) there refl)) tt
  becomes_suits Goal (inl (values, there)) = subst (SuitsKind Goal) (sym (the_line (lines.Token token false values) there refl)) tt
  becomes_suits Goal (inr (target, there)) = subst (SuitsKind Goal) (sym (the_line (lines.Merged token target) there refl)) tt
  becomes_suits Rejectable (inl (inl (values, there))) = subst (SuitsKind Rejectable) (sym (the_line (lines.Token token false values) there refl)) tt
  becomes_suits Rejectable (inl (inr (target, there))) = subst (SuitsKind Rejectable) (sym (the_line (lines.Merged token target) there refl)) tt
  becomes_suits Rejectable (inr there) = subst (SuitsKind Rejectable) (sym (the_line (lines.Rejected token) there refl)) tt

  pub becomes_answer : (kind : RootKind) (named : TokenName) (answer : Bool) → token ≡ named → MatchBool answer (SuitsKind kind line) (SuitsKind kind line → ⊥)
      → MatchBool answer (Becomes plan kind named) (Becomes plan kind named → ⊥)
  becomes_answer kind named answer same suits =
      subst (λ (n : TokenName). MatchBool answer (Becomes plan kind n) (Becomes plan kind n → ⊥)) same
      (match_bool answer _ _ _ _ (suits_becomes kind line refl) (λ none becomes. none (becomes_suits kind becomes)) suits)

pub no_becoming : (plan : Plan) (kind : RootKind) (token named : TokenName) → token ≡ named → ((line : Line) → IsLineFor plan (of_token token) line → ⊥) → Becomes plan kind named → ⊥
no_becoming plan kind token named same none becomes = none_at kind (subst (Becomes plan kind) (sym same) becomes)
  where
    none_at : (kind : RootKind) → Becomes plan kind token → ⊥
    none_at Fact (values, there) = none (lines.Token token true values) (there, refl)
    none_at Goal (inl (values, there)) = none (lines.Token token false values) (there, refl)
    none_at Goal (inr (target, there)) = none (lines.Merged token target) (there, refl)
    none_at Rejectable (inl (inl (values, there))) = none (lines.Token token false values) (there, refl)
    none_at Rejectable (inl (inr (target, there))) = none (lines.Merged token target) (there, refl)
    none_at Rejectable (inr there) = none (lines.Rejected token) (there, refl)

-- ---- what is asked for

module _ (model : Model) (plan : Plan) (token : TokenName) where
  pub asks_stands : (step : Step) → AsksFor model (plan_situation plan) token step → StandsInRule model plan token step.rule (OfSlot step.slot)
  asks_stands step asks = record {
    slot = asks.is_open.has_block.slot;
    has_token = asks.is_open.has_block.has_token;
    rule = asks.is_open.has_block.rule;
    has_rule = asks.is_open.has_block.has_rule;
    inside = (asks.path, (asks.entries, asks.is_open.has_block.way, asks.stands));
  }

  pub stands_asks : (step : Step) → IsActivatedIn plan token → StandsInRule model plan token step.rule (OfSlot step.slot) → AsksFor model (plan_situation plan) token step
  stands_asks step activated stands = record {
    path = stands.inside.0;
    entries = stands.inside.1.0;
    is_open = record {
      activated = activated;
      has_block = record { slot = stands.slot; has_token = stands.has_token; rule = stands.rule; has_rule = stands.has_rule; way = stands.inside.1.1 };
    };
    stands = stands.inside.1.2;
  }

  pub local_stands : (rule number : ℕ) → AsksForLocal model plan token rule number → StandsInRule model plan token rule (OfLocal number)
  local_stands rule number asks = record {
    slot = asks.is_open.has_block.slot;
    has_token = asks.is_open.has_block.has_token;
    rule = asks.is_open.has_block.rule;
    has_rule = asks.is_open.has_block.has_rule;
    inside = (asks.path, (asks.entries, asks.is_open.has_block.way, asks.stands));
  }

  pub stands_local : (rule number : ℕ) → IsActivatedIn plan token → StandsInRule model plan token rule (OfLocal number) → AsksForLocal model plan token rule number
  stands_local rule number activated stands = record {
    path = stands.inside.0;
    entries = stands.inside.1.0;
    is_open = record {
      activated = activated;
      has_block = record { slot = stands.slot; has_token = stands.has_token; rule = stands.rule; has_rule = stands.has_rule; way = stands.inside.1.1 };
    };
    stands = stands.inside.1.2;
  }

-- what an open block of the token asks for, where the token takes place under its other name
module _ (model : Model) (plan : Plan) (token parent : TokenName) (same : parent ≡ token) (activated : IsActivatedIn plan parent) where
  pub slot_answer : (step : Step) (answer : Bool) → MatchBool answer (StandsInRule model plan parent step.rule (OfSlot step.slot)) (StandsInRule model plan parent step.rule (OfSlot step.slot) → ⊥)
      → MatchBool answer (AsksFor model (plan_situation plan) token step) (AsksFor model (plan_situation plan) token step → ⊥)
  slot_answer step answer stands =
      subst (λ (t : TokenName). MatchBool answer (AsksFor model (plan_situation plan) t step) (AsksFor model (plan_situation plan) t step → ⊥)) same
      (match_bool answer _ _ _ _ (stands_asks model plan parent step activated) (λ none asks. none (asks_stands model plan parent step asks)) stands)

  pub local_answer : (rule number : ℕ) (answer : Bool) → MatchBool answer (StandsInRule model plan parent rule (OfLocal number)) (StandsInRule model plan parent rule (OfLocal number) → ⊥)
      → MatchBool answer (AsksForLocal model plan token rule number) (AsksForLocal model plan token rule number → ⊥)
  local_answer rule number answer stands =
      subst (λ (t : TokenName). MatchBool answer (AsksForLocal model plan t rule number) (AsksForLocal model plan t rule number → ⊥)) same
      (match_bool answer _ _ _ _ (stands_local model plan parent rule number activated) (λ none asks. none (local_stands model plan parent rule number asks)) stands)

-- ---- root by root

module _ (model : Model) (plan : Plan) (listed : List Root) (number : ℕ) (root : Root) (same : listed ≡ model.problem.roots) (within : number < length listed) (is : root ≡ get_or listed number root) where
  is_root : IsRoot model number root
  is_root = subst (λ (roots : List Root). slice_get roots number ≡ Some root) same (item_at listed number root within ∙ ap (λ (r : Root). Some r) (sym is))

  pub root_fails : (Becomes plan root.kind (root_token number) → ⊥) → RootBecomes model plan number → ⊥
  root_fails none becomes = none (becomes root is_root)

  -- so it is with one root more
  pub one_more_root : ((earlier : ℕ) → earlier < number → RootBecomes model plan earlier) → Becomes plan root.kind (root_token number)
      → (earlier : ℕ) → earlier < number + 1 → RootBecomes model plan earlier
  one_more_root before here = below_more _ _ before (λ other at. subst (λ (r : Root). Becomes plan r.kind (root_token number)) (get_same model.problem.roots number root other is_root at) here)
