-- The blocks that are open in a plan, each in a list.
use Rattle.std.proofs.Common.{ℕ, inl, inr, false, List, [], ◌∷◌, length, refl, sym, ap, ◌∙◌, subst}
use Rattle.domain_core.specs.Domain.{Range}
use Rattle.std.specs.Prelude.{Contains, ◌↔◌}
use Rattle.std.proofs.lemmas.List.Elements.{All-contains}
use Rattle.eu_name.specs.declared.name.TokenName.{TokenName}
use Rattle.model_core.specs.declared.class.Pred.{Pred}
use Rattle.model_core.specs.declared.model.Model.{Model}
use Rattle.model_core.specs.declared.rule.Rule.{Rule}
use Rattle.model_core.specs.declared.rule.Turn.{Turn}
use Rattle.model_core.specs.Blocks.{TokenBlock}
use Rattle.plan_defs.specs.declared.plan.Line as the_line
use Rattle.plan_defs.specs.declared.plan.Line.TheVariants as lines
use Rattle.plan_defs.specs.declared.plan.Plan.{Plan}
use Rattle.plan_defs.specs.Plans.{IsPlanOf, IsLineOf, IsActivatedIn, plan_situation}
use Rattle.plan_defs.specs.PlanStates.{IsOpenBlock}
use Rattle.eu_name.proofs.Ordered.{contains_head, contains_later, contains_cases, contains_none}
use Rattle.eu_name.proofs.Members.{contains_from_get, get_below}
use Rattle.plan_defs.proofs.Knowing.{IsOrNot}
use Rattle.law_states.proofs.Listing.{gather, gathered, numbers_below, number_below, sift}
use Rattle.law_states.proofs.Paths.{all_ways, way_there}
use Rattle.law_states.proofs.Guards.{CanTell, open_or_not}
use Rattle.law_states.proofs.Telling.{activated_or_not, taken_or_not, value_or_not, value_once}

module _ (model : Model) (plan : Plan) (is_plan : IsPlanOf model plan) where
  -- what the plan says is told
  plan_told : CanTell (plan_situation plan)
  plan_told = record {
    taken = taken_or_not plan is_plan.order;
    activated = activated_or_not plan is_plan.order;
    gives = λ name. elim (value_or_not plan is_plan.order name) [
      | inl given ↦ inl (Range given.0 given.0, (given.0, given.1, refl))
      | inr none ↦ inr (λ given. none (given.1.0, given.1.1))
    ];
    once = λ name one other p q. p.2 ∙ ap (λ value. Range value value) (value_once plan is_plan.order name p.0 q.0 p.1 q.1) ∙ sym q.2;
  }

  pub plan_open_or_not : (block : TokenBlock) → IsOrNot (IsOpenBlock model plan block)
  plan_open_or_not block = open_or_not model (plan_situation plan) plan_told block
      (λ activated. let of = All-contains (IsLineOf model) plan.lines (lines.Token block.token false activated.0) is_plan.lines activated.1 in (of.0, of.1))

  -- ---- all that may be

  -- the token that the line is about, if it takes place
  owner_in : the_line.Line → List TokenName
  owner_in (lines.Token name fact values) = name ∷ []
  owner_in line = []

  abbrev block_with : TokenName → ℕ → List Turn → TokenBlock
  block_with token rule path = record { token = token; rule = rule; path = path }

  ways_of : TokenName → ℕ → List (List Turn) → List TokenBlock
  ways_of token rule [] = []
  ways_of token rule (path ∷ paths) = block_with token rule path ∷ ways_of token rule paths

  way_of_there : (token : TokenName) (rule : ℕ) (paths : List (List Turn)) (path : List Turn) → Contains paths path → Contains (ways_of token rule paths) (block_with token rule path)
  unfolding ways_of
  way_of_there token rule [] path there = absurd (contains_none path there)
  way_of_there token rule (first ∷ paths) path there = elim (contains_cases first path paths there) [
    | inl same ↦ subst (λ (p : List Turn). Contains (block_with token rule first ∷ ways_of token rule paths) (block_with token rule p)) same (contains_head (block_with token rule first) (ways_of token rule paths))
    | inr later ↦ contains_later (block_with token rule first) (block_with token rule path) (ways_of token rule paths) (way_of_there token rule paths path later)
  ]

  abbrev of_rule : TokenName → ℕ → Rule → List TokenBlock
  of_rule token number rule = ways_of token number (all_ways rule.top)

  abbrev of_number : TokenName → ℕ → List TokenBlock
  of_number token number = gather (of_rule token number) model.rules

  abbrev of_pred : TokenName → Pred → List TokenBlock
  of_pred token pred = gather (of_number token) (numbers_below (length pred.rules))

  abbrev of_token : TokenName → List TokenBlock
  of_token token = gather (of_pred token) model.preds

  abbrev of_line : the_line.Line → List TokenBlock
  of_line line = gather of_token (owner_in line)

  abbrev may_be_open : List TokenBlock
  may_be_open = gather of_line plan.lines

  open_there : (block : TokenBlock) → IsOpenBlock model plan block → Contains may_be_open block
  unfolding owner_in
  open_there block opened =
      let has = opened.1.has_block in
      let activated : IsActivatedIn plan block.token = opened.1.activated in
      let of = has.has_rule in
      let ways = way_of_there block.token block.rule (all_ways has.rule.top) block.path (way_there _ has.rule.top block.path opened.0 has.way) in
      gathered of_line plan.lines (lines.Token block.token false activated.0) block activated.1
      (gathered of_token (block.token ∷ []) block.token block (contains_head block.token [])
      (gathered (of_pred block.token) model.preds of.predicate block (contains_from_get model.preds has.slot.pred of.predicate of.is_predicate)
      (gathered (of_number block.token) (numbers_below (length of.predicate.rules)) block.rule block (number_below (length of.predicate.rules) block.rule (get_below of.predicate.rules block.rule of.place of.listed))
      (gathered (of_rule block.token block.rule) model.rules has.rule block (contains_from_get model.rules of.place has.rule of.is_rule) ways))))

  -- the open blocks, in no order
  pub record OpenBlocks : Type 0 where
    pub list : List TokenBlock
    pub are : (block : TokenBlock) → Contains list block ↔ IsOpenBlock model plan block

  pub open_blocks : OpenBlocks
  open_blocks =
      let sifted = sift (IsOpenBlock model plan) plan_open_or_not may_be_open in
      record { list = sifted.list; are = λ block. (λ there. ((sifted.are block).0 there).1, λ opened. (sifted.are block).1 (open_there block opened, opened)) }
