-- All time edges of a list of decisions.
use Rattle.std.specs.Prelude.{◌≡◌, ◌↔◌, ◌⊎◌, ℕ, ◌+◌, List, [], ◌∷◌, ◌++◌, Some, map, slice_get, Contains}
use Rattle.eu_name.specs.declared.name.TokenName.{TokenName}
use Rattle.model_core.specs.declared.decision.Decision.{Decision}
use Rattle.model_core.specs.declared.item.Item.{Item}
use Rattle.model_core.specs.declared.model.Model.{Model}
use Rattle.model_core.specs.declared.rule.Rule.{Rule}
use Rattle.model_core.specs.Numbers.{PlacedItem, rule_items}
use Rattle.model_core.specs.State.{State}
use Rattle.plan_defs.specs.Terms.{InProblem, InRule}
use Rattle.plan_values.specs.Walks.{HasRuleOf}
use Rattle.db_edges.specs.declared.edge.NamedEdge.{NamedEdge}
use Rattle.db_edges.specs.declared.walking.Sort.{Sort}
use Rattle.db_edges.specs.declared.walking.Sort.TheVariants.{Relations, Constraints}
use Rattle.db_edges.specs.Edges.{AppendsEach, HasLastingEdges, HasTimesGiven, HasRelationEdges, HasConstraintEdges, HasOrderEdges}
use Rattle.db_edges.specs.Edges.{HasPostedEdges}

-- an item of a token: the number of the rule, and where the item stands in it
pub record TokenItem : Type 0 where
  pub rule : ℕ
  pub placed : PlacedItem

-- all items of the rules, open or not, where the first rule has this number: rule by rule, in order of text
abbrev pub items_of_rules : ℕ → List Rule → List TokenItem
items_of_rules number [] = []
items_of_rules number (rule ∷ rules) =
    map (λ placed. record { rule = number; placed = placed }) (rule_items rule) ++ items_of_rules (number + 1) rules

-- these are the rules of the token, each at its number
abbrev pub AreRulesOf : Model → TokenName → List Rule → Type 0
AreRulesOf model token rules =
    (number : ℕ) (rule : Rule) → HasRuleOf model token number rule ↔ (slice_get rules number ≡ Some rule)

-- the block in which the item stands is open
abbrev pub IsItemOpen : State → TokenName → TokenItem → Type 0
IsItemOpen state token each = Contains state.blocks (record { token = token; rule = each.rule; path = each.placed.path })

-- the edges of an item of this sort of the token's rule of this number
abbrev pub HasSortEdges : Sort → Model → List Decision → TokenName → ℕ → Item → List NamedEdge → Type 0
HasSortEdges Relations model decisions token rule item edges = HasRelationEdges model decisions token rule item edges
HasSortEdges Constraints model decisions token rule item edges = HasConstraintEdges model decisions (InRule token rule) item edges

-- its edges where its block is open; where it isn't, there are none
abbrev pub HasOpenEdges : Sort → Model → List Decision → State → TokenName → TokenItem → List NamedEdge → Type 0
HasOpenEdges sort model decisions state token each edges =
    (IsItemOpen state token each × HasSortEdges sort model decisions token each.rule each.placed.item edges)
    ⊎ ((IsItemOpen state token each → ⊥) × (edges ≡ []))

-- the edges of all items of this sort in open blocks of the token
abbrev pub HasTokenEdges : Sort → Model → List Decision → State → TokenName → List NamedEdge → Type 0
HasTokenEdges sort model decisions state token edges =
    (rules : List Rule) × AreRulesOf model token rules
    × AppendsEach (HasOpenEdges sort model decisions state token) (items_of_rules 0 rules) edges

-- all time edges of the decisions, read from the state that all but the last of them leave: those of each token by itself, of
-- the times that are given, of relations in open blocks, of constraints of the problem and in open blocks, of orders, and of what
-- is posted
pub record AreTimeEdges (model : Model) (decisions : List Decision) (state : State) (edges : List NamedEdge) : Type 0 where
  pub lasting : List NamedEdge
  pub given : List NamedEdge
  pub related : List NamedEdge
  pub problem : List NamedEdge
  pub constrained : List NamedEdge
  pub ordered : List NamedEdge
  pub posted : List NamedEdge
  pub lasting_are : AppendsEach (HasLastingEdges model state decisions) state.tokens lasting
  pub given_are : AppendsEach (HasTimesGiven model decisions) state.tokens given
  pub related_are : AppendsEach (HasTokenEdges Relations model decisions state) state.tokens related
  pub problem_are : AppendsEach (HasConstraintEdges model decisions InProblem) model.problem.items problem
  pub constrained_are : AppendsEach (HasTokenEdges Constraints model decisions state) state.tokens constrained
  pub ordered_are : AppendsEach HasOrderEdges decisions ordered
  pub posted_are : AppendsEach (HasPostedEdges model decisions) decisions posted
  pub all : edges ≡ lasting ++ (given ++ (related ++ (problem ++ (constrained ++ (ordered ++ posted)))))
