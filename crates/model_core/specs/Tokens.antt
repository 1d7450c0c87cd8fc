-- The tokens that a model has, and what each is.
use Rattle.std.specs.Prelude.{◌≡◌, List, [], ◌∷◌, ◌++◌, Some, slice_get, ℕ}
use Rattle.eu_name.specs.declared.name.Step.{Step}
use Rattle.eu_name.specs.declared.name.TokenName.{TokenName}
use Rattle.model_core.specs.declared.class.Pred.{Pred}
use Rattle.model_core.specs.declared.model.Model.{Model}
use Rattle.model_core.specs.declared.model.Root.{Root}
use Rattle.model_core.specs.declared.model.RootKind.{RootKind}
use Rattle.model_core.specs.declared.model.RootKind.TheVariants.{Rejectable, Fact}
use Rattle.model_core.specs.declared.rule.Rule.{Rule}
use Rattle.model_core.specs.declared.rule.Slot.{Slot}
use Rattle.model_core.specs.declared.variable.Base.TheVariants.{Given}

-- the predicate of this number has this rule at this place of its list
pub record HasRule (model : Model) (pred number : ℕ) (rule : Rule) : Type 0 where
  pub predicate : Pred
  pub place : ℕ
  pub is_predicate : slice_get model.preds pred ≡ Some predicate
  pub listed : slice_get predicate.rules number ≡ Some place
  pub is_rule : slice_get model.rules place ≡ Some rule

-- the step is from a token of the predicate to this slot of one of its rules
pub record LeadsToSlot (model : Model) (pred : ℕ) (step : Step) (slot : Slot) : Type 0 where
  pub rule : Rule
  pub has_rule : HasRule model pred step.rule rule
  pub is_slot : slice_get rule.slots step.slot ≡ Some slot

-- the steps lead from what the one slot asks for to what the other asks for
abbrev pub Reaches : Model → Slot → List Step → Slot → Type 0
Reaches model slot [] reached = reached ≡ slot
Reaches model slot (step ∷ steps) reached =
    (next : Slot) × LeadsToSlot model slot.pred step next × Reaches model next steps reached

-- the problem posts this root
abbrev pub IsRoot : Model → ℕ → Root → Type 0
IsRoot model number root = slice_get model.problem.roots number ≡ Some root

-- a root asks for a token as a slot does
abbrev pub slot_of : Root → Slot
slot_of root = record { pred = root.pred; object = Given root.object }

-- the model has the token: it is a root, or the steps lead from the root to it; and the slot says of which predicate it is,
-- and on which objects it may be
pub record HasToken (model : Model) (token : TokenName) (slot : Slot) : Type 0 where
  pub root : Root
  pub is_root : IsRoot model token.root root
  pub reached : Reaches model (slot_of root) token.steps slot

-- the model has the token, which is of the predicate of this number
abbrev pub HasPred : Model → TokenName → ℕ → Type 0
HasPred model token pred = (slot : Slot) × HasToken model token slot × (slot.pred ≡ pred)

-- the root of this number
abbrev pub root_token : ℕ → TokenName
root_token number = record { root = number; steps = [] }

-- the token that the rule of this number asks for by its slot of this number
abbrev pub slot_token : TokenName → ℕ → ℕ → TokenName
slot_token token rule slot = record { root = token.root; steps = token.steps ++ record { rule = rule; slot = slot } ∷ [] }

-- the token is a root of this kind
abbrev pub IsRootOfKind : Model → RootKind → TokenName → Type 0
IsRootOfKind model kind token = (token.steps ≡ []) × ((root : Root) × IsRoot model token.root root × (root.kind ≡ kind))

-- the token takes place whatever is decided
abbrev pub IsFact : Model → TokenName → Type 0
IsFact model token = IsRootOfKind model Fact token

-- the token may be rejected
abbrev pub IsRejectable : Model → TokenName → Type 0
IsRejectable model token = IsRootOfKind model Rejectable token
