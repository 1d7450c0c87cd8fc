-- What becomes of a token can be found out.
use Rattle.std.proofs.Common.{◌≡◌, List, [], ◌∷◌, ◌⊎◌, inl, inr, refl, sym, ap, ◌∙◌, subst}
use Rattle.std.specs.Prelude.{Contains}
use Rattle.eu_name.specs.declared.name.Step.{Step}
use Rattle.eu_name.specs.declared.name.TokenName.{TokenName}
use Rattle.eu_name.proofs.Members.{get_same}
use Rattle.model_core.specs.declared.decision.Decision.{Decision}
use Rattle.model_core.specs.declared.decision.Decision.TheVariants.{Specify, Activate, Merge, Reject, Order, Constrain, Relate}
use Rattle.model_core.specs.declared.model.Model.{Model}
use Rattle.model_core.specs.declared.model.Root.{Root}
use Rattle.model_core.specs.declared.model.RootKind.{RootKind}
use Rattle.model_core.specs.declared.model.RootKind.TheVariants.{Goal, Rejectable, Fact}
use Rattle.model_core.specs.declared.rule.Slot.{Slot}
use Rattle.model_core.specs.Decided.{IsActivated, IsRejected, IsDecided}
use Rattle.model_core.specs.Tokens.{HasToken, IsFact, IsRootOfKind}
use Rattle.eu_name.proofs.Ordered.{contains_head, contains_later, contains_cases, contains_none}
use Rattle.plan_defs.proofs.Knowing.{same_token}
use Rattle.plan_defs.proofs.Deciding.{Decides}

decides_or_not : (decision : Decision) (token : TokenName) → Decides decision token ⊎ (Decides decision token → ⊥)
decides_or_not (Specify name value) token = inr (λ is. is)
decides_or_not (Activate other) token = same_token other token
decides_or_not (Merge other target) token = same_token other token
decides_or_not (Reject other) token = same_token other token
decides_or_not (Order one other) token = inr (λ is. is)
decides_or_not (Constrain kind arguments) token = inr (λ is. is)
decides_or_not (Relate relation one other) token = inr (λ is. is)

-- a decision of the list about the token
pub record IsDecidedBy (decisions : List Decision) (token : TokenName) : Type 0 where
  pub decision : Decision
  pub there : Contains decisions decision
  pub decides : Decides decision token

-- there is one, or there is none
pub find_decision : (decisions : List Decision) (token : TokenName)
    → IsDecidedBy decisions token ⊎ ((decision : Decision) → Contains decisions decision → Decides decision token → ⊥)
find_decision [] token = inr (λ decision none. absurd (contains_none decision none))
find_decision (first ∷ decisions) token = elim (decides_or_not first token) [
  | inl is ↦ inl (record { decision = first; there = contains_head first decisions; decides = is })
  | inr not ↦ elim (find_decision decisions token) [
    | inl later ↦ inl (record { decision = later.decision; there = contains_later first later.decision decisions later.there; decides = later.decides })
    | inr none ↦ inr (λ decision there is. elim (contains_cases first decision decisions there) [
      | inl same ↦ not (subst (λ d. Decides d token) (sym same) is)
      | inr later ↦ none decision later is
    ])
  ]
]

-- the kind of a root
same_kind : (one other : RootKind) → (one ≡ other) ⊎ (one ≡ other → ⊥)
same_kind Goal Goal = inl refl
same_kind Rejectable Rejectable = inl refl
same_kind Fact Fact = inl refl
same_kind Goal Rejectable = inr (λ e. cc)
same_kind Goal Fact = inr (λ e. cc)
same_kind Rejectable Goal = inr (λ e. cc)
same_kind Rejectable Fact = inr (λ e. cc)
same_kind Fact Goal = inr (λ e. cc)
same_kind Fact Rejectable = inr (λ e. cc)

pub no_steps : (steps : List Step) → (steps ≡ []) ⊎ (steps ≡ [] → ⊥)
no_steps [] = inl refl
no_steps (step ∷ steps) = inr (λ e. cc)

-- a token of the model is a root of the kind, or it isn't
pub kind_or_not : (model : Model) (kind : RootKind) (token : TokenName) (slot : Slot) → HasToken model token slot
    → IsRootOfKind model kind token ⊎ (IsRootOfKind model kind token → ⊥)
kind_or_not model kind token slot has = elim (no_steps token.steps) [
  | inr steps ↦ inr (λ is. steps is.0)
  | inl none ↦ elim (same_kind has.root.kind kind) [
    | inl same ↦ inl (none, (has.root, has.is_root, same))
    | inr other ↦ inr (λ is. other (ap (λ (r : Root). r.kind) (get_same model.problem.roots token.root has.root is.1.0 has.is_root is.1.1) ∙ is.1.2))
  ]
]

-- what becomes of a token that is decided
pub data Becoming (model : Model) (decisions : List Decision) (token : TokenName) : Type 0 where
  IsAFact : IsFact model token → Becoming model decisions token
  IsActivatedOne : IsActivated decisions token → Becoming model decisions token
  IsMergedOne : (target : TokenName) → Contains decisions (Merge token target) → Becoming model decisions token
  IsRejectedOne : IsRejected decisions token → Becoming model decisions token

becomes : (model : Model) (decisions : List Decision) (token : TokenName) (decision : Decision) → Contains decisions decision → Decides decision token → Becoming model decisions token
becomes model decisions token (Specify name value) there is = absurd is
becomes model decisions token (Activate other) there is = IsActivatedOne (subst (λ t. Contains decisions (Activate t)) is there)
becomes model decisions token (Merge other target) there is = IsMergedOne target (subst (λ t. Contains decisions (Merge t target)) is there)
becomes model decisions token (Reject other) there is = IsRejectedOne (subst (λ t. Contains decisions (Reject t)) is there)
becomes model decisions token (Order one other) there is = absurd is
becomes model decisions token (Constrain kind arguments) there is = absurd is
becomes model decisions token (Relate relation one other) there is = absurd is

decided_none : (model : Model) (decisions : List Decision) (token : TokenName) → (IsFact model token → ⊥)
    → ((decision : Decision) → Contains decisions decision → Decides decision token → ⊥) → IsDecided model decisions token → ⊥
decided_none model decisions token not none (inl fact) = not fact
decided_none model decisions token not none (inr (inl (inl activated))) = none (Activate token) activated refl
decided_none model decisions token not none (inr (inl (inr merged))) = none (Merge token merged.0) merged.1 refl
decided_none model decisions token not none (inr (inr rejected)) = none (Reject token) rejected refl

-- a token of which it can't be that nothing is decided
pub becoming : (model : Model) (decisions : List Decision) (token : TokenName) (slot : Slot) → HasToken model token slot
    → ((IsDecided model decisions token → ⊥) → ⊥) → Becoming model decisions token
becoming model decisions token slot has decided = elim (kind_or_not model Fact token slot has) [
  | inl fact ↦ IsAFact fact
  | inr not ↦ elim (find_decision decisions token) [
    | inl by ↦ becomes model decisions token by.decision by.there by.decides
    | inr none ↦ absurd (decided (decided_none model decisions token not none))
  ]
]
