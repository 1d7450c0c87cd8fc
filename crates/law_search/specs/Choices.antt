-- Which flaw of a state comes first, and what can be decided of it.
use Rattle.std.specs.Prelude.{◌≡◌, ◌↔◌, ℕ, ◌<◌, ◌⊎◌, ℤ, ◌<ℤ◌, List, [], ◌∷◌, ◌++◌, map, AllPairs, Contains}
use Rattle.domain_core.specs.Domain.{Domain, Has}
use Rattle.eu_name.specs.declared.name.TokenName.{TokenName}
use Rattle.eu_name.specs.declared.name.VarName.{VarName}
use Rattle.eu_name.specs.NameOrder.{IsTokenBefore, IsVarBefore, ByToken}
use Rattle.model_core.specs.declared.decision.Decision.{Decision}
use Rattle.model_core.specs.declared.decision.Decision.TheVariants.{Specify, Activate, Merge, Reject, Order}
use Rattle.model_core.specs.declared.model.Model.{Model}
use Rattle.model_core.specs.Decided.{IsActive}
use Rattle.model_core.specs.State.{State, Gives}
use Rattle.model_core.specs.Tokens.{IsRejectable}
use Rattle.plan_defs.specs.Refusals.{HaveSamePredicate, AreActive}
use Rattle.plan_defs.specs.Flaws.{Flaw, Undecided, Undetermined, Unordered, Untimed, IsFlaw}

-- ---- the first flaw

-- how many sorts of flaws come before that of this one
abbrev pub sorts_before : Flaw → ℕ
sorts_before (Undecided token) = 0
sorts_before (Undetermined name) = 1
sorts_before (Unordered one other) = 2
sorts_before (Untimed name) = 3

-- the one flaw comes before the other, by sort and then by names
abbrev pub IsFlawBefore : Flaw → Flaw → Type 0
IsFlawBefore (Undecided one) (Undecided other) = IsTokenBefore one other
IsFlawBefore (Undetermined one) (Undetermined other) = IsVarBefore one other
IsFlawBefore (Unordered one behind) (Unordered other after) = ByToken one other (IsTokenBefore behind after)
IsFlawBefore (Untimed one) (Untimed other) = IsVarBefore one other
IsFlawBefore one other = sorts_before one < sorts_before other

-- the state has the flaw, and none that comes before it
pub record IsFirstFlaw (model : Model) (decisions : List Decision) (state : State) (flaw : Flaw) : Type 0 where
  pub is : IsFlaw model decisions state flaw
  pub first : (other : Flaw) → IsFlaw model decisions state other → IsFlawBefore other flaw → ⊥

-- ---- what can be decided of a flaw

-- the tokens, in order, that take place in the state and are of the token's predicate
pub record AreTargets (model : Model) (decisions : List Decision) (state : State) (token : TokenName) (targets : List TokenName)
    : Type 0 where
  pub order : AllPairs IsTokenBefore targets
  pub are : (target : TokenName) → Contains targets target
      ↔ (Contains state.tokens target × (IsActive model decisions target × HaveSamePredicate model token target))

-- the token may be activated if fewer tokens than the bound are active
abbrev pub IsActivationLeft : Model → List Decision → ℕ → TokenName → List Decision → Type 0
IsActivationLeft model decisions bound token choices =
    ((AreActive model decisions bound → ⊥) × (choices ≡ Activate token ∷ []))
    ⊎ (AreActive model decisions bound × (choices ≡ []))

-- it may be rejected if it is a rejectable
abbrev pub IsRejectionLeft : Model → TokenName → List Decision → Type 0
IsRejectionLeft model token choices =
    (IsRejectable model token × (choices ≡ Reject token ∷ []))
    ⊎ ((IsRejectable model token → ⊥) × (choices ≡ []))

-- what can be decided of a token: to merge it into each target, to activate it, and to reject it
pub record AreTokenChoices (model : Model) (decisions : List Decision) (state : State) (bound : ℕ) (token : TokenName)
    (choices : List Decision) : Type 0 where
  pub targets : List TokenName
  pub are_targets : AreTargets model decisions state token targets
  pub activation : List Decision
  pub activated : IsActivationLeft model decisions bound token activation
  pub rejection : List Decision
  pub rejected : IsRejectionLeft model token rejection
  pub are : choices ≡ map (λ target. Merge token target) targets ++ (activation ++ rejection)

-- what can be decided of a variable: each of its values, ascending
pub record AreValueChoices (state : State) (name : VarName) (choices : List Decision) : Type 0 where
  pub domain : Domain
  pub gives : Gives state name domain
  pub values : List ℤ
  pub ascending : AllPairs (λ one other. one <ℤ other) values
  pub all : (value : ℤ) → Contains values value ↔ Has domain value
  pub are : choices ≡ map (λ value. Specify name value) values

module _ (model : Model) (decisions : List Decision) (state : State) (bound : ℕ) where
  -- what can be decided of the flaw, in order
  abbrev pub AreChoices : Flaw → List Decision → Type 0
  AreChoices (Undecided token) choices = AreTokenChoices model decisions state bound token choices
  AreChoices (Undetermined name) choices = AreValueChoices state name choices
  AreChoices (Unordered one other) choices = choices ≡ Order one other ∷ Order other one ∷ []
  AreChoices (Untimed name) choices = AreValueChoices state name choices

  -- an activation isn't among them, as so many tokens are active already
  abbrev pub IsLeftOut : Flaw → Type 0
  IsLeftOut (Undecided token) = AreActive model decisions bound
  IsLeftOut flaw = ⊥
