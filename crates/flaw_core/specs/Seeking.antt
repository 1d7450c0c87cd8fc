-- Looking for the first flaw, one sort after another.
use Rattle.std.specs.Prelude.{◌≡◌, ℕ, ℤ, ◌⊎◌, ⊤, List, Option, MatchOption}
use Rattle.domain_core.specs.Domain.{Domain, IsSingle}
use Rattle.eu_name.specs.declared.name.Part.TheVariants.{Start, Duration, Object, Param}
use Rattle.eu_name.specs.declared.name.TokenName.{TokenName}
use Rattle.eu_name.specs.declared.name.VarName.{VarName}
use Rattle.model_core.specs.declared.decision.Decision.{Decision}
use Rattle.model_core.specs.declared.model.Model.{Model}
use Rattle.model_core.specs.declared.view.TokenState.{TokenState}
use Rattle.model_core.specs.declared.view.TokenState.TheVariants.{Inactive, Active, Fact, Merged, Rejected}
use Rattle.model_core.specs.State.{State, Gives}
use Rattle.plan_defs.specs.Flaws.{Flaw, Undecided, Undetermined, Unordered, Untimed, IsFlaw}
use Rattle.law_search.specs.Choices.{IsFlawBefore}
use Rattle.flaw_core.specs.declared.flaw.Flaw as by_places
use Rattle.flaw_core.specs.declared.flaw.VarPlace.{VarPlace}
use Rattle.flaw_core.specs.declared.flaw.VarPlace.TheVariants.{Global, Part, Local}
use Rattle.flaw_core.specs.Places.{IsVarAt, IsFlawAt}

-- the state gives the variable more than one value
abbrev pub HasSeveral : State → VarName → Type 0
HasSeveral state name = (domain : Domain) × Gives state name domain × ((value : ℤ) → IsSingle domain value → ⊥)

-- the domain of the variable at the place, or that there is none
abbrev pub IsDomainOf : State → VarPlace → Option Domain → Type 0
IsDomainOf state at found = MatchOption found
    ((name : VarName) (domain : Domain) → IsVarAt state at name → Gives state name domain → ⊥)
    (λ domain. (name : VarName) × IsVarAt state at name × Gives state name domain)

-- nothing is decided of a token in this state
abbrev pub IsInactive : TokenState → Type 0
IsInactive Inactive = ⊤
IsInactive Active = ⊥
IsInactive Fact = ⊥
IsInactive (Merged place) = ⊥
IsInactive Rejected = ⊥

-- a flaw of those that are sought, and none of them comes before it
pub record IsFirstOf (model : Model) (decisions : List Decision) (state : State) (Sought : Flaw → Type 0) (flaw : Flaw) : Type 0 where
  pub sought : Sought flaw
  pub is : IsFlaw model decisions state flaw
  pub first : (other : Flaw) → Sought other → IsFlaw model decisions state other → IsFlawBefore other flaw → ⊥

-- what is found is the first of those that are sought, or there are none
abbrev pub FindsFirst : Model → List Decision → State → (Flaw → Type 0) → Option by_places.Flaw → Type 0
FindsFirst model decisions state Sought found = MatchOption found
    ((flaw : Flaw) → Sought flaw → IsFlaw model decisions state flaw → ⊥)
    (λ at. (flaw : Flaw) × IsFlawAt state at flaw × IsFirstOf model decisions state Sought flaw)

module _ (state : State) where
  -- the variable at the place is one without a value
  abbrev pub IsValueAt : VarPlace → Flaw → Type 0
  IsValueAt at flaw = (name : VarName) × IsVarAt state at name × (flaw ≡ Undetermined name)

  -- it is a global
  abbrev pub IsGlobalFlaw : Flaw → Type 0
  IsGlobalFlaw flaw = (number : ℕ) × IsValueAt (Global number) flaw

  -- it is a parameter of the token at the place
  abbrev pub IsParameterFlaw : ℕ → Flaw → Type 0
  IsParameterFlaw place flaw = (number : ℕ) × IsValueAt (Part place (Param number)) flaw

  -- it is a local of this rule of the token at the place
  abbrev pub IsRuleFlawAt : ℕ → ℕ → Flaw → Type 0
  IsRuleFlawAt place rule flaw = (number : ℕ) × IsValueAt (Local place rule number) flaw

  -- it is a local of it
  abbrev pub IsLocalFlawAt : ℕ → Flaw → Type 0
  IsLocalFlawAt place flaw = (rule : ℕ) × IsRuleFlawAt place rule flaw

  -- it is its object, or one of these
  abbrev pub IsValueFlawOf : ℕ → Flaw → Type 0
  IsValueFlawOf place flaw = IsValueAt (Part place Object) flaw ⊎ (IsParameterFlaw place flaw ⊎ IsLocalFlawAt place flaw)

  -- it is one of these of some token
  abbrev pub IsTokenValueFlaw : Flaw → Type 0
  IsTokenValueFlaw flaw = (place : ℕ) × IsValueFlawOf place flaw

  -- the time at the place is one without a value
  abbrev pub IsTimeAt : VarPlace → Flaw → Type 0
  IsTimeAt at flaw = (name : VarName) × IsVarAt state at name × (flaw ≡ Untimed name)

  -- it is the start or the duration of the token at the place
  abbrev pub IsTimeFlawOf : ℕ → Flaw → Type 0
  IsTimeFlawOf place flaw = IsTimeAt (Part place Start) flaw ⊎ IsTimeAt (Part place Duration) flaw

-- the flaw is a token of which nothing is decided
abbrev pub IsTokenFlaw : Flaw → Type 0
IsTokenFlaw flaw = (token : TokenName) × (flaw ≡ Undecided token)

-- it is a variable that is no time
abbrev pub IsValueFlaw : Flaw → Type 0
IsValueFlaw flaw = (name : VarName) × (flaw ≡ Undetermined name)

-- it is two tokens without an order
abbrev pub IsPairFlaw : Flaw → Type 0
IsPairFlaw flaw = (one other : TokenName) × (flaw ≡ Unordered one other)

-- it is a time
abbrev pub IsTimeFlaw : Flaw → Type 0
IsTimeFlaw flaw = (name : VarName) × (flaw ≡ Untimed name)

-- it is one of the last two sorts
abbrev pub IsLateFlaw : Flaw → Type 0
IsLateFlaw flaw = IsPairFlaw flaw ⊎ IsTimeFlaw flaw

-- it is one of the last three
abbrev pub IsLaterFlaw : Flaw → Type 0
IsLaterFlaw flaw = IsValueFlaw flaw ⊎ IsLateFlaw flaw

-- it is any
abbrev pub IsAnyFlaw : Flaw → Type 0
IsAnyFlaw flaw = ⊤
