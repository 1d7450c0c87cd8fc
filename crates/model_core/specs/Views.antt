-- What a view tells of a state.
use Rattle.std.specs.Prelude.{◌≡◌, ℕ, List, Option, Some, slice_get, Contains, MatchOption}
use Rattle.domain_core.specs.Domain.{Domain}
use Rattle.eu_name.specs.declared.name.TokenName.{TokenName}
use Rattle.eu_name.specs.declared.name.VarName.{VarName}
use Rattle.model_core.specs.declared.decision.Decision.{Decision}
use Rattle.model_core.specs.declared.decision.Decision.TheVariants.{Order}
use Rattle.model_core.specs.State.{State, Gives}

-- the token is at this place among those of the state, in their order
abbrev pub IsTokenAt : State → ℕ → TokenName → Type 0
IsTokenAt state place token = slice_get state.tokens place ≡ Some token

-- the variable's domain in the state, or that the state hasn't the variable
abbrev pub IsDomainIn : State → VarName → Option Domain → Type 0
IsDomainIn state name found = MatchOption found ((domain : Domain) → Gives state name domain → ⊥) (Gives state name)

-- the same of a variable of the token at this place; where there is no such place, there is none
abbrev pub IsDomainAt : State → ℕ → (TokenName → VarName) → Option Domain → Type 0
IsDomainAt state place variable_of found = MatchOption found
    ((token : TokenName) (domain : Domain) → IsTokenAt state place token → Gives state (variable_of token) domain → ⊥)
    (λ domain. (token : TokenName) × IsTokenAt state place token × Gives state (variable_of token) domain)

-- the decisions put the token at the one place before the token at the other
abbrev pub IsOrderedAt : State → List Decision → ℕ → ℕ → Type 0
IsOrderedAt state decisions one other =
    (first second : TokenName)
    × (IsTokenAt state one first × IsTokenAt state other second × Contains decisions (Order first second))
