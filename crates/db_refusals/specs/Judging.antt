-- What the tests of a decision find by the tokens that are kept.
use Rattle.std.specs.Prelude.{◌≡◌, ℕ, List, Option, Some, None, MatchOption, slice_get, sum_by, Contains}
use Rattle.domain_core.specs.Domain.{Domain}
use Rattle.eu_name.specs.declared.name.TokenName.{TokenName}
use Rattle.eu_name.specs.declared.name.VarName.{VarName}
use Rattle.model_core.specs.declared.decision.Decision.{Decision}
use Rattle.model_core.specs.declared.model.Model.{Model}
use Rattle.model_core.specs.declared.variable.Base.{Base}
use Rattle.model_core.specs.declared.view.TokenState.{TokenState}
use Rattle.model_core.specs.declared.view.TokenState.TheVariants.{Active, Fact}
use Rattle.model_core.specs.Content.{shown}
use Rattle.model_core.specs.Decided.{IsTaken, IsDecided}
use Rattle.model_core.specs.State.{Gives}
use Rattle.model_core.specs.Tokens.{IsFact}
use Rattle.model_core.specs.Variables.{HasBase}
use Rattle.plan_defs.specs.Unordered.{AreDecidedOnce}
use Rattle.token_store.specs.Tokens.{TokenList, token_names, token_states}
use Rattle.db_store.specs.Stores.{Snapshot, named_content}
use Rattle.db_posting.specs.Counting.{AreTokenStates}
use Rattle.model_core.specs.declared.refusal.Refusal.{Refusal}
use Rattle.model_core.specs.declared.refusal.Refusal.TheVariants as reasons

-- the token is kept with this state
pub record IsKeptAs (tokens : TokenList) (token : TokenName) (state : TokenState) : Type 0 where
  pub place : ℕ
  pub named : slice_get (token_names tokens) place ≡ Some token
  pub kept : slice_get (token_states tokens) place ≡ Some state

-- the state with which the token is kept, if it is there
abbrev pub FindsState : TokenList → TokenName → Option TokenState → Type 0
FindsState tokens token found = MatchOption found (Contains (token_names tokens) token → ⊥) (IsKeptAs tokens token)

-- each token is kept with its state, what is taken and each fact is there, the model has each variable that is there, and the
-- decisions decide each token once
pub record AreTold (model : Model) (decisions : List Decision) (snapshot : Snapshot) : Type 0 where
  pub states : AreTokenStates model decisions snapshot
  pub once : AreDecidedOnce model decisions
  pub taken : (token : TokenName) → IsTaken decisions token → Contains (token_names snapshot.tokens) token
  pub facts : (token : TokenName) → IsFact model token → Contains (token_names snapshot.tokens) token
  pub bases : (name : VarName) (domain : Domain) → Gives (shown (named_content snapshot)) name domain
      → (base : Base) × HasBase model name base

-- what speaks against deciding a token, of whatever kind the decision is: it isn't there, or it is decided
abbrev pub FindsUndecided : Model → List Decision → TokenList → TokenName → Option Refusal → Type 0
FindsUndecided model decisions tokens token (Some reasons.Unknown) = Contains (token_names tokens) token → ⊥
FindsUndecided model decisions tokens token (Some reasons.Decided) =
    Contains (token_names tokens) token × IsDecided model decisions token
FindsUndecided model decisions tokens token (Some reason) = ⊥
FindsUndecided model decisions tokens token None =
    Contains (token_names tokens) token × (IsDecided model decisions token → ⊥)

-- one for a token that takes place
abbrev pub one_if_active : TokenState → ℕ
one_if_active Active = 1
one_if_active Fact = 1
one_if_active state = 0

-- how many tokens take place
abbrev pub active_count : TokenList → ℕ
active_count tokens = sum_by one_if_active (token_states tokens)
