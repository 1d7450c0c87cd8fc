-- Whether what an item says counts, by the states of tokens.
use Rattle.std.specs.Prelude.{◌≡◌, ℕ, ⊤, List, Some, slice_get, All, Contains}
use Rattle.eu_name.specs.declared.name.TokenName.{TokenName}
use Rattle.model_core.specs.declared.decision.Decision.{Decision}
use Rattle.model_core.specs.declared.item.Item.{Item}
use Rattle.model_core.specs.declared.item.Item.TheVariants.{Constraint, Relation}
use Rattle.model_core.specs.declared.item.Term.{Term}
use Rattle.model_core.specs.declared.model.Model.{Model}
use Rattle.model_core.specs.declared.model.Root.{Root}
use Rattle.model_core.specs.declared.view.TokenState.{TokenState}
use Rattle.model_core.specs.declared.view.TokenState.TheVariants.{Active, Merged}
use Rattle.model_core.specs.Decided.{IsTaken, IsRejected}
use Rattle.model_core.specs.Tokens.{IsRoot, IsRejectable, root_token}
use Rattle.model_core.specs.TokenStates.{HasTokenState}
use Rattle.token_store.specs.Tokens.{token_names, token_states}
use Rattle.plan_defs.specs.Terms.{Argument, Context, InProblem, InRule, Means, ArgumentCounts}
use Rattle.model_core.specs.Content.{Content, shown}
use Rattle.db_store.specs.Stores.{Snapshot, named_content}

-- what is said of the token counts: if it may be rejected, it is taken
abbrev pub OwnerCounts : Model → (TokenName → Type 0) → TokenName → Type 0
OwnerCounts model Taken token = IsRejectable model token → Taken token

-- so it is of the token in whose rule something stands
abbrev pub ContextCounts : Model → (TokenName → Type 0) → Context → Type 0
ContextCounts model Taken InProblem = ⊤
ContextCounts model Taken (InRule token rule) = OwnerCounts model Taken token

-- whatever the term means there, what is said of it counts
abbrev pub TermCounts : Model → (TokenName → Type 0) → Context → Term → Type 0
TermCounts model Taken context term =
    (argument : Argument) → Means context term argument → ArgumentCounts model Taken argument

-- so it is of all that the item is about; a relation always counts
abbrev pub ItemCounts : Model → (TokenName → Type 0) → Context → Item → Type 0
ItemCounts model Taken context (Constraint kind terms) = All (TermCounts model Taken context) terms
ItemCounts model Taken context (Relation rel slot) = ⊤

-- a token in this state takes place, by itself or as another one
abbrev pub IsTakenState : TokenState → Type 0
IsTakenState Active = ⊤
IsTakenState (Merged place) = ⊤
IsTakenState state = ⊥

-- each token is kept with the state that the decisions make of it, and they take none that they reject
pub record AreTokenStates (model : Model) (decisions : List Decision) (snapshot : Snapshot) : Type 0 where
  pub states : (place : ℕ) (token : TokenName) (state : TokenState)
      → slice_get (token_names snapshot.tokens) place ≡ Some token
      → slice_get (token_states snapshot.tokens) place ≡ Some state
      → HasTokenState model (shown (named_content snapshot)) decisions token state
  pub rejected : (token : TokenName) → IsRejected decisions token → IsTaken decisions token → ⊥

-- each root is there
abbrev pub AreRootsThere : Model → Content → Type 0
AreRootsThere model content =
    (number : ℕ) (root : Root) → IsRoot model number root → Contains content.tokens (root_token number)
