-- What bringing a token asks for and leaves.
use Rattle.std.specs.Prelude.{◌≡◌, ◌⊎◌, ℕ, List, [], ◌∷◌, ◌++◌, length, map, ⊤, All, Contains, Result, Ok, Err}
use Rattle.eu_name.specs.declared.name.Part.{Part}
use Rattle.eu_name.specs.declared.name.TokenName.{TokenName}
use Rattle.model_core.specs.declared.decision.Decision.{Decision}
use Rattle.model_core.specs.declared.model.Model.{Model}
use Rattle.model_core.specs.declared.rule.Slot.{Slot}
use Rattle.model_core.specs.declared.variable.Base.{Base}
use Rattle.model_core.specs.declared.variable.Base.TheVariants.{Given, Void}
use Rattle.model_core.specs.declared.view.TokenState.{TokenState}
use Rattle.model_core.specs.declared.view.TokenState.TheVariants.{Inactive, Fact}
use Rattle.model_core.specs.Decided.{IsTaken, IsRejected}
use Rattle.model_core.specs.Tokens.{HasToken, IsFact}
use Rattle.model_core.specs.Variables.{HasPartBase}
use Rattle.token_store.specs.Tokens.{TokenList, tokens_now, IsNewName}
use Rattle.constraint_net.specs.declared.NetFault.{NetFault}
use Rattle.constraint_net.specs.declared.NetFault.TheVariants.{Collapsed, Memory}
use Rattle.plan_defs.specs.Claims.{lasts}
use Rattle.plan_defs.specs.Situations.{situation_of}
use Rattle.plan_defs.specs.Support.{IsSupportedToken}
use Rattle.model_core.specs.Content.{Content, shown}
use Rattle.db_store.specs.Stores.{Stored}
use Rattle.db_store.specs.declared.key.VarKey.{VarKey}
use Rattle.db_posting.specs.Origins.{content_now}
use Rattle.db_posting.specs.Posted.{PostsClaims}
use Rattle.db_opening.specs.Bringing.{KeyDomain}
use Rattle.db_opening.specs.Parts.{WantsPart}

-- the decisions ask for the token, and where they say what becomes of it, it is there
pub record AskForToken (model : Model) (content : Content) (token : TokenName) (decisions : List Decision) : Type 0 where
  pub supported : IsSupportedToken model (situation_of decisions (shown content)) token
  pub decided : IsTaken decisions token ⊎ IsRejected decisions token → Contains content.tokens token

-- a token begins as a fact, or with nothing decided of it
abbrev pub BeginsAs : Model → TokenName → TokenState → Type 0
BeginsAs model token Fact = IsFact model token
BeginsAs model token Inactive = IsFact model token → ⊥
BeginsAs model token state = ⊥

-- the tokens with one more, in this state
abbrev pub with_arrived : TokenList → TokenName → ℕ → TokenState → TokenList
with_arrived tokens name pred state = tokens ++ (name, record { pred = pred; state = state }) ∷ []

-- the token, at the place behind the others, begins, and nothing else has changed
pub record BeginsToken (model : Model) (token : TokenName) (pred : ℕ) (old new : Stored) (place : ℕ) : Type 0 where
  pub is_last : place ≡ length (tokens_now old.past)
  pub state : TokenState
  pub begins : BeginsAs model token state
  pub tokens : tokens_now new.past ≡ with_arrived (tokens_now old.past) token pred state
  pub keys : new.keys ≡ old.keys
  pub blocks : new.blocks ≡ old.blocks
  pub watches : new.watches ≡ old.watches
  pub net : new.net ≡ old.net

-- the variable is a part of the token at the place, with its base
abbrev pub WantsSomePart : Model → Slot → ℕ → VarKey → Base → Type 0
WantsSomePart model slot place key base = (part : Part) × WantsPart model slot place part key base

-- the token, which wasn't there, begins behind the others, its parts stand behind the other variables, each with its base, and
-- that it lasts is posted
pub record BringsToken (model : Model) (token : TokenName) (old new : Stored) : Type 0 where
  pub slot : Slot
  pub has_token : HasToken model token slot
  pub fresh : IsNewName (tokens_now old.past) token
  pub state : TokenState
  pub begins : BeginsAs model token state
  pub tokens : tokens_now new.past ≡ with_arrived (tokens_now old.past) token slot.pred state
  pub added : List KeyDomain
  pub keys : new.keys ≡ old.keys ++ map (λ each. each.key) added
  pub domains : new.net.domains ≡ old.net.domains ++ map (λ each. each.domain) added
  pub each : All (λ each. WantsSomePart model slot (length (tokens_now old.past)) each.key (Given each.domain)) added
  pub all : (key : VarKey) (base : Base) → WantsSomePart model slot (length (tokens_now old.past)) key base → Contains new.keys key
  pub posts : PostsClaims (content_now new).names (λ claim. claim ≡ lasts token) old.net.constraints new.net.constraints
  pub blocks : new.blocks ≡ old.blocks
  pub watches : new.watches ≡ old.watches
  pub tables : new.net.tables ≡ old.net.tables
  pub changed : new.net.changed ≡ old.net.changed

-- what bringing it answers and leaves: a part of it may have a void base
abbrev pub BringsOrFails : Model → TokenName → Stored → Result (Unit {0}) NetFault → Stored → Type 0
BringsOrFails model token old (Ok done) new = BringsToken model token old new
BringsOrFails model token old (Err Collapsed) new =
    (slot : Slot) × HasToken model token slot × ((part : Part) × HasPartBase model slot part Void)
BringsOrFails model token old (Err Memory) new = ⊤
