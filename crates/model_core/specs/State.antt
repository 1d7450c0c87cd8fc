-- States: which tokens and which open blocks there are, and what each variable may still be.
use Rattle.std.specs.Prelude.{◌≡◌, ℕ, ◌<◌, ◌↔◌, List, length, All, AllPairs, Contains}
use Rattle.domain_core.specs.Domain.{Domain, IsDomain, IsWithin}
use Rattle.eu_name.specs.declared.name.TokenName.{TokenName}
use Rattle.eu_name.specs.declared.name.VarName.{VarName}
use Rattle.eu_name.specs.declared.name.VarName.TheVariants.{Token, Local, Global}
use Rattle.eu_name.specs.NameOrder.{IsTokenBefore, IsVarBefore}
use Rattle.model_core.specs.declared.model.Model.{Model}
use Rattle.model_core.specs.declared.rule.Slot.{Slot}
use Rattle.model_core.specs.declared.variable.Base.{Base}
use Rattle.model_core.specs.Blocks.{TokenBlock, IsBlock, IsBlockBefore, direct, OfLocal}
use Rattle.model_core.specs.Entries.{Entries}
use Rattle.model_core.specs.Tokens.{HasToken}
use Rattle.model_core.specs.Variables.{HasBase}

-- a variable with its domain
pub record VarDomain : Type 0 where
  pub name : VarName
  pub domain : Domain

-- which tokens and which open blocks there are, and which variables with their domains
pub record State : Type 0 where
  pub tokens : List TokenName
  pub blocks : List TokenBlock
  pub entries : List VarDomain

-- the state has this variable, with this domain
abbrev pub Gives : State → VarName → Domain → Type 0
Gives state name domain = Contains state.entries (record { name = name; domain = domain })

-- the local stands in an open block of the token and the rule
pub record StandsOpen (model : Model) (state : State) (token : TokenName) (rule number : ℕ) : Type 0 where
  pub block : TokenBlock
  pub is_open : Contains state.blocks block
  pub of_token : block.token ≡ token
  pub of_rule : block.rule ≡ rule
  pub entries : Entries
  pub is_block : IsBlock model block entries
  pub stands : Contains (direct entries) (OfLocal number)

-- the state is about the global, about the parts of its tokens, and about the locals that stand in its open blocks
abbrev pub IsAbout : Model → State → VarName → Type 0
IsAbout model state (Global number) = number < length model.problem.globals
IsAbout model state (Token token part) =
    Contains state.tokens token × ((base : Base) × HasBase model (Token token part) base)
IsAbout model state (Local token rule number) = StandsOpen model state token rule number

-- each comes before all later ones, so nothing stands twice
pub record AreInOrder (state : State) : Type 0 where
  pub tokens : AllPairs IsTokenBefore state.tokens
  pub blocks : AllPairs IsBlockBefore state.blocks
  pub entries : AllPairs (λ one later. IsVarBefore one.name later.name) state.entries

-- the block is one of the model, of a token of the state
abbrev pub IsBlockOf : Model → State → TokenBlock → Type 0
IsBlockOf model state block = Contains state.tokens block.token × ((entries : Entries) × IsBlock model block entries)

-- the state is one of the model: what is in it is in the model too, and it gives just the variables that it is about a domain
pub record IsState (model : Model) (state : State) : Type 0 where
  pub order : AreInOrder state
  pub tokens : All (λ token. (slot : Slot) × HasToken model token slot) state.tokens
  pub blocks : All (IsBlockOf model state) state.blocks
  pub variables : (name : VarName) → IsAbout model state name ↔ ((domain : Domain) × Gives state name domain)
  pub domains : All (λ entry. IsDomain entry.domain) state.entries

-- the state gives the variable a domain that lies within this one
abbrev pub GivesWithin : State → VarName → Domain → Type 0
GivesWithin state name domain = (smaller : Domain) × Gives state name smaller × IsWithin smaller domain

-- the lower state has all that the higher one has, and each variable has a domain there that lies in the one it has in the higher
pub record IsBelow (higher lower : State) : Type 0 where
  pub tokens : (token : TokenName) → Contains higher.tokens token → Contains lower.tokens token
  pub blocks : (block : TokenBlock) → Contains higher.blocks block → Contains lower.blocks block
  pub variables : (name : VarName) (domain : Domain) → Gives higher name domain → GivesWithin lower name domain
