-- What is kept of a state on the way to it: tokens, open blocks and variables, in the order in which they came.
use Rattle.std.specs.Prelude.{◌≡◌, ◌≢◌, ◌↔◌, List, [], ◌∷◌, length, All, AllPairs, Contains}
use Rattle.domain_core.specs.Domain.{Domain, IsDomain}
use Rattle.eu_name.specs.declared.name.TokenName.{TokenName}
use Rattle.eu_name.specs.declared.name.VarName.{VarName}
use Rattle.model_core.specs.declared.model.Model.{Model}
use Rattle.model_core.specs.declared.rule.Slot.{Slot}
use Rattle.model_core.specs.Blocks.{TokenBlock}
use Rattle.model_core.specs.State.{State, VarDomain, Gives, IsAbout, IsBlockOf}
use Rattle.model_core.specs.Tokens.{HasToken}

-- tokens and open blocks, the names of the variables by number, and their domains
pub record Content : Type 0 where
  pub tokens : List TokenName
  pub blocks : List TokenBlock
  pub names : List VarName
  pub domains : List Domain

-- each variable with its domain
abbrev pub paired : List VarName → List Domain → List VarDomain
paired [] domains = []
paired (name ∷ names) [] = []
paired (name ∷ names) (domain ∷ domains) = record { name = name; domain = domain } ∷ paired names domains

-- the content as a state, but for the order of what is in it
abbrev pub shown : Content → State
shown content =
    record { tokens = content.tokens; blocks = content.blocks; entries = paired content.names content.domains }

-- the content is one of the model, and nothing is in it twice: what is in it is in the model too, and it has just the variables
-- that it is about
pub record IsContent (model : Model) (content : Content) : Type 0 where
  pub tokens_once : AllPairs (λ one other. one ≢ other) content.tokens
  pub blocks_once : AllPairs (λ one other. one ≢ other) content.blocks
  pub names_once : AllPairs (λ one other. one ≢ other) content.names
  pub count : length content.names ≡ length content.domains
  pub tokens : All (λ token. (slot : Slot) × HasToken model token slot) content.tokens
  pub blocks : All (IsBlockOf model (shown content)) content.blocks
  pub variables : (name : VarName) → IsAbout model (shown content) name ↔ Contains content.names name
  pub domains : All IsDomain content.domains

-- the two have the same in them, in whatever order
pub record AreAlike (one other : State) : Type 0 where
  pub tokens : (token : TokenName) → Contains one.tokens token ↔ Contains other.tokens token
  pub blocks : (block : TokenBlock) → Contains one.blocks block ↔ Contains other.blocks block
  pub gives : (name : VarName) (domain : Domain) → Gives one name domain ↔ Gives other name domain
