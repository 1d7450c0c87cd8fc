-- What a situation asks for: the tokens that have to be there, and the blocks that are open.
use Rattle.std.specs.Prelude.{◌≡◌, ◌≢◌, ℤ, Bool, true, false, List, ◌∷◌, ◌++◌, Contains}
use Rattle.domain_core.specs.Domain.{Domain, Has}
use Rattle.eu_name.specs.declared.name.Step.{Step}
use Rattle.eu_name.specs.declared.name.TokenName.{TokenName}
use Rattle.model_core.specs.declared.item.Term.{Term}
use Rattle.model_core.specs.declared.model.Model.{Model}
use Rattle.model_core.specs.declared.model.Root.{Root}
use Rattle.model_core.specs.declared.rule.Guard.{Guard}
use Rattle.model_core.specs.declared.rule.Guard.TheVariants.{Equal, Differ}
use Rattle.model_core.specs.declared.rule.Side.{Side}
use Rattle.model_core.specs.declared.rule.Side.TheVariants.{Then, Otherwise}
use Rattle.model_core.specs.declared.rule.Turn.{Turn}
use Rattle.model_core.specs.Blocks.{TokenBlock, HasBlock, direct, OfSlot}
use Rattle.model_core.specs.Entries.{Entries}
use Rattle.model_core.specs.Tokens.{IsRoot}
use Rattle.plan_defs.specs.Situations.{Situation}
use Rattle.plan_defs.specs.Terms.{Context, InRule, Argument, Means, HasDomain, ArgumentCounts}

-- the first of the two terms that a guard compares
abbrev pub one_side : Guard → Term
one_side (Equal one other) = one
one_side (Differ one other) = one

-- the second
abbrev pub other_side : Guard → Term
other_side (Equal one other) = other
other_side (Differ one other) = other

-- with these values of its terms the guard selects the block on this side
abbrev pub Selects : Guard → Side → ℤ → ℤ → Type 0
Selects (Equal one other) Then v w = v ≡ w
Selects (Equal one other) Otherwise v w = v ≢ w
Selects (Differ one other) Then v w = v ≢ w
Selects (Differ one other) Otherwise v w = v ≡ w

-- the side whose block opens where the guard is true, and the one whose block opens where it is false
abbrev pub side_when : Bool → Side
side_when true = Then
side_when false = Otherwise

-- the term stands for something that counts, and this is what it may be
pub record MayBe (model : Model) (situation : Situation) (context : Context) (term : Term) (domain : Domain) : Type 0 where
  pub argument : Argument
  pub means : Means context term argument
  pub counts : ArgumentCounts model situation.taken argument
  pub has : HasDomain situation.gives argument domain

-- the guard opens the block on this side, whatever is chosen for its terms from their domains, each by itself
pub record Opens (model : Model) (situation : Situation) (context : Context) (guard : Guard) (side : Side) : Type 0 where
  pub one : Domain
  pub other : Domain
  pub is_one : MayBe model situation context (one_side guard) one
  pub is_other : MayBe model situation context (other_side guard) other
  pub always : (v w : ℤ) → Has one v → Has other w → Selects guard side v w

-- the block is one of a token that is activated, and each guard on the way to it opens it
pub record IsOpen (model : Model) (situation : Situation) (block : TokenBlock) (entries : Entries) : Type 0 where
  pub activated : situation.activated block.token
  pub has_block : HasBlock model (Opens model situation (InRule block.token block.rule)) block entries

-- the first steps of the token's name lead to this token
abbrev pub front_token : TokenName → List Step → TokenName
front_token token front = record { root = token.root; steps = front }

-- a slot of this step's number stands in an open block of the token
pub record AsksFor (model : Model) (situation : Situation) (token : TokenName) (step : Step) : Type 0 where
  pub path : List Turn
  pub entries : Entries
  pub is_open : IsOpen model situation (record { token = token; rule = step.rule; path = path }) entries
  pub stands : Contains (direct entries) (OfSlot step.slot)

-- the token is a root, or each step of its name goes from a token to a slot that stands in an open block of that token
pub record IsSupportedToken (model : Model) (situation : Situation) (token : TokenName) : Type 0 where
  pub root : Root
  pub is_root : IsRoot model token.root root
  pub asked : (front : List Step) (step : Step) (back : List Step)
      → token.steps ≡ front ++ step ∷ back → AsksFor model situation (front_token token front) step

-- the block is an open one of a supported token
pub record IsSupportedBlock (model : Model) (situation : Situation) (block : TokenBlock) (entries : Entries) : Type 0 where
  pub supported : IsSupportedToken model situation block.token
  pub is_open : IsOpen model situation block entries
