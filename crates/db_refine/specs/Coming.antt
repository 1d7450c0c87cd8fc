-- What comes to a content, and what follows from a decision.
use Rattle.std.specs.Prelude.{◌≡◌, ◌≢◌, ◌⊎◌, ◌↔◌, ℕ, List, [], ◌∷◌, ◌++◌, All, AllPairs, Contains, map}
use Rattle.eu_name.specs.declared.name.Part.{Part}
use Rattle.eu_name.specs.declared.name.Part.TheVariants.{Start, End}
use Rattle.eu_name.specs.declared.name.TokenName.{TokenName}
use Rattle.eu_name.specs.declared.name.VarName.{VarName}
use Rattle.eu_name.specs.declared.name.VarName.TheVariants.{Token, Local}
use Rattle.model_core.specs.declared.decision.Decision.{Decision}
use Rattle.model_core.specs.declared.decision.Decision.TheVariants.{Activate, Merge, Order}
use Rattle.model_core.specs.declared.item.Item.{Item}
use Rattle.model_core.specs.declared.item.Item.TheVariants.{Constraint, Relation}
use Rattle.model_core.specs.declared.item.Term.{Term}
use Rattle.model_core.specs.declared.model.Model.{Model}
use Rattle.model_core.specs.declared.rule.Guard.{Guard}
use Rattle.model_core.specs.declared.rule.Slot.{Slot}
use Rattle.model_core.specs.declared.variable.Base.{Base}
use Rattle.model_core.specs.declared.variable.Base.TheVariants.{Given}
use Rattle.model_core.specs.Blocks.{TokenBlock, IsBlock, direct, Direct, OfSlot, OfLocal, OfItem, OfBranch, block_at}
use Rattle.model_core.specs.Decided.{IsTaken}
use Rattle.model_core.specs.Entries.{Entries}
use Rattle.model_core.specs.State.{VarDomain}
use Rattle.model_core.specs.Tokens.{HasToken, IsRejectable, slot_token}
use Rattle.model_core.specs.Variables.{HasBase, HasPartBase}
use Rattle.constraint_net.specs.declared.constraint.Constraint as posts
use Rattle.plan_defs.specs.Claims.{Claim, HasPart, Posts, IsOfProblem, IsOfBlock, at_most, equal, part_of}
use Rattle.plan_defs.specs.Closure.{IsRespected}
use Rattle.plan_defs.specs.Laws.{HaveToTurn}
use Rattle.plan_defs.specs.Refusals.{IsKnown}
use Rattle.plan_defs.specs.Support.{one_side, other_side}
use Rattle.plan_defs.specs.Terms.{Context, InRule, Means, Variable, BelongsTo}
use Rattle.db_refine.specs.Claims.{IsPostedIn}
use Rattle.model_core.specs.Content.{Content, shown}
use Rattle.db_refine.specs.Progress.{GuardNames, IsUnfolded, AreBranchesFollowed, IsTurnFollowed}

-- ---- what comes

-- variables have come, each once and with its base
pub record VariablesCome (model : Model) (added : List VarDomain) (old new : Content) : Type 0 where
  pub names : new.names ≡ old.names ++ map (λ each. each.name) added
  pub domains : new.domains ≡ old.domains ++ map (λ each. each.domain) added
  pub once : AllPairs (λ one other. one.name ≢ other.name) added
  pub bases : All (λ each. HasBase model each.name (Given each.domain)) added

-- the token has come, with a variable for each of its parts
pub record TokenComes (model : Model) (token : TokenName) (old new : Content) : Type 0 where
  pub slot : Slot
  pub has_token : HasToken model token slot
  pub added : List VarDomain
  pub variables : VariablesCome model added old new
  pub parts : (name : VarName) → Contains (map (λ each. each.name) added) name
      ↔ ((part : Part) × (name ≡ Token token part) × ((base : Base) × HasPartBase model slot part base))
  pub tokens : new.tokens ≡ old.tokens ++ token ∷ []
  pub blocks : new.blocks ≡ old.blocks

-- the block has come, with a variable for each local that stands in it
pub record BlockComes (model : Model) (block : TokenBlock) (old new : Content) : Type 0 where
  pub entries : Entries
  pub is_block : IsBlock model block entries
  pub added : List VarDomain
  pub variables : VariablesCome model added old new
  pub locals : (name : VarName) → Contains (map (λ each. each.name) added) name
      ↔ ((number : ℕ) × (name ≡ Local block.token block.rule number) × Contains (direct entries) (OfLocal number))
  pub tokens : new.tokens ≡ old.tokens
  pub blocks : new.blocks ≡ old.blocks ++ block ∷ []

-- ---- what terms name

-- the variable that the term means is there
abbrev pub IsTermThere : Content → Context → Term → Type 0
IsTermThere content context term = (name : VarName) → Means context term (Variable name) → Contains content.names name

-- all that the item is about is there
abbrev pub IsItemThere : Content → TokenName → ℕ → Item → Type 0
IsItemThere content token rule (Constraint kind terms) = All (IsTermThere content (InRule token rule)) terms
IsItemThere content token rule (Relation relation slot) = Contains content.tokens (slot_token token rule slot)

-- so it is of what stands in a block
abbrev pub IsWhatIsNamedThere : Content → TokenName → ℕ → Direct → Type 0
IsWhatIsNamedThere content token rule (OfItem item) = IsItemThere content token rule item
IsWhatIsNamedThere content token rule (OfBranch guard then otherwise) =
    IsTermThere content (InRule token rule) (one_side guard) × IsTermThere content (InRule token rule) (other_side guard)
IsWhatIsNamedThere content token rule (OfSlot slot) = Contains content.tokens (slot_token token rule slot)
IsWhatIsNamedThere content token rule (OfLocal number) = Contains content.names (Local token rule number)

-- ---- what follows from a decision

-- the decision takes the token
abbrev pub TakesToken : Decision → TokenName → Type 0
TakesToken decision token = (decision ≡ Activate token) ⊎ ((target : TokenName) × (decision ≡ Merge token target))

-- the variable counts from this decision on: it is one of a rejectable that the decision takes
abbrev pub BeginsToCount : Model → Decision → VarName → Type 0
BeginsToCount model decision name =
    (token : TokenName) × BelongsTo name token × IsRejectable model token × TakesToken decision token

-- an argument of the claim counts from this decision on
abbrev pub ClaimBeginsToCount : Model → Decision → Claim → Type 0
ClaimBeginsToCount model decision claim =
    (name : VarName) × Contains claim.arguments (Variable name) × BeginsToCount model decision name

-- all that the decision asks for beside what the list before it does
pub record IsTakenUp (model : Model) (decisions : List Decision) (decision : Decision) (posted : List posts.Constraint)
    (content : Content) (unfolded : ℕ) (due : List ℕ) : Type 0 where
  pub known : IsKnown (shown content) decision
  pub granted : IsRespected decision (shown content)
  pub rules : (token : TokenName) (rule : ℕ) (entries : Entries)
      → decision ≡ Activate token → IsBlock model (block_at token rule []) entries
      → Contains content.blocks (block_at token rule [])
  pub branches : (block : TokenBlock) (entries : Entries) (guard : Guard) (then otherwise : Entries) (name : VarName)
      → IsUnfolded content unfolded block → IsBlock model block entries
      → Contains (direct entries) (OfBranch guard then otherwise)
      → GuardNames (InRule block.token block.rule) guard name → BeginsToCount model decision name
      → AreBranchesFollowed model (decisions ++ decision ∷ []) content due block entries
  pub of_problem : (claim : Claim) → ClaimBeginsToCount model decision claim
      → IsOfProblem model (IsTaken (decisions ++ decision ∷ [])) claim → IsPostedIn content.names posted claim
  pub of_blocks : (claim : Claim) → ClaimBeginsToCount model decision claim
      → IsOfBlock model (IsTaken (decisions ++ decision ∷ [])) (IsUnfolded content unfolded) claim
      → IsPostedIn content.names posted claim
  pub of_merge : (token target : TokenName) (part : Part) → decision ≡ Merge token target → HasPart model token part
      → IsPostedIn content.names posted (equal (part_of token part) (part_of target part))
  pub of_order : (one other : TokenName) → decision ≡ Order one other
      → IsPostedIn content.names posted (at_most (part_of one End) (part_of other Start))
  pub of_posting : (claim : Claim) → Posts decision claim → IsPostedIn content.names posted claim
  pub in_turn : (token one other : TokenName) → decision ≡ Activate token → (one ≡ token) ⊎ (other ≡ token)
      → HaveToTurn model (decisions ++ decision ∷ []) (shown content) one other
      → IsTurnFollowed posted content due one other
