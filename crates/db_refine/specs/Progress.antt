-- How far a content has come on the way to the least state: what is there has to be there, and what isn't there yet is known.
use Rattle.std.specs.Prelude.{◌≡◌, ◌⊎◌, ℕ, ◌<◌, List, [], ◌∷◌, ◌++◌, Some, slice_get, Contains}
use Rattle.eu_name.specs.declared.name.Part.TheVariants.{Start, End, Object}
use Rattle.eu_name.specs.declared.name.TokenName.{TokenName}
use Rattle.eu_name.specs.declared.name.VarName.{VarName}
use Rattle.eu_name.specs.declared.name.VarName.TheVariants.{Token}
use Rattle.model_core.specs.declared.decision.Decision.{Decision}
use Rattle.model_core.specs.declared.model.Model.{Model}
use Rattle.model_core.specs.declared.model.Root.{Root}
use Rattle.model_core.specs.declared.rule.Guard.{Guard}
use Rattle.model_core.specs.declared.rule.Side.{Side}
use Rattle.model_core.specs.declared.rule.Turn.{Turn}
use Rattle.model_core.specs.Blocks.{TokenBlock, IsBlock, direct, OfBranch, OfSlot, block_at}
use Rattle.model_core.specs.Decided.{IsActivated, IsTaken}
use Rattle.model_core.specs.Entries.{Entries}
use Rattle.model_core.specs.Numbers.{turned}
use Rattle.model_core.specs.Tokens.{IsRoot, root_token, slot_token}
use Rattle.narrow_core.specs.declared.field.Field.{Field}
use Rattle.constraint_net.specs.declared.constraint.Constraint.{Constraint}
use Rattle.plan_defs.specs.Claims.{Claim, Posts, IsOfProblem, IsOfBlock, IsOfToken, IsOfMerge, IsOfOrder}
use Rattle.plan_defs.specs.Closure.{IsRespected, AreInBase}
use Rattle.plan_defs.specs.Laws.{HaveToTurn}
use Rattle.plan_defs.specs.Refusals.{IsKnown}
use Rattle.plan_defs.specs.Resources.{OpensIn}
use Rattle.plan_defs.specs.Situations.{situation_of}
use Rattle.plan_defs.specs.Support.{IsSupportedToken, IsSupportedBlock, one_side, other_side}
use Rattle.plan_defs.specs.Terms.{Context, InRule, Means, Variable}
use Rattle.db_refine.specs.Claims.{IsPostedIn, AreOwed, AreFieldsOf}
use Rattle.model_core.specs.Content.{Content, shown, IsContent}
use Rattle.db_refine.specs.Growth.{IsAboveAll, ends_before}

-- ---- what is there has to be there

-- the content is above every propagated state, all that is in it is supported and in its base, and what is posted is owed
pub record IsJustified (model : Model) (decisions : List Decision) (tables : List Field) (posted : List Constraint)
    (content : Content) : Type 0 where
  pub is_content : IsContent model content
  pub above : IsAboveAll model decisions content
  pub tokens : (token : TokenName) → Contains content.tokens token
      → IsSupportedToken model (situation_of decisions (shown content)) token
  pub blocks : (block : TokenBlock) → Contains content.blocks block
      → (entries : Entries) × IsSupportedBlock model (situation_of decisions (shown content)) block entries
  pub in_base : AreInBase model (shown content)
  pub fields : AreFieldsOf model tables
  pub owed : AreOwed model decisions content.names posted

-- ---- what isn't there yet is known

-- the variable of this name is due: it has to be looked at
abbrev pub IsDue : Content → List ℕ → VarName → Type 0
IsDue content due name = (number : ℕ) × (slice_get content.names number ≡ Some name) × Contains due number

-- the guard, where it stands, names the variable
abbrev pub GuardNames : Context → Guard → VarName → Type 0
GuardNames context guard name =
    Means context (one_side guard) (Variable name) ⊎ Means context (other_side guard) (Variable name)

-- the block is one of the first so many
abbrev pub IsUnfolded : Content → ℕ → TokenBlock → Type 0
IsUnfolded content unfolded block =
    (number : ℕ) × (slice_get content.blocks number ≡ Some block) × (number < unfolded)

-- the block on this side of the branch at this place is there, or a variable that the guard names is due
abbrev pub IsFollowed : Content → List ℕ → TokenBlock → ℕ → Guard → Side → Type 0
IsFollowed content due block place guard side =
    Contains content.blocks (block_at block.token block.rule (turned block.path place side))
    ⊎ ((name : VarName) × GuardNames (InRule block.token block.rule) guard name × IsDue content due name)

-- what the branches of the block ask for is there or due
abbrev pub AreBranchesFollowed : Model → List Decision → Content → List ℕ → TokenBlock → Entries → Type 0
AreBranchesFollowed model decisions content due block entries =
    (place : ℕ) (guard : Guard) (then otherwise : Entries) (side : Side)
    → slice_get (direct entries) place ≡ Some (OfBranch guard then otherwise)
    → OpensIn model decisions (shown content) block guard side
    → IsFollowed content due block place guard side

-- a variable that may show that the two tokens take turns is due
abbrev pub IsTurnDue : Content → List ℕ → TokenName → TokenName → Type 0
IsTurnDue content due one other =
    (IsDue content due (Token one Object) ⊎ IsDue content due (Token one End))
    ⊎ (IsDue content due (Token other Object) ⊎ IsDue content due (Token other Start))

-- that the other token ends before the one starts is posted, or due
abbrev pub IsTurnFollowed : List Constraint → Content → List ℕ → TokenName → TokenName → Type 0
IsTurnFollowed posted content due one other =
    IsPostedIn content.names posted (ends_before other one) ⊎ IsTurnDue content due one other

-- what is asked for is there: of the first so many blocks all that stands in them, and of guards and of tokens on one timeline
-- what the domains show, but where a variable is due
pub record MissesNothing (model : Model) (decisions : List Decision) (posted : List Constraint) (content : Content)
    (unfolded : ℕ) (due : List ℕ) : Type 0 where
  pub known : (decision : Decision) → Contains decisions decision → IsKnown (shown content) decision
  pub granted : (decision : Decision) → Contains decisions decision → IsRespected decision (shown content)
  pub roots : (number : ℕ) (root : Root) → IsRoot model number root → Contains content.tokens (root_token number)
  pub rules : (token : TokenName) (rule : ℕ) (entries : Entries)
      → Contains content.tokens token → IsActivated decisions token → IsBlock model (block_at token rule []) entries
      → Contains content.blocks (block_at token rule [])
  -- a block comes after the one in which its branch stands
  pub before : (number : ℕ) (block : TokenBlock) (front : List Turn) (turn : Turn)
      → slice_get content.blocks number ≡ Some block → block.path ≡ front ++ turn ∷ []
      → IsUnfolded content number (block_at block.token block.rule front)
  pub slots : (block : TokenBlock) (entries : Entries) (slot : ℕ)
      → IsUnfolded content unfolded block → IsBlock model block entries → Contains (direct entries) (OfSlot slot)
      → Contains content.tokens (slot_token block.token block.rule slot)
  pub branches : (block : TokenBlock) (entries : Entries)
      → IsUnfolded content unfolded block → IsBlock model block entries
      → AreBranchesFollowed model decisions content due block entries
  pub of_problem : (claim : Claim) → IsOfProblem model (IsTaken decisions) claim → IsPostedIn content.names posted claim
  pub of_blocks : (claim : Claim)
      → IsOfBlock model (IsTaken decisions) (IsUnfolded content unfolded) claim → IsPostedIn content.names posted claim
  pub of_tokens : (claim : Claim) → IsOfToken (shown content) claim → IsPostedIn content.names posted claim
  pub of_merges : (claim : Claim) → IsOfMerge model decisions claim → IsPostedIn content.names posted claim
  pub of_orders : (claim : Claim) → IsOfOrder decisions claim → IsPostedIn content.names posted claim
  -- whether or not it counts: a decision that may follow posts only what counts
  pub of_postings : (decision : Decision) → Contains decisions decision
      → (claim : Claim) → Posts decision claim → IsPostedIn content.names posted claim
  pub in_turn : (one other : TokenName)
      → HaveToTurn model decisions (shown content) one other → IsTurnFollowed posted content due one other
