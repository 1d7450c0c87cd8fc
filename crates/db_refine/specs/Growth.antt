-- How what is kept grows towards the least state: what comes is what every propagated state has.
use Rattle.std.specs.Prelude.{◌≡◌, ◌⊎◌, ℕ, List, [], Some, slice_get, Contains}
use Rattle.domain_core.specs.Domain.{Domain}
use Rattle.eu_name.specs.declared.name.TokenName.{TokenName}
use Rattle.eu_name.specs.declared.name.VarName.{VarName}
use Rattle.model_core.specs.declared.decision.Decision.{Decision}
use Rattle.model_core.specs.declared.model.Model.{Model}
use Rattle.model_core.specs.declared.model.Root.{Root}
use Rattle.model_core.specs.declared.rule.Guard.{Guard}
use Rattle.model_core.specs.declared.rule.Side.{Side}
use Rattle.model_core.specs.declared.variable.Base.TheVariants.{Given}
use Rattle.model_core.specs.Blocks.{TokenBlock, IsBlock, direct, OfBranch, OfSlot, block_at}
use Rattle.model_core.specs.Decided.{IsActivated}
use Rattle.model_core.specs.Entries.{Entries}
use Rattle.model_core.specs.Numbers.{turned}
use Rattle.model_core.specs.State.{State, Gives, IsBelow}
use Rattle.model_core.specs.Tokens.{IsRoot, root_token, slot_token}
use Rattle.model_core.specs.Variables.{HasBase}
use Rattle.narrow_core.specs.declared.field.Field.{Field}
use Rattle.constraint_net.specs.Networks.{AllConsistent}
use Rattle.constraint_net.specs.declared.constraint.Constraint.{Constraint}
use Rattle.plan_defs.specs.Claims.{Claim, IsClaim, part_of, at_most}
use Rattle.plan_defs.specs.Closure.{IsPropagatedState, IsRespected, AreInBase}
use Rattle.plan_defs.specs.Laws.{HaveToTurn}
use Rattle.plan_defs.specs.Resources.{OpensIn}
use Rattle.plan_defs.specs.Situations.{situation_of}
use Rattle.plan_defs.specs.Support.{IsSupportedToken, IsSupportedBlock}
use Rattle.eu_name.specs.declared.name.Part.TheVariants.{Start, End}
use Rattle.model_core.specs.Content.{Content, shown, IsContent}
use Rattle.db_refine.specs.Claims.{IsPostedIn, AreFieldsOf}

-- every propagated state lies below the content
abbrev pub IsAboveAll : Model → List Decision → Content → Type 0
IsAboveAll model decisions content =
    (state : State) → IsPropagatedState model decisions state → IsBelow (shown content) state

-- the decisions leave no propagated state
abbrev pub LeaveNothing : Model → List Decision → Type 0
LeaveNothing model decisions = (state : State) → IsPropagatedState model decisions state → ⊥

-- what has come to the content is what the old one asks for, and each variable that came has its base
pub record Grows (model : Model) (decisions : List Decision) (old new : Content) : Type 0 where
  pub tokens : (token : TokenName) → Contains new.tokens token
      → Contains old.tokens token ⊎ IsSupportedToken model (situation_of decisions (shown old)) token
  pub blocks : (block : TokenBlock) → Contains new.blocks block
      → Contains old.blocks block
      ⊎ ((entries : Entries) × IsSupportedBlock model (situation_of decisions (shown old)) block entries)
  pub variables : (name : VarName) (domain : Domain) → Gives (shown new) name domain
      → Gives (shown old) name domain ⊎ HasBase model name (Given domain)

-- nothing that is supported is missing: the roots, the rules of the tokens that are activated, the blocks that a guard in an
-- open block opens, and the tokens that an open block asks for
pub record HasGrown (model : Model) (decisions : List Decision) (content : Content) : Type 0 where
  pub roots : (number : ℕ) (root : Root) → IsRoot model number root → Contains content.tokens (root_token number)
  pub rules : (token : TokenName) (rule : ℕ) (entries : Entries)
      → Contains content.tokens token → IsActivated decisions token → IsBlock model (block_at token rule []) entries
      → Contains content.blocks (block_at token rule [])
  pub branches : (block : TokenBlock) (entries : Entries) (place : ℕ) (guard : Guard) (then otherwise : Entries) (side : Side)
      → Contains content.blocks block → IsBlock model block entries
      → slice_get (direct entries) place ≡ Some (OfBranch guard then otherwise)
      → OpensIn model decisions (shown content) block guard side
      → Contains content.blocks (block_at block.token block.rule (turned block.path place side))
  pub slots : (block : TokenBlock) (entries : Entries) (slot : ℕ)
      → Contains content.blocks block → IsBlock model block entries → Contains (direct entries) (OfSlot slot)
      → Contains content.tokens (slot_token block.token block.rule slot)

-- the claim that the one token ends before the other starts
abbrev pub ends_before : TokenName → TokenName → Claim
ends_before one other = at_most (part_of one End) (part_of other Start)

-- all that makes the content a propagated state: nothing that is supported is missing, each variable lies in its base, what is
-- specified is granted, all that is claimed is posted, and so is what two tokens of one timeline owe each other; and what is
-- posted is consistent
pub record IsWhole (model : Model) (decisions : List Decision) (tables : List Field) (posted : List Constraint)
    (content : Content) : Type 0 where
  pub is_content : IsContent model content
  pub grown : HasGrown model decisions content
  pub in_base : AreInBase model (shown content)
  pub granted : (decision : Decision) → Contains decisions decision → IsRespected decision (shown content)
  pub claimed : (claim : Claim) → IsClaim model decisions (shown content) claim → IsPostedIn content.names posted claim
  pub in_turn : (one other : TokenName)
      → HaveToTurn model decisions (shown content) one other → IsPostedIn content.names posted (ends_before other one)
  pub fields : AreFieldsOf model tables
  pub consistent : AllConsistent tables posted content.domains
