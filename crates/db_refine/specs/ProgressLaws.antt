-- What is proved of the progress of a content.
use Rattle.std.specs.Prelude.{◌≡◌, ◌⊎◌, ℕ, ◌+◌, ◌≤◌, ℤ, List, [], ◌∷◌, ◌++◌, length, Some, slice_get, All, Contains, Result, Ok, Err}
use Rattle.domain_core.specs.Domain.{Domain, IsDomain, Range}
use Rattle.domain_core.specs.declared.Change.{Change}
use Rattle.domain_core.specs.declared.Change.TheVariants.{Same, Smaller, Empty}
use Rattle.eu_name.specs.declared.name.Part.TheVariants.{Start, End, Object}
use Rattle.eu_name.specs.declared.name.TokenName.{TokenName}
use Rattle.eu_name.specs.declared.name.VarName.{VarName}
use Rattle.eu_name.specs.declared.name.VarName.TheVariants.{Token}
use Rattle.model_core.specs.declared.decision.Decision.{Decision}
use Rattle.model_core.specs.declared.decision.Decision.TheVariants.{Specify}
use Rattle.model_core.specs.declared.item.Item.{Item}
use Rattle.model_core.specs.declared.model.Model.{Model}
use Rattle.model_core.specs.declared.model.Root.{Root}
use Rattle.model_core.specs.declared.rule.Guard.{Guard}
use Rattle.model_core.specs.declared.rule.Side.{Side}
use Rattle.model_core.specs.declared.rule.Turn.{Turn}
use Rattle.model_core.specs.declared.variable.Base.TheVariants.{Given}
use Rattle.model_core.specs.Blocks.{TokenBlock, IsBlock, direct, chosen, Direct, OfSlot, OfItem, OfBranch, block_at}
use Rattle.model_core.specs.Decided.{IsActivated, IsTaken}
use Rattle.model_core.specs.Entries.{Entries}
use Rattle.model_core.specs.Lawful.{IsLawful}
use Rattle.model_core.specs.Numbers.{turned}
use Rattle.model_core.specs.State.{State, Gives}
use Rattle.model_core.specs.Tokens.{IsRoot, root_token, slot_token}
use Rattle.model_core.specs.Variables.{HasBase}
use Rattle.narrow_core.specs.Laws.{LieWithin}
use Rattle.narrow_core.specs.declared.field.Field.{Field}
use Rattle.constraint_net.specs.Calls.{Notes}
use Rattle.constraint_net.specs.Limits.{LimitsAt}
use Rattle.constraint_net.specs.Networks.{AllConsistent}
use Rattle.constraint_net.specs.Steps.{PropagatesTo}
use Rattle.constraint_net.specs.declared.NetFault.{NetFault}
use Rattle.constraint_net.specs.declared.NetFault.TheVariants.{Collapsed, Memory}
use Rattle.constraint_net.specs.declared.constraint.Constraint.{Constraint}
use Rattle.plan_defs.specs.Claims.{Claim, IsClaim, IsOfProblem, IsOfToken, ItemSays, lasts}
use Rattle.plan_defs.specs.Closure.{IsRespected}
use Rattle.plan_defs.specs.Laws.{HaveToTurn}
use Rattle.plan_defs.specs.Resources.{OpensIn}
use Rattle.plan_defs.specs.Settling.{IsSettled}
use Rattle.plan_defs.specs.Situations.{situation_of}
use Rattle.plan_defs.specs.Support.{IsSupportedToken, IsSupportedBlock}
use Rattle.plan_defs.specs.Terms.{InRule}
use Rattle.db_refine.specs.Claims.{SaysClaim, IsPostedIn, AreFieldsOf}
use Rattle.model_core.specs.Content.{Content, shown, IsContent, AreAlike}
use Rattle.db_refine.specs.Growth.{LeaveNothing, ends_before, IsWhole}
use Rattle.db_refine.specs.GrowthLaws.{with_domains, IsTop}
use Rattle.db_refine.specs.Progress.{IsJustified, MissesNothing, IsUnfolded, GuardNames, AreBranchesFollowed, IsTurnFollowed}
use Rattle.db_refine.specs.Coming.{TokenComes, BlockComes, IsWhatIsNamedThere, IsTakenUp}

-- ---- what is supported

-- roots are supported
abbrev pub RootsAreSupported : Type 0
RootsAreSupported =
    (model : Model) (decisions : List Decision) (state : State) (number : ℕ) (root : Root)
    → IsRoot model number root → IsSupportedToken model (situation_of decisions state) (root_token number)

-- so is the first block of each rule of a supported token that is activated
abbrev pub RulesAreSupported : Type 0
RulesAreSupported =
    (model : Model) (decisions : List Decision) (state : State) (token : TokenName) (rule : ℕ) (entries : Entries)
    → IsSupportedToken model (situation_of decisions state) token → IsActivated decisions token
    → IsBlock model (block_at token rule []) entries
    → IsSupportedBlock model (situation_of decisions state) (block_at token rule []) entries

-- the block that a guard in a supported block opens
abbrev pub BranchesAreSupported : Type 0
BranchesAreSupported =
    (model : Model) (decisions : List Decision) (state : State) (block : TokenBlock) (entries : Entries)
    (place : ℕ) (guard : Guard) (then otherwise : Entries) (side : Side)
    → IsSupportedBlock model (situation_of decisions state) block entries
    → slice_get (direct entries) place ≡ Some (OfBranch guard then otherwise)
    → OpensIn model decisions state block guard side
    → IsSupportedBlock model (situation_of decisions state)
    (block_at block.token block.rule (turned block.path place side)) (chosen side then otherwise)

-- and the token that a slot in a supported block asks for
abbrev pub SlotsAreSupported : Type 0
SlotsAreSupported =
    (model : Model) (decisions : List Decision) (state : State) (block : TokenBlock) (entries : Entries) (slot : ℕ)
    → IsSupportedBlock model (situation_of decisions state) block entries → Contains (direct entries) (OfSlot slot)
    → IsSupportedToken model (situation_of decisions state) (slot_token block.token block.rule slot)

-- ---- what is there stays justified

-- globals alone are justified before any decision
abbrev pub GlobalsAreJustified : Type 0
GlobalsAreJustified =
    (model : Model) (tables : List Field) (content : Content) → IsContent model content → AreFieldsOf model tables
    → content.tokens ≡ [] → content.blocks ≡ []
    → ((name : VarName) (domain : Domain) → Gives (shown content) name domain → HasBase model name (Given domain))
    → IsJustified model [] tables [] content

-- a longer list of decisions justifies as much
abbrev pub LongerListsJustify : Type 0
LongerListsJustify =
    (model : Model) (front back : List Decision) (tables : List Field) (posted : List Constraint) (content : Content)
    → IsJustified model front tables posted content → IsJustified model (front ++ back) tables posted content

-- so it stays where a token comes that is supported
abbrev pub TokensComeJustified : Type 0
TokensComeJustified =
    (model : Model) (decisions : List Decision) (tables : List Field) (posted : List Constraint) (old new : Content)
    (token : TokenName)
    → IsLawful model → IsJustified model decisions tables posted old
    → (Contains old.tokens token → ⊥) → IsSupportedToken model (situation_of decisions (shown old)) token
    → TokenComes model token old new → IsJustified model decisions tables posted new

-- and where a block comes that is supported, of a token that is there
abbrev pub BlocksComeJustified : Type 0
BlocksComeJustified =
    (model : Model) (decisions : List Decision) (tables : List Field) (posted : List Constraint) (old new : Content)
    (block : TokenBlock) (entries : Entries)
    → IsLawful model → IsJustified model decisions tables posted old
    → (Contains old.blocks block → ⊥) → Contains old.tokens block.token
    → IsSupportedBlock model (situation_of decisions (shown old)) block entries
    → BlockComes model block old new → IsJustified model decisions tables posted new

-- a constraint may be posted that says what is claimed, or that two tokens take turns
abbrev pub PostingIsJustified : Type 0
PostingIsJustified =
    (model : Model) (decisions : List Decision) (tables : List Field) (posted : List Constraint) (content : Content)
    (constraint : Constraint) (claim : Claim)
    → IsJustified model decisions tables posted content → SaysClaim content.names constraint claim
    → IsClaim model decisions (shown content) claim
    ⊎ ((one other : TokenName) × HaveToTurn model decisions (shown content) one other × (claim ≡ ends_before other one))
    → IsJustified model decisions tables (posted ++ constraint ∷ []) content

-- what limiting a variable to the value that is specified comes to
abbrev pub LimitJustifies : Model → List Decision → List Field → List Constraint → Content → Change → Type 0
LimitJustifies model decisions tables posted new Same = IsJustified model decisions tables posted new
LimitJustifies model decisions tables posted new Smaller = IsJustified model decisions tables posted new
LimitJustifies model decisions tables posted new Empty = LeaveNothing model decisions

-- a variable may be limited to the value that is specified, and where nothing is left there is no propagated state
abbrev pub SpecifyingIsJustified : Type 0
SpecifyingIsJustified =
    (model : Model) (decisions : List Decision) (tables : List Field) (posted : List Constraint) (content : Content)
    (name : VarName) (value : ℤ) (number : ℕ) (change : Change) (domains : List Domain)
    → IsJustified model decisions tables posted content → Contains decisions (Specify name value)
    → slice_get content.names number ≡ Some name
    → LimitsAt content.domains number (Range value value) change domains
    → LimitJustifies model decisions tables posted (with_domains content domains) change

-- limited to the value that is specified, the variable has no other, and no domain has got larger
pub record IsLimited (content : Content) (name : VarName) (value : ℤ) (domains : List Domain) : Type 0 where
  pub are : All IsDomain domains
  pub within : LieWithin domains content.domains
  pub granted : IsRespected (Specify name value) (shown (with_domains content domains))

abbrev pub SpecifyingGrants : Type 0
SpecifyingGrants =
    (model : Model) (content : Content) (name : VarName) (value : ℤ) (number : ℕ) (change : Change) (domains : List Domain)
    → IsContent model content → slice_get content.names number ≡ Some name
    → LimitsAt content.domains number (Range value value) change domains → (change ≡ Empty → ⊥)
    → IsLimited content name value domains

-- what propagation comes to
abbrev pub PropagationJustifies : Model → List Decision → List Field → List Constraint → Result (Unit {0}) NetFault → Content
    → Type 0
PropagationJustifies model decisions tables posted (Ok done) new = IsJustified model decisions tables posted new
PropagationJustifies model decisions tables posted (Err Memory) new = IsJustified model decisions tables posted new
PropagationJustifies model decisions tables posted (Err Collapsed) new = LeaveNothing model decisions

-- the network may be propagated, and where nothing is left there is no propagated state
abbrev pub PropagationIsJustified : Type 0
PropagationIsJustified =
    (model : Model) (decisions : List Decision) (tables : List Field) (posted : List Constraint) (content : Content)
    (result : Result (Unit {0}) NetFault) (domains : List Domain)
    → IsJustified model decisions tables posted content
    → PropagatesTo (AllConsistent tables posted) content.domains result domains
    → PropagationJustifies model decisions tables posted result (with_domains content domains)

-- ---- nothing is missed

-- without decisions and blocks nothing is missed where the roots are there and what the problem and the tokens ask for
abbrev pub NothingIsMissedAtFirst : Type 0
NothingIsMissedAtFirst =
    (model : Model) (posted : List Constraint) (content : Content) (due : List ℕ)
    → content.blocks ≡ []
    → ((number : ℕ) (root : Root) → IsRoot model number root → Contains content.tokens (root_token number))
    → ((claim : Claim) → IsOfProblem model (IsTaken []) claim → IsPostedIn content.names posted claim)
    → ((claim : Claim) → IsOfToken (shown content) claim → IsPostedIn content.names posted claim)
    → ((one other : TokenName) → HaveToTurn model [] (shown content) one other → IsTurnFollowed posted content due one other)
    → MissesNothing model [] posted content 0 due

-- so it stays where a token comes and that it lasts is posted
abbrev pub TokensComeComplete : Type 0
TokensComeComplete =
    (model : Model) (decisions : List Decision) (posted later : List Constraint) (old new : Content)
    (token : TokenName) (unfolded : ℕ) (due : List ℕ)
    → IsLawful model → IsContent model old → MissesNothing model decisions posted old unfolded due
    → (Contains old.tokens token → ⊥) → TokenComes model token old new
    → IsPostedIn new.names (posted ++ later) (lasts token)
    → MissesNothing model decisions (posted ++ later) new unfolded due

-- and where a block comes behind the one in which its branch stands
abbrev pub BlocksComeComplete : Type 0
BlocksComeComplete =
    (model : Model) (decisions : List Decision) (posted : List Constraint) (old new : Content)
    (block : TokenBlock) (unfolded : ℕ) (due : List ℕ)
    → IsLawful model → IsContent model old
    → MissesNothing model decisions posted old unfolded due → unfolded ≤ length old.blocks
    → (Contains old.blocks block → ⊥) → BlockComes model block old new
    → ((front : List Turn) (turn : Turn) → block.path ≡ front ++ turn ∷ []
    → Contains old.blocks (block_at block.token block.rule front))
    → MissesNothing model decisions posted new unfolded due

-- and where more is posted
abbrev pub PostingMissesNothing : Type 0
PostingMissesNothing =
    (model : Model) (decisions : List Decision) (posted later : List Constraint) (content : Content)
    (unfolded : ℕ) (due : List ℕ)
    → MissesNothing model decisions posted content unfolded due
    → MissesNothing model decisions (posted ++ later) content unfolded due

-- and where domains get smaller and each that does is due
abbrev pub FallingMissesNothing : Type 0
FallingMissesNothing =
    (model : Model) (decisions : List Decision) (posted : List Constraint) (content : Content) (domains : List Domain)
    (unfolded : ℕ) (due after : List ℕ)
    → MissesNothing model decisions posted content unfolded due
    → All IsDomain domains → LieWithin domains content.domains → Notes content.domains domains due after
    → MissesNothing model decisions posted (with_domains content domains) unfolded after

-- all that an item of the block says is posted
abbrev pub AreItemsPosted : Model → List Decision → List Constraint → Content → TokenBlock → Entries → Type 0
AreItemsPosted model decisions posted content block entries =
    (item : Item) (claim : Claim) → Contains (direct entries) (OfItem item)
    → ItemSays model (IsTaken decisions) (InRule block.token block.rule) item claim → IsPostedIn content.names posted claim

-- a further block is unfolded where all that stands in it is there
abbrev pub UnfoldingMissesNothing : Type 0
UnfoldingMissesNothing =
    (model : Model) (decisions : List Decision) (posted : List Constraint) (content : Content)
    (block : TokenBlock) (entries : Entries) (unfolded : ℕ) (due : List ℕ)
    → MissesNothing model decisions posted content unfolded due
    → slice_get content.blocks unfolded ≡ Some block → IsBlock model block entries
    → ((slot : ℕ) → Contains (direct entries) (OfSlot slot)
    → Contains content.tokens (slot_token block.token block.rule slot))
    → AreItemsPosted model decisions posted content block entries
    → AreBranchesFollowed model decisions content due block entries
    → MissesNothing model decisions posted content (unfolded + 1) due

-- a variable has been looked at where the branches of each block with a guard that names it are followed, and each token whose
-- object, start or end it is takes its turns
abbrev pub LookingMissesNothing : Type 0
LookingMissesNothing =
    (model : Model) (decisions : List Decision) (posted : List Constraint) (content : Content)
    (unfolded variable : ℕ) (name : VarName) (due : List ℕ)
    → MissesNothing model decisions posted content unfolded (variable ∷ due)
    → slice_get content.names variable ≡ Some name
    → ((block : TokenBlock) (entries : Entries) (guard : Guard) (then otherwise : Entries)
    → IsUnfolded content unfolded block → IsBlock model block entries
    → Contains (direct entries) (OfBranch guard then otherwise) → GuardNames (InRule block.token block.rule) guard name
    → AreBranchesFollowed model decisions content due block entries)
    → ((token one other : TokenName)
    → (name ≡ Token token Object) ⊎ ((name ≡ Token token Start) ⊎ (name ≡ Token token End))
    → (one ≡ token) ⊎ (other ≡ token) → HaveToTurn model decisions (shown content) one other
    → IsTurnFollowed posted content due one other)
    → MissesNothing model decisions posted content unfolded due

-- a number that no variable has needn't be looked at
abbrev pub StaleNumbersMissNothing : Type 0
StaleNumbersMissNothing =
    (model : Model) (decisions : List Decision) (posted : List Constraint) (content : Content)
    (unfolded variable : ℕ) (due : List ℕ)
    → MissesNothing model decisions posted content unfolded (variable ∷ due) → length content.names ≤ variable
    → MissesNothing model decisions posted content unfolded due

-- a decision is taken up
abbrev pub DecidingMissesNothing : Type 0
DecidingMissesNothing =
    (model : Model) (decisions : List Decision) (decision : Decision) (posted : List Constraint) (content : Content)
    (unfolded : ℕ) (due : List ℕ)
    → MissesNothing model decisions posted content unfolded due
    → IsTakenUp model decisions decision posted content unfolded due
    → MissesNothing model (decisions ++ decision ∷ []) posted content unfolded due

-- ---- what may be named

-- what is named in a block that is unfolded, or whose slots are there, is there
abbrev pub WhatIsNamedIsThere : Type 0
WhatIsNamedIsThere =
    (model : Model) (decisions : List Decision) (posted : List Constraint) (content : Content)
    (unfolded number : ℕ) (due : List ℕ) (block : TokenBlock) (entries : Entries)
    → IsLawful model → IsContent model content → MissesNothing model decisions posted content unfolded due
    → slice_get content.blocks number ≡ Some block → number ≤ unfolded → IsBlock model block entries
    → ((slot : ℕ) → Contains (direct entries) (OfSlot slot)
    → Contains content.tokens (slot_token block.token block.rule slot))
    → (place : ℕ) (what : Direct) → slice_get (direct entries) place ≡ Some what
    → IsWhatIsNamedThere content block.token block.rule what

-- ---- at the end

-- a content that misses nothing, of which all blocks are unfolded, nothing is due and all constraints are consistent, is whole
abbrev pub WhatMissesNothingIsWhole : Type 0
WhatMissesNothingIsWhole =
    (model : Model) (decisions : List Decision) (tables : List Field) (posted : List Constraint) (content : Content)
    → IsJustified model decisions tables posted content
    → MissesNothing model decisions posted content (length content.blocks) []
    → AllConsistent tables posted content.domains
    → IsWhole model decisions tables posted content

-- so the decisions leave a propagated state that is above all others
abbrev pub WholeIsTop : Type 0
WholeIsTop =
    (model : Model) (decisions : List Decision) (tables : List Field) (posted : List Constraint) (content : Content)
    → IsSettled model decisions → IsJustified model decisions tables posted content
    → MissesNothing model decisions posted content (length content.blocks) []
    → AllConsistent tables posted content.domains
    → (state : State) × AreAlike (shown content) state × IsTop model decisions state
