-- Which plans are valid, clause by clause, read from their values alone.
use Rattle.std.specs.Prelude.{◌≡◌, ◌≢◌, ℕ, ◌<◌, ◌⊎◌, ℤ, pos, ◌+ℤ◌, ◌≤ℤ◌, ◌<ℤ◌, Bool, true, false, ⊤, List, [], ◌∷◌, ◌++◌, Some, length, slice_get, Contains}
use Rattle.std.specs.List.{AllZip}
use Rattle.eu_name.specs.declared.name.Part.{Part}
use Rattle.eu_name.specs.declared.name.Part.TheVariants.{Start, End, Object, Param}
use Rattle.eu_name.specs.declared.name.Step.{Step}
use Rattle.eu_name.specs.declared.name.TokenName.{TokenName}
use Rattle.eu_name.specs.declared.name.VarName.{VarName}
use Rattle.eu_name.specs.declared.name.VarName.TheVariants as variables
use Rattle.model_core.specs.declared.class.Object as classes
use Rattle.model_core.specs.declared.class.ObjectKind.TheVariants.{Reusable, Reservoir}
use Rattle.model_core.specs.declared.class.Pred.{Pred}
use Rattle.model_core.specs.declared.class.PredKind.{PredKind}
use Rattle.model_core.specs.declared.class.PredKind.TheVariants.{Uses, Produce, Consume}
use Rattle.model_core.specs.declared.item.Item.{Item}
use Rattle.model_core.specs.declared.model.Model.{Model}
use Rattle.model_core.specs.declared.model.Root.{Root}
use Rattle.model_core.specs.declared.model.RootKind.{RootKind}
use Rattle.model_core.specs.declared.model.RootKind.TheVariants.{Goal, Rejectable, Fact}
use Rattle.model_core.specs.declared.rule.Slot.{Slot}
use Rattle.model_core.specs.declared.rule.Turn.{Turn}
use Rattle.model_core.specs.Blocks.{direct, OfLocal}
use Rattle.domain_core.specs.Constraints.{Holds}
use Rattle.model_core.specs.Entries.{Entries}
use Rattle.model_core.specs.Numbers.{PlacedItem, IsItemOf}
use Rattle.model_core.specs.Tokens.{HasToken, IsRoot, root_token, slot_token}
use Rattle.plan_defs.specs.declared.plan.Clause.{Clause}
use Rattle.plan_defs.specs.declared.plan.Clause.TheVariants.{V1, V2, V3, V4, V5, V6, V7, V8, V9, V10}
use Rattle.plan_defs.specs.declared.plan.Line.{Line}
use Rattle.plan_defs.specs.declared.plan.Line.TheVariants as lines
use Rattle.plan_defs.specs.declared.plan.Place.{Place}
use Rattle.plan_defs.specs.declared.plan.Place.TheVariants as places
use Rattle.plan_defs.specs.declared.plan.Plan.{Plan}
use Rattle.plan_defs.specs.Claims.{Claim, ItemSays, HasPart, lasts, at_most, part_of}
use Rattle.plan_defs.specs.Consistency.{HasField}
use Rattle.plan_defs.specs.Plans.{TakesPlaceWith, IsTakenIn, HasPartValue, GivesValue, place_in_values, plan_situation}
use Rattle.plan_defs.specs.Refusals.{IsDeclared, HaveSamePredicate}
use Rattle.plan_defs.specs.Resources.{IsInstant}
use Rattle.plan_defs.specs.Sums.{sum_of}
use Rattle.plan_defs.specs.Support.{AsksFor, IsOpen, front_token}
use Rattle.plan_defs.specs.Terms.{Argument, Value, Variable, InProblem, InRule}
use Rattle.plan_defs.specs.Timelines.{IsTimeline}

-- ---- values

-- the plan gives the variable a value that it is declared with
abbrev pub HasDeclaredValue : Model → Plan → VarName → Type 0
HasDeclaredValue model plan name = (value : ℤ) × GivesValue plan name value × IsDeclared model name value

-- it does so for each part of the token
abbrev pub HasDeclaredParts : Model → Plan → TokenName → Type 0
HasDeclaredParts model plan token =
    (part : Part) → HasPart model token part → HasDeclaredValue model plan (variables.Token token part)

-- the argument is this value in the plan
abbrev pub HasArgumentValue : Plan → Argument → ℤ → Type 0
HasArgumentValue plan (Value value) other = other ≡ value
HasArgumentValue plan (Variable name) value = GivesValue plan name value

-- the arguments have values in the plan of which the constraint holds
pub record IsClaimTrue (model : Model) (plan : Plan) (claim : Claim) : Type 0 where
  pub values : List ℤ
  pub have : AllZip (HasArgumentValue plan) claim.arguments values
  pub holds : Holds (HasField model) claim.kind values

-- ---- the line at a place

-- the line at this place is the plan's
abbrev pub IsLineAt : Plan → ℕ → Line → Type 0
IsLineAt plan place line = slice_get plan.lines place ≡ Some line

-- the line at this place says that the token takes place, and not as a fact
abbrev pub IsActivatedAt : Plan → ℕ → TokenName → Type 0
IsActivatedAt plan place token = (values : List ℤ) × IsLineAt plan place (lines.Token token false values)

-- the line at this place says that the token takes place
abbrev pub TakesPlaceAt : Plan → ℕ → TokenName → Type 0
TakesPlaceAt plan place token =
    (fact : Bool) × ((values : List ℤ) × IsLineAt plan place (lines.Token token fact values))

-- ---- roots

-- the plan says of the root what becomes of one of its kind
abbrev pub Becomes : Plan → RootKind → TokenName → Type 0
Becomes plan Fact token = (values : List ℤ) × Contains plan.lines (lines.Token token true values)
Becomes plan Goal token = IsTakenIn plan token
Becomes plan Rejectable token = IsTakenIn plan token ⊎ Contains plan.lines (lines.Rejected token)

-- only a root takes place as a fact, or is rejected
abbrev pub IsLineOfSort : Line → Type 0
IsLineOfSort (lines.Token token true values) = token.steps ≡ []
IsLineOfSort (lines.Token token false values) = ⊤
IsLineOfSort (lines.Merged token target) = ⊤
IsLineOfSort (lines.Rejected token) = token.steps ≡ []
IsLineOfSort (lines.Local name value) = ⊤

-- ---- tokens that take place, and merged ones

-- the token has values that its parts are declared with, and ends its duration after its start
pub record SuitsToken (model : Model) (plan : Plan) (token : TokenName) : Type 0 where
  pub parts : HasDeclaredParts model plan token
  pub lasts : IsClaimTrue model plan (lasts token)

-- the target takes place and is another token of the same predicate, with values that the merged token's parts are declared
-- with
pub record SuitsMerge (model : Model) (plan : Plan) (token target : TokenName) : Type 0 where
  pub there : (values : List ℤ) × TakesPlaceWith plan target values
  pub apart : target ≢ token
  pub same : HaveSamePredicate model token target
  pub parts : HasDeclaredParts model plan token

-- what takes place suits
abbrev pub SuitsIfToken : Model → Plan → Line → Type 0
SuitsIfToken model plan (lines.Token token fact values) = SuitsToken model plan token
SuitsIfToken model plan line = ⊤

-- what is merged suits
abbrev pub SuitsIfMerged : Model → Plan → Line → Type 0
SuitsIfMerged model plan (lines.Merged token target) = SuitsMerge model plan token target
SuitsIfMerged model plan line = ⊤

-- ---- open blocks

-- a block of the token's rule is open by the values of the plan, and these entries stand in it
abbrev pub IsOpenIn : Model → Plan → TokenName → ℕ → List Turn → Entries → Type 0
IsOpenIn model plan token rule path entries =
    IsOpen model (plan_situation plan) (record { token = token; rule = rule; path = path }) entries

-- the local stands in an open block of the token's rule
pub record AsksForLocal (model : Model) (plan : Plan) (token : TokenName) (rule number : ℕ) : Type 0 where
  pub path : List Turn
  pub entries : Entries
  pub is_open : IsOpenIn model plan token rule path entries
  pub stands : Contains (direct entries) (OfLocal number)

-- the token is a root, or a slot in an open block asks for it
abbrev pub IsAskedToken : Model → Plan → TokenName → Type 0
IsAskedToken model plan token =
    (front : List Step) (step : Step)
    → token.steps ≡ front ++ step ∷ [] → AsksFor model (plan_situation plan) (front_token token front) step

-- the local stands in an open block
abbrev pub IsAskedLocal : Model → Plan → VarName → Type 0
IsAskedLocal model plan (variables.Local token rule number) = AsksForLocal model plan token rule number
IsAskedLocal model plan name = ⊤

-- an open block asks for what the line names, or it is a root
abbrev pub IsAsked : Model → Plan → Line → Type 0
IsAsked model plan (lines.Token token fact values) = IsAskedToken model plan token
IsAsked model plan (lines.Merged token target) = IsAskedToken model plan token
IsAsked model plan (lines.Rejected token) = IsAskedToken model plan token
IsAsked model plan (lines.Local name value) = IsAskedLocal model plan name

-- ---- items

-- what the problem's item says, where it counts, is true
abbrev pub IsTrueItem : Model → Plan → Item → Type 0
IsTrueItem model plan item =
    (claim : Claim) → ItemSays model (IsTakenIn plan) InProblem item claim → IsClaimTrue model plan claim

-- what the item of this number of the token's rule says, where its block is open and it counts, is true
abbrev pub IsTrueInRule : Model → Plan → TokenName → ℕ → ℕ → Type 0
IsTrueInRule model plan token rule number =
    (placed : PlacedItem) (entries : Entries) (open_block : IsOpenIn model plan token rule placed.path entries)
    (claim : Claim)
    → IsItemOf open_block.has_block.rule number placed
    → ItemSays model (IsTakenIn plan) (InRule token rule) placed.item claim → IsClaimTrue model plan claim

-- ---- timelines

-- both tokens take place on one timeline
pub record AreOnTimeline (model : Model) (plan : Plan) (one other : TokenName) : Type 0 where
  pub timeline : ℤ
  pub is_timeline : IsTimeline model timeline
  pub one_on : HasPartValue plan one Object timeline
  pub other_on : HasPartValue plan other Object timeline

-- the one token ends before the other starts, or just then
abbrev pub EndsBy : Model → Plan → TokenName → TokenName → Type 0
EndsBy model plan one other = IsClaimTrue model plan (at_most (part_of one End) (part_of other Start))

-- the tokens don't overlap if they are on one timeline
abbrev pub TakeTurns : Model → Plan → TokenName → TokenName → Type 0
TakeTurns model plan one other =
    AreOnTimeline model plan one other → EndsBy model plan one other ⊎ EndsBy model plan other one

-- ---- resources

-- the token is of a predicate of this kind
pub record IsOfSort (model : Model) (kind : PredKind) (token : TokenName) : Type 0 where
  pub slot : Slot
  pub has_token : HasToken model token slot
  pub predicate : Pred
  pub is_predicate : slice_get model.preds slot.pred ≡ Some predicate
  pub is_kind : predicate.kind ≡ kind

-- the value of the part among those of a token
abbrev pub IsPartOf : List ℤ → Part → ℤ → Type 0
IsPartOf values part value = slice_get values (place_in_values part) ≡ Some value

module _ (model : Model) (object instant : ℤ) where
  -- a token with these values that is of a predicate of the kind is on the object and has started by the instant, with
  -- this quantity
  pub record HasActed (kind : PredKind) (token : TokenName) (values : List ℤ) (quantity : ℤ) : Type 0 where
    pub sort : IsOfSort model kind token
    pub on : IsPartOf values Object object
    pub start : ℤ
    pub starts : IsPartOf values Start start
    pub started : start ≤ℤ instant
    pub has_quantity : IsPartOf values (Param 0) quantity

  -- it hasn't ended by then either
  pub record IsActing (kind : PredKind) (token : TokenName) (values : List ℤ) (quantity : ℤ) : Type 0 where
    pub acted : HasActed kind token values quantity
    pub end : ℤ
    pub ends : IsPartOf values End end
    pub not_ended : instant <ℤ end

  -- the line's token uses this quantity of the object at the instant
  abbrev pub UsesAt : Line → ℤ → Type 0
  UsesAt (lines.Token token fact values) quantity = IsActing Uses token values quantity
  UsesAt line quantity = ⊥

  -- the line's token has added this quantity to the level of the object by the instant
  abbrev pub AddedBy : Line → ℤ → Type 0
  AddedBy (lines.Token token fact values) quantity = HasActed Produce token values quantity
  AddedBy line quantity = ⊥

  -- it has taken this quantity
  abbrev pub TookBy : Line → ℤ → Type 0
  TookBy (lines.Token token fact values) quantity = HasActed Consume token values quantity
  TookBy line quantity = ⊥

  -- what the line's token uses, or nothing
  abbrev pub IsUsed : Line → ℤ → Type 0
  IsUsed line amount = UsesAt line amount ⊎ (((quantity : ℤ) → UsesAt line quantity → ⊥) × (amount ≡ pos 0))

  -- neither has it added anything nor taken anything
  pub record LeavesLevel (line : Line) : Type 0 where
    pub adds_none : (quantity : ℤ) → AddedBy line quantity → ⊥
    pub takes_none : (quantity : ℤ) → TookBy line quantity → ⊥

  -- by how much the line's token has raised the level
  abbrev pub IsRise : Line → ℤ → Type 0
  IsRise line rise =
      AddedBy line rise
      ⊎ (((quantity : ℤ) × TookBy line quantity × (rise +ℤ quantity ≡ pos 0))
      ⊎ (LeavesLevel line × (rise ≡ pos 0)))

  -- what the plan uses of the object at the instant is at most the capacity
  pub record IsWithinCapacity (plan : Plan) (capacity : ℤ) : Type 0 where
    pub amounts : List ℤ
    pub are_used : AllZip IsUsed plan.lines amounts
    pub enough : sum_of amounts ≤ℤ capacity

  -- the level of the object at the instant, the initial one with all rises, is within its limits
  pub record IsLevelWithin (plan : Plan) (initial low high : ℤ) : Type 0 where
    pub rises : List ℤ
    pub are_rises : AllZip IsRise plan.lines rises
    pub high_enough : low ≤ℤ (initial +ℤ sum_of rises)
    pub low_enough : (initial +ℤ sum_of rises) ≤ℤ high

-- ---- the clauses

module _ (model : Model) (plan : Plan) where
  -- each global has a value of its base
  abbrev pub KeepsGlobals : Place → Type 0
  KeepsGlobals (places.Global number) =
      number < length model.problem.globals → HasDeclaredValue model plan (variables.Global number)
  KeepsGlobals place = ⊤

  -- each root has a line of its sort, and no other token one that only roots may have
  abbrev pub KeepsRoots : Place → Type 0
  KeepsRoots (places.Root number) =
      (root : Root) → IsRoot model number root → Becomes plan root.kind (root_token number)
  KeepsRoots (places.Line number) = (line : Line) → IsLineAt plan number line → IsLineOfSort line
  KeepsRoots place = ⊤

  -- what takes place has values that it is declared with, and lasts as long as it says
  abbrev pub KeepsTokens : Place → Type 0
  KeepsTokens (places.Line number) = (line : Line) → IsLineAt plan number line → SuitsIfToken model plan line
  KeepsTokens place = ⊤

  -- what is merged can be its target
  abbrev pub KeepsMerges : Place → Type 0
  KeepsMerges (places.Line number) = (line : Line) → IsLineAt plan number line → SuitsIfMerged model plan line
  KeepsMerges place = ⊤

  -- the tokens of slots in open blocks are taken, and the locals there have values that they are declared with
  abbrev pub KeepsOpen : Place → Type 0
  KeepsOpen (places.Slot line rule slot) =
      (token : TokenName) → IsActivatedAt plan line token
      → AsksFor model (plan_situation plan) token (record { rule = rule; slot = slot })
      → IsTakenIn plan (slot_token token rule slot)
  KeepsOpen (places.Local line rule number) =
      (token : TokenName) → IsActivatedAt plan line token
      → AsksForLocal model plan token rule number
      → HasDeclaredValue model plan (variables.Local token rule number)
  KeepsOpen place = ⊤

  -- what the plan has are globals, roots, and what open blocks ask for
  abbrev pub KeepsAsked : Place → Type 0
  KeepsAsked (places.Line number) = (line : Line) → IsLineAt plan number line → IsAsked model plan line
  KeepsAsked place = ⊤

  -- the items of the problem and those in open blocks are true
  abbrev pub KeepsItems : Place → Type 0
  KeepsItems (places.Problem number) =
      (item : Item) → slice_get model.problem.items number ≡ Some item → IsTrueItem model plan item
  KeepsItems (places.Item line rule number) =
      (token : TokenName) → IsActivatedAt plan line token → IsTrueInRule model plan token rule number
  KeepsItems place = ⊤

  -- tokens that take place on one timeline don't overlap
  abbrev pub KeepsTimelines : Place → Type 0
  KeepsTimelines (places.Pair first second) =
      first < second → (one other : TokenName)
      → TakesPlaceAt plan first one → TakesPlaceAt plan second other → TakeTurns model plan one other
  KeepsTimelines place = ⊤

  -- at each instant of the horizon a reusable has what is used of it
  abbrev pub KeepsReusables : Place → Type 0
  KeepsReusables (places.Instant number instant) =
      (object : classes.Object) (capacity : ℤ) → slice_get model.objects number ≡ Some object
      → object.kind ≡ Reusable capacity → IsInstant model instant
      → IsWithinCapacity model (pos number) instant plan capacity
  KeepsReusables place = ⊤

  -- at each instant of the horizon the level of a reservoir is within its limits
  abbrev pub KeepsReservoirs : Place → Type 0
  KeepsReservoirs (places.Instant number instant) =
      (object : classes.Object) (initial low high : ℤ) → slice_get model.objects number ≡ Some object
      → object.kind ≡ Reservoir initial low high → IsInstant model instant
      → IsLevelWithin model (pos number) instant plan initial low high
  KeepsReservoirs place = ⊤

  -- the clause is kept at the place
  abbrev pub IsClauseKept : Clause → Place → Type 0
  IsClauseKept V1 place = KeepsGlobals place
  IsClauseKept V2 place = KeepsRoots place
  IsClauseKept V3 place = KeepsTokens place
  IsClauseKept V4 place = KeepsMerges place
  IsClauseKept V5 place = KeepsOpen place
  IsClauseKept V6 place = KeepsAsked place
  IsClauseKept V7 place = KeepsItems place
  IsClauseKept V8 place = KeepsTimelines place
  IsClauseKept V9 place = KeepsReusables place
  IsClauseKept V10 place = KeepsReservoirs place

  -- each clause is kept everywhere
  abbrev pub IsValid : Type 0
  IsValid = (clause : Clause) (place : Place) → IsClauseKept clause place
