-- What has to be consistent in a state: constraints over values and variables.
use Rattle.std.specs.Prelude.{◌≡◌, ◌⊎◌, List, [], ◌∷◌, map, All, Contains}
use Rattle.std.specs.List.{AllZip}
use Rattle.eu_name.specs.declared.name.Part.{Part}
use Rattle.eu_name.specs.declared.name.Part.TheVariants.{Start, End, Duration}
use Rattle.eu_name.specs.declared.name.TokenName.{TokenName}
use Rattle.eu_name.specs.declared.name.VarName.TheVariants.{Token}
use Rattle.model_core.specs.declared.decision.ConArg.{ConArg}
use Rattle.model_core.specs.declared.decision.ConArg.TheVariants as given
use Rattle.model_core.specs.declared.decision.Decision.{Decision}
use Rattle.model_core.specs.declared.decision.Decision.TheVariants.{Merge, Order, Constrain, Relate}
use Rattle.model_core.specs.declared.item.Item.{Item}
use Rattle.model_core.specs.declared.item.Item.TheVariants.{Constraint, Relation}
use Rattle.domain_core.specs.declared.kind.Kind.{Kind}
use Rattle.domain_core.specs.declared.kind.Kind.TheVariants.{Eq, Leq, AddEq}
use Rattle.model_core.specs.declared.item.Rel.{Rel}
use Rattle.model_core.specs.declared.item.Rel.TheVariants as rel
use Rattle.model_core.specs.declared.model.Model.{Model}
use Rattle.model_core.specs.declared.item.Term.{Term}
use Rattle.model_core.specs.declared.rule.Slot.{Slot}
use Rattle.model_core.specs.declared.variable.Base.{Base}
use Rattle.model_core.specs.Blocks.{TokenBlock, IsBlock, direct, OfItem}
use Rattle.model_core.specs.Decided.{IsTaken}
use Rattle.model_core.specs.Entries.{Entries}
use Rattle.model_core.specs.State.{State}
use Rattle.model_core.specs.Tokens.{slot_token, HasToken}
use Rattle.model_core.specs.Variables.{HasPartBase}
use Rattle.plan_defs.specs.Terms.{Context, InProblem, InRule, Argument, Value, Variable, Means, ArgumentCounts}

-- a constraint with what its arguments mean
pub record Claim : Type 0 where
  pub kind : Kind
  pub arguments : List Argument

-- a part of a token
abbrev pub part_of : TokenName → Part → Argument
part_of token part = Variable (Token token part)

-- the one is at most the other
abbrev pub at_most : Argument → Argument → Claim
at_most one other = record { kind = Leq; arguments = one ∷ other ∷ [] }

-- the two are equal
abbrev pub equal : Argument → Argument → Claim
equal one other = record { kind = Eq; arguments = one ∷ other ∷ [] }

-- what a temporal relation says of a token, a, and one that it asks for, b
abbrev pub relates : Rel → TokenName → TokenName → List Claim
relates rel.Any a b = []
relates rel.Before a b = at_most (part_of a End) (part_of b Start) ∷ []
relates rel.After a b = at_most (part_of b End) (part_of a Start) ∷ []
relates rel.Meets a b = equal (part_of a End) (part_of b Start) ∷ []
relates rel.MetBy a b = equal (part_of b End) (part_of a Start) ∷ []
relates rel.Equals a b = equal (part_of a Start) (part_of b Start) ∷ equal (part_of a End) (part_of b End) ∷ []
relates rel.Contains a b = at_most (part_of a Start) (part_of b Start) ∷ at_most (part_of b End) (part_of a End) ∷ []
relates rel.ContainedBy a b =
    at_most (part_of b Start) (part_of a Start) ∷ at_most (part_of a End) (part_of b End) ∷ []
relates rel.Starts a b = equal (part_of a Start) (part_of b Start) ∷ []
relates rel.Ends a b = equal (part_of a End) (part_of b End) ∷ []
relates rel.Parallels a b = at_most (part_of a Start) (part_of b Start) ∷ at_most (part_of a End) (part_of b End) ∷ []
relates rel.ParalleledBy a b =
    at_most (part_of b Start) (part_of a Start) ∷ at_most (part_of b End) (part_of a End) ∷ []
relates rel.StartsDuring a b =
    at_most (part_of b Start) (part_of a Start) ∷ at_most (part_of a Start) (part_of b End) ∷ []
relates rel.ContainsStart a b =
    at_most (part_of a Start) (part_of b Start) ∷ at_most (part_of b Start) (part_of a End) ∷ []
relates rel.EndsDuring a b = at_most (part_of b Start) (part_of a End) ∷ at_most (part_of a End) (part_of b End) ∷ []
relates rel.ContainsEnd a b = at_most (part_of a Start) (part_of b End) ∷ at_most (part_of b End) (part_of a End) ∷ []

module _ (model : Model) (Taken : TokenName → Type 0) (context : Context) where
  -- the constraint on these terms says the claim, and all that it is about counts
  pub record SaysConstraint (kind : Kind) (terms : List Term) (claim : Claim) : Type 0 where
    pub is_kind : claim.kind ≡ kind
    pub means : AllZip (Means context) terms claim.arguments
    pub counts : All (ArgumentCounts model Taken) claim.arguments

-- the item says the claim where it stands
abbrev pub ItemSays : Model → (TokenName → Type 0) → Context → Item → Claim → Type 0
ItemSays model Taken context (Constraint kind terms) claim = SaysConstraint model Taken context kind terms claim
ItemSays model Taken (InRule token rule) (Relation rel slot) claim =
    Contains (relates rel token (slot_token token rule slot)) claim
ItemSays model Taken InProblem (Relation rel slot) claim = ⊥

-- a constraint of the problem says it
pub record IsOfProblem (model : Model) (Taken : TokenName → Type 0) (claim : Claim) : Type 0 where
  pub item : Item
  pub stands : Contains model.problem.items item
  pub says : ItemSays model Taken InProblem item claim

-- an item in an open block says it
pub record IsOfBlock (model : Model) (Taken : TokenName → Type 0) (Open : TokenBlock → Type 0) (claim : Claim) : Type 0 where
  pub block : TokenBlock
  pub entries : Entries
  pub item : Item
  pub is_open : Open block
  pub has_block : IsBlock model block entries
  pub stands : Contains (direct entries) (OfItem item)
  pub says : ItemSays model Taken (InRule block.token block.rule) item claim

-- a token starts, lasts for its duration, and then ends
abbrev pub lasts : TokenName → Claim
lasts token =
    record { kind = AddEq; arguments = part_of token Start ∷ part_of token Duration ∷ part_of token End ∷ [] }

-- that a token of the state lasts says it
pub record IsOfToken (state : State) (claim : Claim) : Type 0 where
  pub token : TokenName
  pub there : Contains state.tokens token
  pub says : claim ≡ lasts token

-- the token has this part
abbrev pub HasPart : Model → TokenName → Part → Type 0
HasPart model token part = (slot : Slot) × HasToken model token slot × ((base : Base) × HasPartBase model slot part base)

-- a merge says that a part of the token, which may be any that it has, equals that of its target
pub record IsOfMerge (model : Model) (decisions : List Decision) (claim : Claim) : Type 0 where
  pub token : TokenName
  pub target : TokenName
  pub part : Part
  pub merged : Contains decisions (Merge token target)
  pub has_part : HasPart model token part
  pub says : claim ≡ equal (part_of token part) (part_of target part)

-- an order says that the one token ends before the other starts
pub record IsOfOrder (decisions : List Decision) (claim : Claim) : Type 0 where
  pub one : TokenName
  pub other : TokenName
  pub ordered : Contains decisions (Order one other)
  pub says : claim ≡ at_most (part_of one End) (part_of other Start)

-- what an argument of a posted constraint means
abbrev pub argument_of : ConArg → Argument
argument_of (given.Var name) = Variable name
argument_of (given.Value value) = Value value

-- what a posted constraint says
abbrev pub posted_claim : Kind → List ConArg → Claim
posted_claim kind arguments = record { kind = kind; arguments = map argument_of arguments }

-- the decision posts the claim: a constraint as it stands, and each that a relation says of its tokens
abbrev pub Posts : Decision → Claim → Type 0
Posts (Constrain kind arguments) claim = claim ≡ posted_claim kind arguments
Posts (Relate relation one other) claim = Contains (relates relation one other) claim
Posts decision claim = ⊥

-- a decision posts it, and all that it is about counts
pub record IsOfPosting (model : Model) (decisions : List Decision) (claim : Claim) : Type 0 where
  pub decision : Decision
  pub stands : Contains decisions decision
  pub posts : Posts decision claim
  pub counts : All (ArgumentCounts model (IsTaken decisions)) claim.arguments

-- what has to be consistent: what the problem, the open blocks, the tokens, the merges and the orders say, and what is posted
abbrev pub IsClaim : Model → List Decision → State → Claim → Type 0
IsClaim model decisions state claim =
    IsOfProblem model (IsTaken decisions) claim
    ⊎ (IsOfBlock model (IsTaken decisions) (Contains state.blocks) claim
    ⊎ (IsOfToken state claim
    ⊎ (IsOfMerge model decisions claim
    ⊎ (IsOfOrder decisions claim
    ⊎ IsOfPosting model decisions claim))))
