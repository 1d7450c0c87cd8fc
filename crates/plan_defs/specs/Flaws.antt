-- What decisions leave open in a state.
use Rattle.std.specs.Prelude.{ℤ, ⊤, List, Contains}
use Rattle.domain_core.specs.Domain.{Domain, IsSingle}
use Rattle.eu_name.specs.declared.name.Part.TheVariants.{Start, End, Duration}
use Rattle.eu_name.specs.declared.name.TokenName.{TokenName}
use Rattle.eu_name.specs.declared.name.VarName.{VarName}
use Rattle.eu_name.specs.declared.name.VarName.TheVariants.{Token}
use Rattle.eu_name.specs.NameOrder.{IsTokenBefore}
use Rattle.model_core.specs.declared.decision.Decision.{Decision}
use Rattle.model_core.specs.declared.model.Model.{Model}
use Rattle.model_core.specs.Decided.{IsDecided, IsRejected}
use Rattle.model_core.specs.State.{State, Gives}
use Rattle.plan_defs.specs.Terms.{BelongsTo}
use Rattle.plan_defs.specs.Unordered.{AreUnordered}

-- what a flaw is about
pub data Flaw : Type 0 where
  -- a token of which nothing is decided
  Undecided : TokenName → Flaw
  -- a global, an object, a parameter or a local that has more than one value
  Undetermined : VarName → Flaw
  -- two active tokens of one timeline that have no order, the first of which has the lesser name
  Unordered : TokenName → TokenName → Flaw
  -- a start or a duration that has more than one value
  Untimed : VarName → Flaw

-- the variable is a start or a duration
abbrev pub IsTimed : VarName → Type 0
IsTimed (Token token Start) = ⊤
IsTimed (Token token Duration) = ⊤
IsTimed name = ⊥

-- it is a global, an object, a parameter or a local
abbrev pub IsUntimed : VarName → Type 0
IsUntimed (Token token Start) = ⊥
IsUntimed (Token token End) = ⊥
IsUntimed (Token token Duration) = ⊥
IsUntimed name = ⊤

-- the decisions reject the token that owns the variable
abbrev pub IsOfRejectedToken : List Decision → VarName → Type 0
IsOfRejectedToken decisions name = (token : TokenName) × BelongsTo name token × IsRejected decisions token

-- the state has the variable, with more than one value, and its token isn't rejected
pub record IsUnbound (decisions : List Decision) (state : State) (name : VarName) : Type 0 where
  pub domain : Domain
  pub gives : Gives state name domain
  pub several : (value : ℤ) → IsSingle domain value → ⊥
  pub kept : IsOfRejectedToken decisions name → ⊥

module _ (model : Model) (decisions : List Decision) (state : State) where
  -- the state has this flaw
  abbrev pub IsFlaw : Flaw → Type 0
  IsFlaw (Undecided token) = Contains state.tokens token × (IsDecided model decisions token → ⊥)
  IsFlaw (Undetermined name) = IsUntimed name × IsUnbound decisions state name
  IsFlaw (Unordered one other) = IsTokenBefore one other × AreUnordered model decisions state one other
  IsFlaw (Untimed name) = IsTimed name × IsUnbound decisions state name

  -- it has some flaw
  abbrev pub HasFlaw : Type 0
  HasFlaw = (flaw : Flaw) × IsFlaw flaw
