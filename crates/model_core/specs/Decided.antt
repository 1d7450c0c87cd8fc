-- What the decisions say of a token.
use Rattle.std.specs.Prelude.{◌⊎◌, List, Contains}
use Rattle.eu_name.specs.declared.name.TokenName.{TokenName}
use Rattle.model_core.specs.declared.decision.Decision.{Decision}
use Rattle.model_core.specs.declared.decision.Decision.TheVariants.{Activate, Merge, Reject}
use Rattle.model_core.specs.declared.model.Model.{Model}
use Rattle.model_core.specs.Tokens.{IsFact}

-- the decisions say that the token takes place
abbrev pub IsActivated : List Decision → TokenName → Type 0
IsActivated decisions token = Contains decisions (Activate token)

-- the token is another one
abbrev pub IsMerged : List Decision → TokenName → Type 0
IsMerged decisions token = (target : TokenName) × Contains decisions (Merge token target)

-- the token doesn't take place
abbrev pub IsRejected : List Decision → TokenName → Type 0
IsRejected decisions token = Contains decisions (Reject token)

-- the token is taken: it takes place by itself or as another one
abbrev pub IsTaken : List Decision → TokenName → Type 0
IsTaken decisions token = IsActivated decisions token ⊎ IsMerged decisions token

-- the token is active: it takes place by itself, as a fact or since it is activated
abbrev pub IsActive : Model → List Decision → TokenName → Type 0
IsActive model decisions token = IsFact model token ⊎ IsActivated decisions token

-- what becomes of the token is decided: it is a fact, or taken, or rejected
abbrev pub IsDecided : Model → List Decision → TokenName → Type 0
IsDecided model decisions token = IsFact model token ⊎ (IsTaken decisions token ⊎ IsRejected decisions token)
