-- What the terms of items and guards mean, and whether what is said of them counts.
use Rattle.std.specs.Prelude.{◌≡◌, ℕ, ℤ, ⊤}
use Rattle.domain_core.specs.Domain.{Domain, Range}
use Rattle.eu_name.specs.declared.name.TokenName.{TokenName}
use Rattle.eu_name.specs.declared.name.VarName.{VarName}
use Rattle.eu_name.specs.declared.name.VarName.TheVariants as variables
use Rattle.model_core.specs.declared.item.Term.{Term}
use Rattle.model_core.specs.declared.item.Term.TheVariants.{Lit, Here, Slot, Local, Global, Root}
use Rattle.model_core.specs.declared.model.Model.{Model}
use Rattle.model_core.specs.Tokens.{IsRejectable, root_token, slot_token}

-- where terms stand: in the problem, or in a rule of a token
pub data Context : Type 0 where
  InProblem : Context
  InRule : TokenName → ℕ → Context

-- what a term means: a value or a variable
pub data Argument : Type 0 where
  Value : ℤ → Argument
  Variable : VarName → Argument

-- where it stands, the term means this
abbrev pub Means : Context → Term → Argument → Type 0
Means context (Lit value) argument = argument ≡ Value value
Means context (Global number) argument = argument ≡ Variable (variables.Global number)
Means context (Root number part) argument = argument ≡ Variable (variables.Token (root_token number) part)
Means (InRule token rule) (Here part) argument = argument ≡ Variable (variables.Token token part)
Means (InRule token rule) (Slot number part) argument =
    argument ≡ Variable (variables.Token (slot_token token rule number) part)
Means (InRule token rule) (Local number) argument = argument ≡ Variable (variables.Local token rule number)
Means InProblem term argument = ⊥

-- what the argument may be, where the variables may be what is given: a value is that value alone
abbrev pub HasDomain : (VarName → Domain → Type 0) → Argument → Domain → Type 0
HasDomain Given (Value value) domain = domain ≡ Range value value
HasDomain Given (Variable name) domain = Given name domain

-- the variable is one of the token
abbrev pub BelongsTo : VarName → TokenName → Type 0
BelongsTo (variables.Token owner part) token = owner ≡ token
BelongsTo (variables.Local owner rule number) token = owner ≡ token
BelongsTo (variables.Global number) token = ⊥

-- what is said of the variable counts: no rejectable root that isn't taken owns it
abbrev pub Counts : Model → (TokenName → Type 0) → VarName → Type 0
Counts model Taken name = (token : TokenName) → BelongsTo name token → IsRejectable model token → Taken token

-- what is said of the argument counts: of a value it always does
abbrev pub ArgumentCounts : Model → (TokenName → Type 0) → Argument → Type 0
ArgumentCounts model Taken (Value value) = ⊤
ArgumentCounts model Taken (Variable name) = Counts model Taken name

-- what is said of the token counts: it is no rejectable root that isn't taken
abbrev pub TokenCounts : Model → (TokenName → Type 0) → TokenName → Type 0
TokenCounts model Taken token = IsRejectable model token → Taken token
