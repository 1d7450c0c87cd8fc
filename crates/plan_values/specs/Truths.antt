-- When what is said of terms is true by the values of a plan.
use Rattle.std.specs.Prelude.{ℤ, List, [], ◌∷◌, Option, Some, None, ⊤}
use Rattle.std.specs.List.{AllZip}
use Rattle.eu_name.specs.declared.name.Part.TheVariants.{Start, End}
use Rattle.eu_name.specs.declared.name.TokenName.{TokenName}
use Rattle.model_core.specs.declared.item.Item.{Item}
use Rattle.domain_core.specs.declared.kind.Kind.{Kind}
use Rattle.model_core.specs.declared.item.Term.{Term}
use Rattle.model_core.specs.declared.model.Model.{Model}
use Rattle.domain_core.specs.Constraints.{Holds}
use Rattle.plan_defs.specs.declared.plan.Plan.{Plan}
use Rattle.plan_defs.specs.Claims.{Claim, ItemSays, part_of}
use Rattle.plan_defs.specs.Consistency.{HasField}
use Rattle.plan_defs.specs.Plans.{IsTakenIn}
use Rattle.plan_defs.specs.Terms.{Context, Argument}
use Rattle.plan_defs.specs.Valid.{IsClaimTrue}
use Rattle.plan_values.specs.declared.claims.Edge.{Edge}
use Rattle.plan_values.specs.declared.claims.Edge.TheVariants as edges
use Rattle.plan_values.specs.declared.claims.Statement.{Statement}
use Rattle.plan_values.specs.Meanings.{HasTermValue}

-- the terms have values of which the constraint holds
abbrev pub AreTrueOf : Model → Plan → Context → Kind → List Term → Type 0
AreTrueOf model plan context kind compared =
    (values : List ℤ) × AllZip (HasTermValue plan context) compared values × Holds (HasField model) kind values

-- what the item says there, where it counts, is true
abbrev pub IsTrueWhere : Model → Plan → Context → Item → Type 0
IsTrueWhere model plan context item =
    (claim : Claim) → ItemSays model (IsTakenIn plan) context item claim → IsClaimTrue model plan claim

-- the start or the end of the token, or of the one that it asks for
abbrev pub edge_argument : TokenName → TokenName → Edge → Argument
edge_argument token asked edges.OwnStart = part_of token Start
edge_argument token asked edges.OwnEnd = part_of token End
edge_argument token asked edges.AskedStart = part_of asked Start
edge_argument token asked edges.AskedEnd = part_of asked End

-- what the statement says of the two tokens
abbrev pub statement_claim : TokenName → TokenName → Statement → Claim
statement_claim token asked statement = record {
  kind = statement.kind;
  arguments = edge_argument token asked statement.one ∷ edge_argument token asked statement.other ∷ [];
}

-- what is stated of the two tokens, if anything is, is true
abbrev pub IsStatedTrue : Model → Plan → TokenName → TokenName → Option Statement → Type 0
IsStatedTrue model plan token asked None = ⊤
IsStatedTrue model plan token asked (Some statement) = IsClaimTrue model plan (statement_claim token asked statement)
