-- What terms are in a store.
use Rattle.std.specs.Prelude.{ℕ, ◌<◌, ◌^◌, ⊤, length, Contains}
use Rattle.domain_core.specs.Domain.{IsValue}
use Rattle.eu_name.specs.declared.name.Part.{Part}
use Rattle.eu_name.specs.declared.name.Part.TheVariants.{Start, End}
use Rattle.eu_name.specs.declared.name.TokenName.{TokenName}
use Rattle.eu_name.specs.declared.name.VarName.TheVariants.{Token}
use Rattle.model_core.specs.declared.item.Term.{Term}
use Rattle.model_core.specs.declared.item.Term.TheVariants.{Lit, Here, Slot, Local, Global, Root}
use Rattle.constraint_net.specs.declared.constraint.NetArg.{NetArg}
use Rattle.plan_defs.specs.Terms.{Context, InProblem, InRule, Argument, Means}
use Rattle.db_refine.specs.Claims.{IsNamedArgument}
use Rattle.model_core.specs.Content.{Content}
use Rattle.token_store.specs.Orders.{name_at}
use Rattle.token_store.specs.Tokens.{tokens_now}
use Rattle.db_store.specs.Stores.{Stored}
use Rattle.db_posting.specs.declared.origin.PartAt.{PartAt}
use Rattle.db_posting.specs.Origins.{content_now}

-- the term may stand there: it is a value, or a variable that has a name there
abbrev pub CanStand : Context → Term → Type 0
CanStand context (Lit value) = IsValue value
CanStand context (Global number) = ⊤
CanStand context (Root number part) = ⊤
CanStand (InRule token rule) (Here part) = ⊤
CanStand (InRule token rule) (Slot number part) = number < 2 ^ 16
CanStand (InRule token rule) (Local number) = number < 2 ^ 16
CanStand InProblem term = ⊥

-- whatever the term means there, it is this argument
abbrev pub IsTermArgument : Content → Context → Term → NetArg → Type 0
IsTermArgument content context term arg =
    (argument : Argument) → Means context term argument → IsNamedArgument content.names argument arg

-- the part of the token is there
abbrev pub IsPartThere : Content → TokenName → Part → Type 0
IsPartThere content token part = Contains content.names (Token token part)

-- the start and the end of the token are there
abbrev pub HasTimes : Content → TokenName → Type 0
HasTimes content token = IsPartThere content token Start × IsPartThere content token End

-- there is a token at the place, with this part
abbrev pub HasPartAt : Stored → PartAt → Type 0
HasPartAt stored at =
    (at.token < length (tokens_now stored.past))
    × IsPartThere (content_now stored) (name_at (content_now stored).tokens at.token) at.part

-- there is a token at the place, with its start and its end
abbrev pub HasTimesAt : Stored → ℕ → Type 0
HasTimesAt stored place =
    (place < length (tokens_now stored.past)) × HasTimes (content_now stored) (name_at (content_now stored).tokens place)
