-- Where items stand, by the places of tokens, and the parts of tokens.
use Rattle.std.specs.Prelude.{ℕ, ◌<◌, ⊤, List}
use Rattle.eu_name.specs.declared.name.TokenName.{TokenName}
use Rattle.token_store.specs.Orders.{name_at}
use Rattle.plan_defs.specs.Claims.{part_of}
use Rattle.plan_defs.specs.Terms.{Argument, Context, InProblem, InRule}
use Rattle.model_core.specs.Content.{Content}
use Rattle.db_store.specs.Stores.{Stored, snapshot_of, named_content}
use Rattle.db_posting.specs.declared.origin.Origin.{Origin}
use Rattle.db_posting.specs.declared.origin.Origin.TheVariants.{Problem, Rule}
use Rattle.db_posting.specs.declared.origin.PartAt.{PartAt}

-- what is in the store, by names
abbrev pub content_now : Stored → Content
content_now stored = named_content (snapshot_of stored)

-- where the origin is, if the tokens have these names by place
abbrev pub origin_context : List TokenName → Origin → Context
origin_context names Problem = InProblem
origin_context names (Rule token rule) = InRule (name_at names token) rule

-- the origin's token, if it has one, is among the first so many
abbrev pub IsOriginBelow : ℕ → Origin → Type 0
IsOriginBelow count Problem = ⊤
IsOriginBelow count (Rule token rule) = token < count

-- the part, as an argument of a claim
abbrev pub argument_named : List TokenName → PartAt → Argument
argument_named names at = part_of (name_at names at.token) at.part
