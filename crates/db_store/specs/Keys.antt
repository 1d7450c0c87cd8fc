-- Variables and open blocks by the places of their tokens, and the names that they have.
use Rattle.std.specs.Prelude.{ℕ, ◌<◌, ⊤, List}
use Rattle.eu_name.specs.declared.name.TokenName.{TokenName}
use Rattle.eu_name.specs.declared.name.VarName.{VarName}
use Rattle.eu_name.specs.declared.name.VarName.TheVariants as name
use Rattle.model_core.specs.Blocks.{TokenBlock}
use Rattle.token_store.specs.Orders.{name_at}
use Rattle.db_store.specs.declared.key.OpenBlock.{OpenBlock}
use Rattle.db_store.specs.declared.key.VarKey.{VarKey}
use Rattle.db_store.specs.declared.key.VarKey.TheVariants.{Global, Part, Local}

-- the variable of the key, where the tokens have these names by place
abbrev pub named_variable : List TokenName → VarKey → VarName
named_variable names (Global number) = name.Global number
named_variable names (Part place part) = name.Token (name_at names place) part
named_variable names (Local place rule number) = name.Local (name_at names place) rule number

-- the block, where they have these names
abbrev pub named_block : List TokenName → OpenBlock → TokenBlock
named_block names block = record { token = name_at names block.token; rule = block.rule; path = block.path }

-- the key's token, if it has one, is among the first so many
abbrev pub IsKeyBelow : ℕ → VarKey → Type 0
IsKeyBelow count (Global number) = ⊤
IsKeyBelow count (Part place part) = place < count
IsKeyBelow count (Local place rule number) = place < count
