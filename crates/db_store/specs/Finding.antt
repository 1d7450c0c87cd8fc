-- What the pieces of the calls find and add. The public calls promise none of it.
use Rattle.std.specs.Prelude.{◌≡◌, ℕ, List, [], ◌∷◌, ◌++◌, length, Option, Some, None, Result, Ok, Err}
use Rattle.std.specs.declared.alloc.AllocError.{AllocError}
use Rattle.eu_name.specs.declared.name.VarName.{VarName}
use Rattle.token_store.specs.Tokens.{TokenList, token_names}
use Rattle.db_store.specs.Keys.{named_variable, IsKeyBelow}
use Rattle.db_store.specs.declared.key.VarKey.{VarKey}

-- the key, of a token that there is, is one of this name
abbrev pub IsKeyOf : TokenList → VarName → VarKey → Type 0
IsKeyOf tokens name key = IsKeyBelow (length tokens) key × (named_variable (token_names tokens) key ≡ name)

-- the one key of this name; none exactly where there is none
abbrev pub FindsKey : TokenList → VarName → Option VarKey → Type 0
FindsKey tokens name (Some key) = IsKeyOf tokens name key × ((other : VarKey) → IsKeyOf tokens name other → other ≡ key)
FindsKey tokens name None = (other : VarKey) → IsKeyOf tokens name other → ⊥

-- the key stands behind the others, unless memory has run out
abbrev pub AddsKey : VarKey → List VarKey → Result ℕ AllocError → List VarKey → Type 0
AddsKey key old (Ok number) new = new ≡ old ++ key ∷ []
AddsKey key old (Err none) new = new ≡ old
