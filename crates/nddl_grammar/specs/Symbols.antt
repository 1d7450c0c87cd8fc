-- What a text is a list of, to its grammar.
use Rattle.std.specs.Prelude.{ℕ, ℤ, List}
use Rattle.nddl_grammar.specs.declared.sort.Sort.{Sort}

-- a symbol: its sort, its bytes, its value if it has one, and the place at which it begins
pub record PlainSymbol : Type 0 where
  pub sort : Sort
  pub bytes : List ℕ
  pub value : ℤ
  pub at : ℕ
