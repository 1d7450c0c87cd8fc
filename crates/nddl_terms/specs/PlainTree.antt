-- Rule trees as plain data.
use Rattle.std.specs.Prelude.{ℕ, List}
use Rattle.nddl_ast.specs.Tree.{Statements}
use Rattle.nddl_symbols.specs.declared.place.Place.{Place}
use Rattle.nddl_terms.specs.declared.tree.ReadName.{ReadName}

-- the text of a rule for the predicate of this number, in this file and at this place: its statements, and the names that
-- are read in them
pub record PlainTree : Type 0 where
  pub pred : ℕ
  pub file : List ℕ
  pub place : Place
  pub body : Statements
  pub names : List ReadName
