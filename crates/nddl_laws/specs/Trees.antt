-- What is so of a text that is read, and of files that a shelf gives.
use Rattle.std.specs.Prelude.{◌≡◌, ℕ, ◌*◌, ◌<◌, ◌≤◌, false, List, Ok, length, All, AllPairs}
use Rattle.nddl_ast.specs.declared.declaration.Decl.{Decl}
use Rattle.nddl_ast.specs.declared.declaration.FileDecls.{FileDecls}
use Rattle.nddl_parser.specs.Limits.{most_bytes, most_files}
use Rattle.nddl_parser.specs.Language.{ReadsAs}
use Rattle.nddl_laws.specs.Fine.{IsFineDecl}
use Rattle.nddl_symbols.specs.Joined.{is_include, joined_sites}
use Rattle.nddl_laws.specs.Nodes.{decl_nodes, text_nodes}

-- The declarations of a text of so many bytes: their names are names, their literals in range, and no set and no enum
-- is empty; their nodes rise and lie in the text, so there are no more nodes than bytes.
pub record IsTree (size : ℕ) (decls : List Decl) : Type 0 where
  pub fine : All IsFineDecl decls
  pub rising : AllPairs (λ one other. one < other) (text_nodes decls)
  pub inside : All (λ node. node < size) (text_nodes decls)
  pub few : length (text_nodes decls) ≤ size

-- what a text is read as is such a tree
abbrev pub ReadsTrees : Type 0
ReadsTrees = (text : List ℕ) (decls : List Decl) → ReadsAs text (Ok decls) → IsTree (length text) decls

-- a text that isn't too long is read as these declarations
pub record HasText (decls : List Decl) : Type 0 where
  pub text : List ℕ
  pub short : length text ≤ most_bytes
  pub read : ReadsAs text (Ok decls)

-- there are no more joined declarations than bytes in so many files
abbrev pub JoinsFew : List FileDecls → Type 0
JoinsFew files = length (joined_sites files) ≤ most_bytes * most_files

-- A joined declaration: no include, with fine names, literals, sets and enums, and nodes that rise within the bytes of
-- a text.
pub record IsJoinedDecl (decl : Decl) : Type 0 where
  pub own : is_include decl ≡ false
  pub fine : IsFineDecl decl
  pub rising : AllPairs (λ one other. one < other) (decl_nodes decl)
  pub inside : All (λ node. node < most_bytes) (decl_nodes decl)
  pub few : length (decl_nodes decl) ≤ most_bytes
