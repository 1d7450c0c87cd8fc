-- What is printed is read back as the same tree.
use Rattle.std.specs.Prelude.{◌≡◌, ℕ, Ok, List, map}
use Rattle.nddl_lexer.specs.declared.kinds.Lexeme.{Lexeme}
use Rattle.nddl_lexer.specs.Reading.{bytes_of, Lexes}
use Rattle.nddl_ast.specs.declared.declaration.Decl.{Decl}
use Rattle.nddl_ast.specs.Same.{AllSame, SameDecl}
use Rattle.nddl_parser.specs.declared.parsing.ParseFault.{ParseFault}
use Rattle.std.specs.Prelude.{Result}
use Rattle.nddl_parser.specs.Derives.{Parses}
use Rattle.nddl_print.specs.Words.{text_of}
use Rattle.nddl_print.specs.Canonical.{many_words, decl_words, spelling_of}

-- some text without a fault, and without a block nested too deep, has the tree
pub record IsReadable (tree : List Decl) : Type 0 where
  pub text : List ℕ
  pub lexemes : List Lexeme
  pub lexes : Lexes text lexemes
  pub parses : Parses text lexemes (Ok tree)

-- the spelling of the tree has lexemes, which are spelled as the words of the tree are, and they have a tree that is
-- the same up to places
pub record IsReadBack (tree : List Decl) : Type 0 where
  pub lexemes : List Lexeme
  pub lexes : Lexes (spelling_of tree) lexemes
  pub spelled : map (bytes_of (spelling_of tree)) lexemes ≡ map text_of (many_words decl_words tree)
  pub other : List Decl
  pub parses : Parses (spelling_of tree) lexemes (Ok other)
  pub same : AllSame SameDecl tree other

-- the spelling of each readable tree is read back
abbrev pub PrintsAreReadBack : Type 0
PrintsAreReadBack = (tree : List Decl) → IsReadable tree → IsReadBack tree

-- whatever is read from the spelling of a readable tree is a tree that is the same
abbrev pub PrintsAreReadAsNoOther : Type 0
PrintsAreReadAsNoOther =
    (tree : List Decl) (lexemes : List Lexeme) (outcome : Result (List Decl) ParseFault) → IsReadable tree
    → Lexes (spelling_of tree) lexemes → Parses (spelling_of tree) lexemes outcome → (other : List Decl)
    × (outcome ≡ Ok other) × AllSame SameDecl tree other

-- trees that are the same have one spelling
abbrev pub SameTreesAreSpelledAlike : Type 0
SameTreesAreSpelledAlike = (one other : List Decl) → AllSame SameDecl one other → spelling_of one ≡ spelling_of other

-- a tree that is read from the spelling of a readable one has the same spelling
abbrev pub PrintsAreLasting : Type 0
PrintsAreLasting = (tree : List Decl) (lexemes : List Lexeme) (other : List Decl) → IsReadable tree
    → Lexes (spelling_of tree) lexemes → Parses (spelling_of tree) lexemes (Ok other)
    → spelling_of other ≡ spelling_of tree
