-- The tree that lexemes derive, and the first place at which they derive none.
use Rattle.std.specs.Prelude.{◌≡◌, ℕ, ◌≤◌, Option, Some, None, Result, Ok, Err, List, ◌∷◌, ◌++◌, length}
use Rattle.nddl_lexer.specs.declared.kinds.Lexeme.{Lexeme}
use Rattle.nddl_lexer.specs.Reading.{Lexes}
use Rattle.nddl_grammar.specs.Symbols.{PlainSymbol}
use Rattle.nddl_grammar.specs.Readers.{next_place}
use Rattle.nddl_grammar.specs.Exact.{Agrees}
use Rattle.nddl_ast.specs.declared.declaration.Decl.{Decl}
use Rattle.nddl_parser.specs.declared.parsing.ParseFault.{ParseFault}
use Rattle.nddl_parser.specs.declared.parsing.ParseFault.TheVariants.{Syntax, TooDeep, Memory}
use Rattle.nddl_parser.specs.Symbols.{AreSymbols}
use Rattle.nddl_parser.specs.Grammar.{IsText, most_nested, deep_text}

-- the lexemes of the text, all of them and with their places, derive the tree
abbrev pub Derives : List ℕ → List Lexeme → List Decl → Type 0
Derives text lexemes tree = (symbols : List PlainSymbol) × AreSymbols text lexemes symbols × IsText tree symbols

-- a place is there and not before the other, or there is none
abbrev pub IsNotBefore : ℕ → Option ℕ → Type 0
IsNotBefore place None = Unit {0}
IsNotBefore place (Some at) = place ≤ at

-- the symbols begin a derivation: others behind them complete it. No block that is nested too deep begins before the
-- place
pub record BeginsBefore (place : ℕ) (symbols : List PlainSymbol) : Type 0 where
  pub after : List PlainSymbol
  pub tree : List Decl
  pub derived : IsText tree (symbols ++ after)
  pub shallow : IsNotBefore place (deep_text most_nested tree)

-- the symbols before the place begin a derivation, and those with the one at the place begin none; or, at the end,
-- they make up none
pub record IsSyntax (end : ℕ) (symbols : List PlainSymbol) (place : ℕ) : Type 0 where
  pub before : List PlainSymbol
  pub rest : List PlainSymbol
  pub split : symbols ≡ before ++ rest
  pub at : place ≡ next_place end rest
  pub begun : BeginsBefore place before
  pub none : (tree : List Decl) (other : List PlainSymbol) → IsText tree other → Agrees other before rest → ⊥

-- the symbols up to the one at the place begin a derivation, and in each that they begin the first block nested too
-- deep is there
pub record IsTooDeep (symbols : List PlainSymbol) (place : ℕ) : Type 0 where
  pub before : List PlainSymbol
  pub symbol : PlainSymbol
  pub rest : List PlainSymbol
  pub split : symbols ≡ before ++ symbol ∷ rest
  pub at : place ≡ symbol.at
  pub after : List PlainSymbol
  pub tree : List Decl
  pub derived : IsText tree (before ++ symbol ∷ after)
  pub first : deep_text most_nested tree ≡ Some place
  pub all : (tree : List Decl) (after : List PlainSymbol) → IsText tree (before ++ symbol ∷ after)
      → deep_text most_nested tree ≡ Some place

-- what symbols that end at a place are: a tree without a block nested too deep, or a fault; want of memory is no
-- fault of theirs
abbrev pub IsParseOutcome : ℕ → List PlainSymbol → Result (List Decl) ParseFault → Type 0
IsParseOutcome end symbols (Ok tree) = IsText tree symbols × (deep_text most_nested tree ≡ None)
IsParseOutcome end symbols (Err (Syntax place)) = IsSyntax end symbols place
IsParseOutcome end symbols (Err (TooDeep place)) = IsTooDeep symbols place
IsParseOutcome end symbols (Err Memory) = ⊥

-- the lexemes of the text have this outcome
pub record Parses (text : List ℕ) (lexemes : List Lexeme) (outcome : Result (List Decl) ParseFault) : Type 0 where
  pub symbols : List PlainSymbol
  pub read : AreSymbols text lexemes symbols
  pub ends : IsParseOutcome (length text) symbols outcome

-- the lexemes of a text have one outcome: one tree, or one fault at one place, and not both
abbrev pub HasOneParse : Type 0
HasOneParse = (text : List ℕ) (lexemes : List Lexeme) (one other : Result (List Decl) ParseFault)
    → Lexes text lexemes → Parses text lexemes one → Parses text lexemes other → one ≡ other

-- no lexemes derive two trees, however deep blocks are nested in them
abbrev pub HasOneTree : Type 0
HasOneTree = (text : List ℕ) (lexemes : List Lexeme) (one other : List Decl) → Derives text lexemes one
    → Derives text lexemes other → one ≡ other
