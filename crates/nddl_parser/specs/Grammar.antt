-- The grammar of declarations and of a text: of which symbols each part is made. One definition a line of the
-- grammar, places included.
use Rattle.std.specs.Prelude.{◌≡◌, ℕ, Option, Some, None, List, [], ◌∷◌}
use Rattle.eu_name.specs.declared.word.Reserved.TheVariants as keywords
use Rattle.nddl_grammar.specs.declared.sort.Sort.TheVariants as sorts
use Rattle.nddl_grammar.specs.Symbols.{PlainSymbol}
use Rattle.nddl_grammar.specs.Exact.{◌·◌, IsPlaced, IsMark, IsNothing, AreMany, AreSeparated, AreListed, MayMark, earliest}
use Rattle.nddl_ast.specs.declared.name.Name.{Name}
use Rattle.nddl_ast.specs.declared.declaration.PredicatePart.{PredicatePart}
use Rattle.nddl_ast.specs.declared.declaration.PredicatePart.TheVariants as parts
use Rattle.nddl_ast.specs.declared.declaration.Set.{Set}
use Rattle.nddl_ast.specs.declared.declaration.Set.TheVariants as sets
use Rattle.nddl_ast.specs.declared.declaration.Member.{Member}
use Rattle.nddl_ast.specs.declared.declaration.Member.TheVariants as members
use Rattle.nddl_ast.specs.declared.declaration.Decl.{Decl}
use Rattle.nddl_ast.specs.declared.declaration.Decl.TheVariants as decls
use Rattle.nddl_grammar.specs.Grammar.{IsWrittenName, AreExpressions, IsInit, IsType, IsTyped}
use Rattle.nddl_grammar.specs.Grammar.{IsVariable, IsCall, IsAsk, IsBraced, deep_block}

-- ---- declarations

abbrev pub IsPredicatePart : PredicatePart → List PlainSymbol → Type 0
IsPredicatePart (parts.Parameter typed) = IsTyped typed · IsMark sorts.Semicolon
IsPredicatePart (parts.Constraint call) = IsCall call

abbrev pub IsSet : Set → List PlainSymbol → Type 0
IsSet (sets.Field name value) = IsWrittenName name · IsMark sorts.Assign · IsInit value · IsMark sorts.Semicolon
IsSet (sets.Super at arguments) =
    IsPlaced (sorts.Word keywords.Super) at · IsMark sorts.ParenOpen · AreExpressions arguments
    · IsMark sorts.ParenClose · IsMark sorts.Semicolon

abbrev pub IsMember : Member → List PlainSymbol → Type 0
IsMember (members.Field typed) = IsTyped typed · IsMark sorts.Semicolon
IsMember (members.Predicate at name parts) =
    IsPlaced (sorts.Word keywords.Predicate) at · IsWrittenName name · IsMark sorts.BraceOpen · AreMany IsPredicatePart parts
    · IsMark sorts.BraceClose · MayMark sorts.Semicolon
IsMember (members.Constructor name formals sets) =
    IsWrittenName name · IsMark sorts.ParenOpen · AreListed sorts.Comma IsTyped formals · IsMark sorts.ParenClose
    · IsMark sorts.BraceOpen · AreMany IsSet sets · IsMark sorts.BraceClose

-- bytes between quotes, at the place
pub record IsFile (file : List ℕ) (at : ℕ) (symbols : List PlainSymbol) : Type 0 where
  pub symbol : PlainSymbol
  pub only : symbols ≡ symbol ∷ []
  pub sorted : symbol.sort ≡ sorts.Quoted
  pub bytes : file ≡ symbol.bytes
  pub placed : at ≡ symbol.at

abbrev pub IsParent : Option Name → List PlainSymbol → Type 0
IsParent None = IsNothing
IsParent (Some name) = IsMark (sorts.Word keywords.Extends) · IsWrittenName name

abbrev pub IsDecl : Decl → List PlainSymbol → Type 0
IsDecl (decls.Include at file file_at) = IsPlaced sorts.Include at · IsFile file file_at · MayMark sorts.Semicolon
IsDecl (decls.Enum at name members_at members) =
    IsPlaced (sorts.Word keywords.Enum) at · IsWrittenName name · IsPlaced sorts.BraceOpen members_at
    · AreSeparated sorts.Comma IsWrittenName members · IsMark sorts.BraceClose · MayMark sorts.Semicolon
IsDecl (decls.Typedef at declared name) =
    IsPlaced (sorts.Word keywords.Typedef) at · IsType declared · IsWrittenName name · IsMark sorts.Semicolon
IsDecl (decls.Forward at name) = IsPlaced (sorts.Word keywords.Class) at · IsWrittenName name · IsMark sorts.Semicolon
IsDecl (decls.Class at name parent members) =
    IsPlaced (sorts.Word keywords.Class) at · IsWrittenName name · IsParent parent · IsMark sorts.BraceOpen
    · AreMany IsMember members · IsMark sorts.BraceClose · MayMark sorts.Semicolon
IsDecl (decls.Rule class predicate body) =
    IsWrittenName class · IsMark sorts.DoubleColon · IsWrittenName predicate · IsBraced body
IsDecl (decls.Variable variable) = IsVariable variable
IsDecl (decls.Call call) = IsCall call
IsDecl (decls.Ask ask) = IsAsk ask

-- a text is declarations
abbrev pub IsText : List Decl → List PlainSymbol → Type 0
IsText = AreMany IsDecl

-- ---- nesting

-- how deep blocks may be nested
abbrev pub most_nested : ℕ
most_nested = 16

abbrev pub deep_decl : ℕ → Decl → Option ℕ
deep_decl left (decls.Rule class predicate body) = deep_block left body
deep_decl left other = None

-- the first block of a text that is nested deeper than this
abbrev pub deep_text : ℕ → List Decl → Option ℕ
deep_text left = earliest (deep_decl left)
