-- Names, values, expressions and types, read back from their words.
use Rattle.std.proofs.Common.{◌≡◌, ℕ, true, false, List, [], ◌∷◌, refl, sym, ap, subst}
use Rattle.eu_name.specs.declared.word.Reserved.TheVariants as keywords
use Rattle.nddl_grammar.specs.declared.sort.Sort.TheVariants as sorts
use Rattle.nddl_grammar.specs.Symbols.{PlainSymbol}
use Rattle.nddl_grammar.specs.Exact.{◌·◌, IsMark}
use Rattle.nddl_ast.specs.declared.name.Name.{Name}
use Rattle.nddl_ast.specs.declared.expression.Constant.{Constant}
use Rattle.nddl_ast.specs.declared.expression.Constant.TheVariants as constants
use Rattle.nddl_ast.specs.declared.expression.Thousandths.{Thousandths}
use Rattle.nddl_ast.specs.declared.expression.Expr.{Expr}
use Rattle.nddl_ast.specs.declared.expression.Expr.TheVariants as exprs
use Rattle.nddl_ast.specs.declared.expression.Value.{Value}
use Rattle.nddl_ast.specs.declared.expression.Value.TheVariants as values
use Rattle.nddl_ast.specs.declared.expression.BaseType.{BaseType}
use Rattle.nddl_ast.specs.declared.expression.BaseType.TheVariants as bases
use Rattle.nddl_ast.specs.declared.expression.Bounds.{Bounds}
use Rattle.nddl_ast.specs.declared.expression.Bounds.TheVariants as bounds
use Rattle.nddl_ast.specs.declared.expression.Type as types
use Rattle.nddl_ast.specs.declared.expression.Init.TheVariants as inits
use Rattle.nddl_ast.specs.Same.{AllSame, SameName, SamePath, SameLiteral, SameExpr, SameValue, SameBase, SameBounds, SameType, SameCreation, SameInit, SameTyped}
use Rattle.nddl_grammar.specs.Grammar.{IsWrittenName, IsPath, Writes, IsLiteral, IsExpr, IsWrittenValue, AreExpressions, IsCreation, IsInit, IsBase, IsBounds, IsType, IsTyped}
use Rattle.nddl_print.specs.Words.{Fixed, Named, Number, Decimal}
use Rattle.nddl_print.specs.Canonical.{name_words, path_words, constant_words, literal_words, expr_words, value_words, argument_words, creation_words, init_words, base_words, bounds_words, type_words, typed_words}
use Rattle.nddl_print.proofs.Saying.{AreSound, AreFine, Say, one_said}
use Rattle.nddl_print.proofs.Reprinting.{Reprints, EachReprints, mapped, both, mark, after, before, may_then, placed, after_placed, following, separated, listed}

-- one symbol of symbols that can be written
fine_one : (symbols : List PlainSymbol) (symbol : PlainSymbol) → symbols ≡ symbol ∷ [] → AreFine symbols → AreFine (symbol ∷ [])
fine_one symbols symbol only fine = subst AreFine only fine

pub name_reprints : EachReprints IsWrittenName SameName name_words
name_reprints name = record {
  sound = λ symbols fine is.
      let named = (fine_one symbols is.symbol is.only fine).0.named is.sorted in
      (subst (λ bytes. AreSound (Named bytes ∷ [])) (sym (ap (λ (name : Name). name.text) is.is)) (named, tt));
  again = λ old symbols is say.
      let (symbol, only, says) = one_said (Named name.text) symbols say in
      (record { text = symbol.bytes; at = symbol.at }, record { symbol = symbol; only = only; sorted = says.0; is = refl }, sym says.1);
}

pub path_reprints : EachReprints IsPath SamePath path_words
path_reprints path =
    mapped {X = Name × List Name} (λ p. record { first = p.0; rest = p.1 }) (path.first, path.rest) (λ p symbols is. is) (λ symbols is. is) (λ p same. same)
    (both (name_reprints path.first) (following sorts.Point refl name_reprints path.rest))

-- what a symbol that is the word of a constant writes
literal_sound : (constant : Constant) (symbol : PlainSymbol) → AreFine (symbol ∷ []) → Writes symbol constant → AreSound (constant_words constant)
literal_sound (constants.Number value) symbol fine writes = (subst (λ n. AreSound (Number n ∷ [])) (sym writes.1) (fine.0.number writes.0, tt))
literal_sound (constants.Decimal thousandths) symbol fine writes =
    (subst (λ (t : Thousandths). AreSound (Decimal t.0 ∷ [])) (sym writes.1) (fine.0.decimal writes.0, tt))
literal_sound (constants.Truth true) symbol fine writes = (refl, tt)
literal_sound (constants.Truth false) symbol fine writes = (refl, tt)

literal_said : (constant : Constant) (symbols : List PlainSymbol) → Say (constant_words constant) symbols → (symbol : PlainSymbol) × (symbols ≡ symbol ∷ []) × Writes symbol constant
literal_said (constants.Number value) symbols say = let (symbol, only, says) = one_said (Number value) symbols say in (symbol, only, (says.0, sym says.1))
literal_said (constants.Decimal thousandths) symbols say =
    let (symbol, only, says) = one_said (Decimal thousandths.0) symbols say in
    (symbol, only, (says.0, (λ i. record { 0 = sym says.1 i })))
literal_said (constants.Truth true) symbols say = let (symbol, only, says) = one_said (Fixed (sorts.Word keywords.True)) symbols say in (symbol, only, says)
literal_said (constants.Truth false) symbols say = let (symbol, only, says) = one_said (Fixed (sorts.Word keywords.False)) symbols say in (symbol, only, says)

pub literal_reprints : EachReprints IsLiteral SameLiteral literal_words
literal_reprints literal = record {
  sound = λ symbols fine is. literal_sound literal.constant is.symbol (fine_one symbols is.symbol is.only fine) is.written;
  again = λ old symbols is say.
      let (symbol, only, writes) = literal_said literal.constant symbols say in
      (record { constant = literal.constant; at = symbol.at }, record { symbol = symbol; only = only; written = writes; placed = refl }, refl);
}

pub expr_reprints : EachReprints IsExpr SameExpr expr_words
expr_reprints (exprs.Path path) = mapped exprs.Path path (λ p symbols is. is) (λ symbols is. is) (λ p same. same) (path_reprints path)
expr_reprints (exprs.Literal literal) = mapped exprs.Literal literal (λ p symbols is. is) (λ symbols is. is) (λ p same. same) (literal_reprints literal)

pub value_reprints : EachReprints IsWrittenValue SameValue value_words
value_reprints (values.Name name) = mapped values.Name name (λ p symbols is. is) (λ symbols is. is) (λ p same. same) (name_reprints name)
value_reprints (values.Literal literal) = mapped values.Literal literal (λ p symbols is. is) (λ symbols is. is) (λ p same. same) (literal_reprints literal)

pub arguments_reprint : EachReprints (λ arguments. IsMark sorts.ParenOpen · AreExpressions arguments · IsMark sorts.ParenClose) (AllSame SameExpr) argument_words
arguments_reprint arguments = after (mark sorts.ParenOpen refl) (before (listed expr_reprints arguments) (mark sorts.ParenClose refl))

pub creation_reprints : EachReprints IsCreation SameCreation creation_words
creation_reprints creation =
    mapped {X = ℕ × (Name × List Expr)} (λ p. record { at = p.0; class = p.1.0; arguments = p.1.1 }) (creation.at, (creation.class, creation.arguments))
    (λ p symbols is. is) (λ symbols is. is) (λ p same. same)
    (after_placed (sorts.Word keywords.New) creation.at refl (both (name_reprints creation.class) (arguments_reprint creation.arguments)))

pub init_reprints : EachReprints IsInit SameInit init_words
init_reprints (inits.Expr expr) = mapped inits.Expr expr (λ p symbols is. is) (λ symbols is. is) (λ p same. same) (expr_reprints expr)
init_reprints (inits.New creation) = mapped inits.New creation (λ p symbols is. is) (λ symbols is. is) (λ p same. same) (creation_reprints creation)

-- ---- types

abbrev IsBaseAt : ℕ × BaseType → List PlainSymbol → Type 0
IsBaseAt p = IsBase p.0 p.1

abbrev SameBases : ℕ × BaseType → ℕ × BaseType → Type 0
SameBases p q = SameBase p.1 q.1

base_reprints : (at : ℕ) (base : BaseType) → Reprints IsBaseAt SameBases (base_words base) (at, base)
base_reprints at bases.Int = mapped (λ at. (at, bases.Int)) at (λ p symbols is. is) (λ symbols is. is) (λ p same. tt) (placed (sorts.Word keywords.Int) at refl)
base_reprints at bases.Float = mapped (λ at. (at, bases.Float)) at (λ p symbols is. is) (λ symbols is. is) (λ p same. tt) (placed (sorts.Word keywords.Float) at refl)
base_reprints at bases.Bool = mapped (λ at. (at, bases.Bool)) at (λ p symbols is. is) (λ symbols is. is) (λ p same. tt) (placed (sorts.Word keywords.Bool) at refl)
base_reprints at bases.Str = mapped (λ at. (at, bases.Str)) at (λ p symbols is. is) (λ symbols is. is) (λ p same. tt) (placed (sorts.Word keywords.Str) at refl)
base_reprints at (bases.Named name) = record {
  sound = λ symbols fine is. (name_reprints name).sound symbols fine is.0;
  again = λ old symbols is say. let (other, named, same) = (name_reprints name).again old symbols is.0 say in ((other.at, bases.Named other), (named, refl), same);
}

bounds_reprint : EachReprints IsBounds SameBounds bounds_words
bounds_reprint bounds.All = record { sound = λ symbols fine is. tt; again = λ old symbols is say. (bounds.All, say, tt) }
bounds_reprint (bounds.Range at least greatest) =
    mapped {X = ℕ × (Value × Value)} (λ p. bounds.Range p.0 p.1.0 p.1.1) (at, (least, greatest)) (λ p symbols is. is) (λ symbols is. is) (λ p same. same)
    (after_placed sorts.BracketOpen at refl (both (value_reprints least) (may_then sorts.Comma (before (value_reprints greatest) (mark sorts.BracketClose refl)))))
bounds_reprint (bounds.Set at values) =
    mapped {X = ℕ × List Value} (λ p. bounds.Set p.0 p.1) (at, values) (λ p symbols is. is) (λ symbols is. is) (λ p same. same)
    (after_placed sorts.BraceOpen at refl (before (separated value_reprints values) (mark sorts.BraceClose refl)))

pub type_reprints : EachReprints IsType SameType type_words
type_reprints of =
    mapped {X = (ℕ × BaseType) × Bounds} (λ p. record { at = p.0.0; base = p.0.1; bounds = p.1 }) ((of.at, of.base), of.bounds) (λ p symbols is. is) (λ symbols is. is) (λ p same. same)
    (both (base_reprints of.at of.base) (bounds_reprint of.bounds))

pub typed_reprints : EachReprints IsTyped SameTyped typed_words
typed_reprints typed =
    mapped {X = types.Type × Name} (λ p. record { declared = p.0; name = p.1 }) (typed.declared, typed.name) (λ p symbols is. is) (λ symbols is. is) (λ p same. same)
    (both (type_reprints typed.declared) (name_reprints typed.name))
