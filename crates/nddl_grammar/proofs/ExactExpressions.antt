-- What the readers of names, values, expressions and types find is exactly what the grammar has.
use Rattle.std.proofs.Common.{◌≡◌, ℕ, Bool, true, false, ◌⊎◌, inl, inr, List, [], ◌∷◌, refl, sym, subst}
use Rattle.nddl_grammar.specs.declared.sort.Sort.{Sort}
use Rattle.eu_name.specs.declared.word.Reserved.TheVariants as keywords
use Rattle.nddl_grammar.specs.declared.sort.Sort.TheVariants as sorts
use Rattle.nddl_grammar.specs.Sorts.{same}
use Rattle.nddl_grammar.specs.Symbols.{PlainSymbol}
use Rattle.nddl_grammar.specs.Readers.{is, following}
use Rattle.nddl_grammar.specs.Exact.{IsSymbol, IsPlaced, AreFollowing, BeginsWith, IsExact}
use Rattle.nddl_grammar.proofs.Combine.{no_more, no_blocks, symbol_exact, mark_exact, place_exact, symbol_begins, mark_begins, place_begins, pair_begins, mapped_exact, relabelled_exact, widened_exact, choice_exact}
use Rattle.nddl_grammar.proofs.Many.{wider}
use Rattle.nddl_grammar.proofs.Choices.{Image, image_exact, image_begins, either_begins, following_exact, listed_exact, same_sort}
use Rattle.nddl_ast.specs.declared.expression.Constant.{Constant}
use Rattle.nddl_ast.specs.declared.expression.Constant.TheVariants as constants
use Rattle.nddl_ast.specs.declared.expression.Literal.{Literal}
use Rattle.nddl_ast.specs.declared.expression.Expr.{Expr}
use Rattle.nddl_ast.specs.declared.expression.Expr.TheVariants as exprs
use Rattle.nddl_ast.specs.declared.expression.Value.{Value}
use Rattle.nddl_ast.specs.declared.expression.Value.TheVariants as values
use Rattle.nddl_ast.specs.declared.expression.BaseType.{BaseType}
use Rattle.nddl_ast.specs.declared.expression.BaseType.TheVariants as bases
use Rattle.nddl_ast.specs.declared.expression.Init.{Init}
use Rattle.nddl_ast.specs.declared.expression.Init.TheVariants as inits
use Rattle.nddl_grammar.specs.Grammar.{IsWrittenName, IsPath, Writes, IsLiteral, IsExpr, IsWrittenValue, AreExpressions, IsCreation, IsInit, IsBase}
use Rattle.nddl_grammar.specs.Productions.{name, name_of, path, literal, number_of, decimal_of, truth_of, expr, value, begins_value, arguments, creation, init, placed, named, base}
use Rattle.nddl_grammar.proofs.Flat.{front_starts, flat, refuses, apart, ◌>>◌, closed}

pub name_exact : IsExact IsWrittenName no_blocks no_more name
unfolding name
name_exact = mapped_exact IsWrittenName no_blocks name_of (symbol_exact sorts.Name)
    (λ symbol word h. record { symbol = symbol; only = h.0; sorted = h.1; is = refl })
    (λ n word h. (h.symbol, h.is, (h.only, h.sorted)))
    (λ symbol. refl)

pub name_begins : (test : Sort → Bool) → test sorts.Name ≡ true → BeginsWith IsWrittenName test
name_begins test holds n word h = (h.symbol, [], h.only, subst (λ (sort : Sort). test sort ≡ true) (sym h.sorted) holds)

abbrev pub more_path : Sort → Bool
more_path = wider (is sorts.Point) no_more

pub path_exact : IsExact IsPath no_blocks more_path path
unfolding path
path_exact = mapped_exact IsPath no_blocks (λ p. record { first = p.0; rest = p.1 })
    (name_exact >> flat (following_exact sorts.Point name_exact (λ other test. refl)))
    (λ p word h. h) (λ path word h. ((path.first, path.rest), refl, h)) (λ p. refl)

pub path_begins : (test : Sort → Bool) → test sorts.Name ≡ true → BeginsWith IsPath test
path_begins test holds path word h = pair_begins (AreFollowing sorts.Point IsWrittenName) test (name_begins test holds) (path.first, path.rest) word h

-- ---- literals

abbrev Literals : Literal → List PlainSymbol → Type 0
Literals l word = Image number_of (IsSymbol sorts.Number) l word
    ⊎ (Image decimal_of (IsSymbol sorts.Decimal) l word ⊎ (Image (truth_of true) (IsPlaced (sorts.Word keywords.True)) l word ⊎ Image (truth_of false) (IsPlaced (sorts.Word keywords.False)) l word))

literals_to : (l : Literal) (word : List PlainSymbol) → Literals l word → IsLiteral l word
literals_to l word (inl (symbol, eq, h)) = subst (λ (l : Literal). IsLiteral l word) (sym eq) (record { symbol = symbol; only = h.0; written = (h.1, refl); placed = refl })
literals_to l word (inr (inl (symbol, eq, h))) = subst (λ (l : Literal). IsLiteral l word) (sym eq) (record { symbol = symbol; only = h.0; written = (h.1, refl); placed = refl })
literals_to l word (inr (inr (inl (at, eq, h)))) = subst (λ (l : Literal). IsLiteral l word) (sym eq) (record { symbol = h.symbol; only = h.only; written = h.sorted; placed = sym h.placed })
literals_to l word (inr (inr (inr (at, eq, h)))) = subst (λ (l : Literal). IsLiteral l word) (sym eq) (record { symbol = h.symbol; only = h.only; written = h.sorted; placed = sym h.placed })

literals_from : (constant : Constant) (at : ℕ) (word : List PlainSymbol) → IsLiteral (record { constant = constant; at = at }) word → Literals (record { constant = constant; at = at }) word
literals_from (constants.Number v) at word h = inl (h.symbol, (λ i. record { constant = constants.Number (h.written.1 i); at = h.placed i }), (h.only, h.written.0))
literals_from (constants.Decimal t) at word h = inr (inl (h.symbol, (λ i. record { constant = constants.Decimal (h.written.1 i); at = h.placed i }), (h.only, h.written.0)))
literals_from (constants.Truth true) at word h = inr (inr (inl (at, refl, record { symbol = h.symbol; only = h.only; sorted = h.written; placed = sym h.placed })))
literals_from (constants.Truth false) at word h = inr (inr (inr (at, refl, record { symbol = h.symbol; only = h.only; sorted = h.written; placed = sym h.placed })))

-- a literal begins with one of four sorts
literal_starts : (test : Sort → Bool) → test sorts.Number ≡ true → test sorts.Decimal ≡ true → test (sorts.Word keywords.True) ≡ true → test (sorts.Word keywords.False) ≡ true
    → (constant : Constant) (symbol : PlainSymbol) → Writes symbol constant → test symbol.sort ≡ true
literal_starts test n d t f (constants.Number v) symbol w = subst (λ (sort : Sort). test sort ≡ true) (sym w.0) n
literal_starts test n d t f (constants.Decimal v) symbol w = subst (λ (sort : Sort). test sort ≡ true) (sym w.0) d
literal_starts test n d t f (constants.Truth true) symbol w = subst (λ (sort : Sort). test sort ≡ true) (sym w) t
literal_starts test n d t f (constants.Truth false) symbol w = subst (λ (sort : Sort). test sort ≡ true) (sym w) f

pub literal_begins : (test : Sort → Bool) → test sorts.Number ≡ true → test sorts.Decimal ≡ true → test (sorts.Word keywords.True) ≡ true → test (sorts.Word keywords.False) ≡ true → BeginsWith IsLiteral test
literal_begins test n d t f l word h = (h.symbol, [], h.only, literal_starts test n d t f l.constant h.symbol h.written)

pub literal_exact : IsExact IsLiteral no_blocks no_more literal
unfolding literal same refuses
literal_exact = relabelled_exact IsLiteral no_blocks
    (choice_exact (is sorts.Number) (image_exact no_blocks number_of (symbol_exact sorts.Number) (λ x. refl))
    (choice_exact (is sorts.Decimal) (image_exact no_blocks decimal_of (symbol_exact sorts.Decimal) (λ x. refl))
    (choice_exact (is (sorts.Word keywords.True)) (image_exact no_blocks (truth_of true) (place_exact (sorts.Word keywords.True)) (λ x. refl)) (image_exact no_blocks (truth_of false) (place_exact (sorts.Word keywords.False)) (λ x. refl))
    (image_begins (truth_of true) (is (sorts.Word keywords.True)) (place_begins (sorts.Word keywords.True) (is (sorts.Word keywords.True)) refl))
    (apart (Image (truth_of false) (IsPlaced (sorts.Word keywords.False))) (is (sorts.Word keywords.True)) no_more (image_begins (truth_of false) (refuses (is (sorts.Word keywords.True))) (place_begins (sorts.Word keywords.False) (refuses (is (sorts.Word keywords.True))) refl))))
    (image_begins decimal_of (is sorts.Decimal) (symbol_begins sorts.Decimal (is sorts.Decimal) refl))
    (apart _ (is sorts.Decimal) no_more (either_begins (refuses (is sorts.Decimal)) (image_begins (truth_of true) _ (place_begins (sorts.Word keywords.True) _ refl)) (image_begins (truth_of false) _ (place_begins (sorts.Word keywords.False) _ refl)))))
    (image_begins number_of (is sorts.Number) (symbol_begins sorts.Number (is sorts.Number) refl))
    (apart _ (is sorts.Number) no_more (either_begins (refuses (is sorts.Number)) (image_begins decimal_of _ (symbol_begins sorts.Decimal _ refl)) (either_begins _ (image_begins (truth_of true) _ (place_begins (sorts.Word keywords.True) _ refl)) (image_begins (truth_of false) _ (place_begins (sorts.Word keywords.False) _ refl))))))
    literals_to
    (λ l word h. literals_from l.constant l.at word h)
    (λ x. refl)

-- ---- expressions and values

abbrev Exprs : Expr → List PlainSymbol → Type 0
Exprs e word = Image exprs.Path IsPath e word ⊎ Image exprs.Literal IsLiteral e word

exprs_to : (e : Expr) (word : List PlainSymbol) → Exprs e word → IsExpr e word
exprs_to e word (inl (p, eq, h)) = subst (λ (e : Expr). IsExpr e word) (sym eq) h
exprs_to e word (inr (l, eq, h)) = subst (λ (e : Expr). IsExpr e word) (sym eq) h

exprs_from : (e : Expr) (word : List PlainSymbol) → IsExpr e word → Exprs e word
exprs_from (exprs.Path p) word h = inl (p, refl, h)
exprs_from (exprs.Literal l) word h = inr (l, refl, h)

pub expr_exact : IsExact IsExpr no_blocks more_path expr
unfolding expr same refuses
expr_exact = relabelled_exact IsExpr no_blocks
    (choice_exact (is sorts.Name) (image_exact no_blocks exprs.Path path_exact (λ x. refl)) (image_exact no_blocks exprs.Literal (widened_exact more_path literal_exact (λ sort out. refl)) (λ x. refl))
    (image_begins exprs.Path (is sorts.Name) (path_begins (is sorts.Name) refl))
    (apart (Image exprs.Literal IsLiteral) (is sorts.Name) more_path (image_begins exprs.Literal (refuses (is sorts.Name)) (literal_begins (refuses (is sorts.Name)) refl refl refl refl))))
    exprs_to exprs_from (λ x. refl)

pub expr_begins : (test : Sort → Bool) → test sorts.Name ≡ true → test sorts.Number ≡ true → test sorts.Decimal ≡ true → test (sorts.Word keywords.True) ≡ true → test (sorts.Word keywords.False) ≡ true → BeginsWith IsExpr test
expr_begins test a n d t f (exprs.Path p) word h = path_begins test a p word h
expr_begins test a n d t f (exprs.Literal l) word h = literal_begins test n d t f l word h

abbrev Values : Value → List PlainSymbol → Type 0
Values e word = Image values.Name IsWrittenName e word ⊎ Image values.Literal IsLiteral e word

values_to : (e : Value) (word : List PlainSymbol) → Values e word → IsWrittenValue e word
values_to e word (inl (p, eq, h)) = subst (λ (e : Value). IsWrittenValue e word) (sym eq) h
values_to e word (inr (l, eq, h)) = subst (λ (e : Value). IsWrittenValue e word) (sym eq) h

values_from : (e : Value) (word : List PlainSymbol) → IsWrittenValue e word → Values e word
values_from (values.Name p) word h = inl (p, refl, h)
values_from (values.Literal l) word h = inr (l, refl, h)

pub value_exact : IsExact IsWrittenValue no_blocks no_more value
unfolding value same refuses
value_exact = relabelled_exact IsWrittenValue no_blocks
    (choice_exact (is sorts.Name) (image_exact no_blocks values.Name name_exact (λ x. refl)) (image_exact no_blocks values.Literal literal_exact (λ x. refl))
    (image_begins values.Name (is sorts.Name) (name_begins (is sorts.Name) refl))
    (apart (Image values.Literal IsLiteral) (is sorts.Name) no_more (image_begins values.Literal (refuses (is sorts.Name)) (literal_begins (refuses (is sorts.Name)) refl refl refl refl))))
    values_to values_from (λ x. refl)

abbrev pub more_arguments : Sort → Bool
more_arguments = wider begins_value (wider (is sorts.Comma) more_path)

pub comma_apart : (other : Sort) → is sorts.Comma other ≡ true → more_path other ≡ false
unfolding same
comma_apart other test = subst (λ (s : Sort). more_path s ≡ false) (sym (same_sort sorts.Comma other test)) refl

pub more_exprs_exact : IsExact (AreFollowing sorts.Comma IsExpr) no_blocks (wider (is sorts.Comma) more_path) (following sorts.Comma expr)
more_exprs_exact = flat (following_exact sorts.Comma expr_exact comma_apart)

pub arguments_exact : IsExact AreExpressions no_blocks more_arguments arguments
unfolding arguments
arguments_exact = flat (listed_exact begins_value sorts.Comma expr_exact (expr_begins begins_value refl refl refl refl refl) comma_apart)

-- ---- what variables begin as

pub creation_exact : IsExact IsCreation no_blocks no_more creation
unfolding creation same refuses
creation_exact = mapped_exact IsCreation no_blocks (λ p. record { at = p.0; class = p.1.0; arguments = p.1.1.1.0 })
    (place_exact (sorts.Word keywords.New) >> name_exact >> mark_exact sorts.ParenOpen >> closed arguments_exact (mark_exact sorts.ParenClose) (mark_begins sorts.ParenClose (refuses more_arguments) refl))
    (λ p word h. h)
    (λ c word h. ((c.at, (c.class, (tt, (c.arguments, tt)))), refl, h))
    (λ p. refl)

abbrev Inits : Init → List PlainSymbol → Type 0
Inits e word = Image inits.New IsCreation e word ⊎ Image inits.Expr IsExpr e word

inits_to : (e : Init) (word : List PlainSymbol) → Inits e word → IsInit e word
inits_to e word (inl (p, eq, h)) = subst (λ (e : Init). IsInit e word) (sym eq) h
inits_to e word (inr (l, eq, h)) = subst (λ (e : Init). IsInit e word) (sym eq) h

inits_from : (e : Init) (word : List PlainSymbol) → IsInit e word → Inits e word
inits_from (inits.New p) word h = inl (p, refl, h)
inits_from (inits.Expr l) word h = inr (l, refl, h)

creation_begins : (test : Sort → Bool) → test (sorts.Word keywords.New) ≡ true → BeginsWith IsCreation test
creation_begins test holds c word h = front_starts test (IsPlaced (sorts.Word keywords.New) c.at) _ (place_begins (sorts.Word keywords.New) test holds c.at) word h

pub init_exact : IsExact IsInit no_blocks more_path init
unfolding init same refuses
init_exact = relabelled_exact IsInit no_blocks
    (choice_exact (is (sorts.Word keywords.New)) (image_exact no_blocks inits.New (widened_exact more_path creation_exact (λ sort out. refl)) (λ x. refl)) (image_exact no_blocks inits.Expr expr_exact (λ x. refl))
    (image_begins inits.New (is (sorts.Word keywords.New)) (creation_begins (is (sorts.Word keywords.New)) refl))
    (apart (Image inits.Expr IsExpr) (is (sorts.Word keywords.New)) more_path (image_begins inits.Expr (refuses (is (sorts.Word keywords.New))) (expr_begins (refuses (is (sorts.Word keywords.New))) refl refl refl refl refl))))
    inits_to inits_from (λ x. refl)

-- ---- types

abbrev pub IsPlacedBase : ℕ × BaseType → List PlainSymbol → Type 0
IsPlacedBase both = IsBase both.0 both.1

abbrev Bases : ℕ × BaseType → List PlainSymbol → Type 0
Bases b word = Image (placed bases.Int) (IsPlaced (sorts.Word keywords.Int)) b word
    ⊎ (Image (placed bases.Float) (IsPlaced (sorts.Word keywords.Float)) b word
    ⊎ (Image (placed bases.Bool) (IsPlaced (sorts.Word keywords.Bool)) b word ⊎ (Image (placed bases.Str) (IsPlaced (sorts.Word keywords.Str)) b word ⊎ Image named IsWrittenName b word)))

bases_to : (b : ℕ × BaseType) (word : List PlainSymbol) → Bases b word → IsPlacedBase b word
bases_to b word (inl (at, eq, h)) = subst (λ (b : ℕ × BaseType). IsPlacedBase b word) (sym eq) h
bases_to b word (inr (inl (at, eq, h))) = subst (λ (b : ℕ × BaseType). IsPlacedBase b word) (sym eq) h
bases_to b word (inr (inr (inl (at, eq, h)))) = subst (λ (b : ℕ × BaseType). IsPlacedBase b word) (sym eq) h
bases_to b word (inr (inr (inr (inl (at, eq, h))))) = subst (λ (b : ℕ × BaseType). IsPlacedBase b word) (sym eq) h
bases_to b word (inr (inr (inr (inr (n, eq, h))))) = subst (λ (b : ℕ × BaseType). IsPlacedBase b word) (sym eq) (h, refl)

bases_from : (at : ℕ) (b : BaseType) (word : List PlainSymbol) → IsBase at b word → Bases (at, b) word
bases_from at bases.Int word h = inl (at, refl, h)
bases_from at bases.Float word h = inr (inl (at, refl, h))
bases_from at bases.Bool word h = inr (inr (inl (at, refl, h)))
bases_from at bases.Str word h = inr (inr (inr (inl (at, refl, h))))
bases_from at (bases.Named name) word h = inr (inr (inr (inr (name, (λ i. (h.1 i, bases.Named name)), h.0))))

pub base_begins : (test : Sort → Bool) → test (sorts.Word keywords.Int) ≡ true → test (sorts.Word keywords.Float) ≡ true → test (sorts.Word keywords.Bool) ≡ true → test (sorts.Word keywords.Str) ≡ true → test sorts.Name ≡ true
    → (at : ℕ) (b : BaseType) (word : List PlainSymbol) → IsBase at b word → (symbol : PlainSymbol) × (after : List PlainSymbol) × (word ≡ symbol ∷ after) × (test symbol.sort ≡ true)
base_begins test i f b s n at bases.Int word h = place_begins (sorts.Word keywords.Int) test i at word h
base_begins test i f b s n at bases.Float word h = place_begins (sorts.Word keywords.Float) test f at word h
base_begins test i f b s n at bases.Bool word h = place_begins (sorts.Word keywords.Bool) test b at word h
base_begins test i f b s n at bases.Str word h = place_begins (sorts.Word keywords.Str) test s at word h
base_begins test i f b s n at (bases.Named name) word h = name_begins test n name word h.0

pub base_exact : IsExact IsPlacedBase no_blocks no_more base
unfolding base same refuses
base_exact = relabelled_exact IsPlacedBase no_blocks
    (choice_exact (is (sorts.Word keywords.Int)) (image_exact no_blocks (placed bases.Int) (place_exact (sorts.Word keywords.Int)) (λ x. refl))
    (choice_exact (is (sorts.Word keywords.Float)) (image_exact no_blocks (placed bases.Float) (place_exact (sorts.Word keywords.Float)) (λ x. refl))
    (choice_exact (is (sorts.Word keywords.Bool)) (image_exact no_blocks (placed bases.Bool) (place_exact (sorts.Word keywords.Bool)) (λ x. refl))
    (choice_exact (is (sorts.Word keywords.Str)) (image_exact no_blocks (placed bases.Str) (place_exact (sorts.Word keywords.Str)) (λ x. refl)) (image_exact no_blocks named name_exact (λ x. refl))
    (image_begins (placed bases.Str) (is (sorts.Word keywords.Str)) (place_begins (sorts.Word keywords.Str) (is (sorts.Word keywords.Str)) refl))
    (apart _ (is (sorts.Word keywords.Str)) no_more (image_begins named _ (name_begins _ refl))))
    (image_begins (placed bases.Bool) (is (sorts.Word keywords.Bool)) (place_begins (sorts.Word keywords.Bool) (is (sorts.Word keywords.Bool)) refl))
    (apart _ (is (sorts.Word keywords.Bool)) no_more (either_begins _ (image_begins (placed bases.Str) _ (place_begins (sorts.Word keywords.Str) _ refl)) (image_begins named _ (name_begins _ refl)))))
    (image_begins (placed bases.Float) (is (sorts.Word keywords.Float)) (place_begins (sorts.Word keywords.Float) (is (sorts.Word keywords.Float)) refl))
    (apart _ (is (sorts.Word keywords.Float)) no_more (either_begins _ (image_begins (placed bases.Bool) _ (place_begins (sorts.Word keywords.Bool) _ refl)) (either_begins _ (image_begins (placed bases.Str) _ (place_begins (sorts.Word keywords.Str) _ refl)) (image_begins named _ (name_begins _ refl))))))
    (image_begins (placed bases.Int) (is (sorts.Word keywords.Int)) (place_begins (sorts.Word keywords.Int) (is (sorts.Word keywords.Int)) refl))
    (apart _ (is (sorts.Word keywords.Int)) no_more
    (either_begins _ (image_begins (placed bases.Float) _ (place_begins (sorts.Word keywords.Float) _ refl))
    (either_begins _ (image_begins (placed bases.Bool) _ (place_begins (sorts.Word keywords.Bool) _ refl)) (either_begins _ (image_begins (placed bases.Str) _ (place_begins (sorts.Word keywords.Str) _ refl)) (image_begins named _ (name_begins _ refl)))))))
    bases_to (λ b word h. bases_from b.0 b.1 word h) (λ x. refl)
