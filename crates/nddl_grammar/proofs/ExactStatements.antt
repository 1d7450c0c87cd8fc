-- What the readers of types and of statements without blocks find is exactly what the grammar has.
use Rattle.std.proofs.Common.{◌≡◌, ℕ, Bool, true, false, ◌||◌, Option, Some, None, ◌⊎◌, inl, inr, List, [], ◌∷◌, ◌++◌, refl, sym, ap, subst, ◌∙◌}
use Rattle.nddl_grammar.specs.declared.sort.Sort.{Sort}
use Rattle.eu_name.specs.declared.word.Reserved.TheVariants as keywords
use Rattle.nddl_grammar.specs.declared.sort.Sort.TheVariants as sorts
use Rattle.nddl_grammar.specs.Sorts.{same}
use Rattle.nddl_grammar.specs.Symbols.{PlainSymbol}
use Rattle.nddl_grammar.specs.Readers.{begins, is}
use Rattle.nddl_grammar.specs.Exact.{◌·◌, IsPlaced, IsMark, AreFollowing, AreSeparated, BeginsWith, IsExact}
use Rattle.nddl_grammar.proofs.Sequence.{Paired}
use Rattle.nddl_grammar.proofs.Lists.{regroup, append_none}
use Rattle.nddl_grammar.proofs.Combine.{no_more, no_blocks, mark_exact, place_exact, mark_begins, place_begins, pair_begins, mapped_exact, relabelled_exact, widened_exact, choice_exact, EmptyFor, nothing_exact, MarkOf}
use Rattle.nddl_grammar.proofs.Many.{wider, begins_first, begins_second, many_follow, or_one, or_second}
use Rattle.nddl_grammar.proofs.Choices.{Image, image_exact, image_begins, either_begins, Bound, bound_exact, bound_begins, Beside, beside_exact, May, may_mark_exact, after_exact, after_begins, separated_exact, same_sort}
use Rattle.nddl_ast.specs.declared.name.Name.{Name}
use Rattle.nddl_ast.specs.declared.name.Path.{Path}
use Rattle.nddl_ast.specs.declared.expression.Expr.{Expr}
use Rattle.nddl_ast.specs.declared.expression.Expr.TheVariants as exprs
use Rattle.nddl_ast.specs.declared.expression.Value.{Value}
use Rattle.nddl_ast.specs.declared.expression.Value.TheVariants as values
use Rattle.nddl_ast.specs.declared.expression.BaseType.TheVariants as bases
use Rattle.nddl_ast.specs.declared.expression.Bounds.{Bounds}
use Rattle.nddl_ast.specs.declared.expression.Bounds.TheVariants as bounded
use Rattle.nddl_ast.specs.declared.expression.Init.{Init}
use Rattle.nddl_ast.specs.declared.statement.Variable.{Variable}
use Rattle.nddl_ast.specs.declared.statement.Call.{Call}
use Rattle.nddl_ast.specs.declared.declaration.Typed.{Typed}
use Rattle.nddl_grammar.specs.declared.statements.SimpleStmt.{SimpleStmt}
use Rattle.nddl_grammar.specs.declared.statements.SimpleStmt.TheVariants as plains
use Rattle.nddl_grammar.specs.Grammar.{IsWrittenName, IsPath, IsExpr, IsWrittenValue, AreExpressions, IsInit, IsBase, IsBounds, IsType, IsTyped, IsStart, IsVariable, IsCall, IsAsk}
use Rattle.nddl_grammar.specs.Productions.{range, set, bounds, type_of, type_named, typed, field, field_after, start, variable, variable_after, call_end, dotted_after, call_after, asks, calls, behind_path, inside_path, inside, parens_after, plain_after}
use Rattle.nddl_grammar.proofs.Flat.{Starts, front_starts, flat, refuses, apart, ◌>>◌, closed}
use Rattle.nddl_grammar.proofs.ExactExpressions.{name_exact, name_begins, more_path, path_exact, path_begins, literal_begins, value_exact, more_arguments, more_exprs_exact, arguments_exact, init_exact, base_begins, base_exact}

-- ---- grouping

pub to_right : (P Q R : List PlainSymbol → Type 0) (word : List PlainSymbol) → ((P · Q) · R) word → (P · Q · R) word
to_right P Q R word h =
    (h.3.0, h.3.1 ++ h.1, h.2 ∙ (ap (λ (l : List PlainSymbol). l ++ h.1) h.3.2 ∙ regroup h.3.0 h.3.1 h.1), h.3.3, (h.3.1, h.1, refl, h.3.4, h.4))

pub to_left : (P Q R : List PlainSymbol → Type 0) (word : List PlainSymbol) → (P · Q · R) word → ((P · Q) · R) word
to_left P Q R word h =
    (h.0 ++ h.4.0, h.4.1, h.2 ∙ (ap (λ (l : List PlainSymbol). h.0 ++ l) h.4.2 ∙ sym (regroup h.0 h.4.0 h.4.1)), (h.0, h.4.0, refl, h.3, h.4.3), h.4.4)

pub in_front : (P P' Q : List PlainSymbol → Type 0) → ((word : List PlainSymbol) → P word → P' word) → (word : List PlainSymbol) → (P · Q) word → (P' · Q) word
in_front P P' Q f word h = (h.0, h.1, h.2, f h.0 h.3, h.4)

pub in_back : (P Q Q' : List PlainSymbol → Type 0) → ((word : List PlainSymbol) → Q word → Q' word) → (word : List PlainSymbol) → (P · Q) word → (P · Q') word
in_back P Q Q' f word h = (h.0, h.1, h.2, h.3, f h.1 h.4)

pub still : (test : Sort → Bool) (word after : List PlainSymbol) → begins test word ≡ false → begins test after ≡ false → begins test (word ++ after) ≡ false
still test [] after p q = q
still test (c ∷ word) after p q = p

-- ---- types

value_begins : (test : Sort → Bool) → test sorts.Name ≡ true → test sorts.Number ≡ true → test sorts.Decimal ≡ true → test (sorts.Word keywords.True) ≡ true → test (sorts.Word keywords.False) ≡ true → BeginsWith IsWrittenValue test
value_begins test a n d t f (values.Name p) word h = name_begins test a p word h
value_begins test a n d t f (values.Literal l) word h = literal_begins test n d t f l word h

abbrev RangeParts : ℕ × (Value × (Unit {0} × (Value × Unit {0}))) → List PlainSymbol → Type 0
RangeParts = Paired (IsPlaced sorts.BracketOpen) (Paired IsWrittenValue (Paired (May sorts.Comma) (Paired IsWrittenValue (MarkOf sorts.BracketClose))))

abbrev range_of : ℕ × (Value × (Unit {0} × (Value × Unit {0}))) → Bounds
range_of p = bounded.Range p.0 p.1.0 p.1.1.1.0

abbrev SetParts : ℕ × (List Value × Unit {0}) → List PlainSymbol → Type 0
SetParts = Paired (IsPlaced sorts.BraceOpen) (Paired (AreSeparated sorts.Comma IsWrittenValue) (MarkOf sorts.BraceClose))

abbrev set_of : ℕ × (List Value × Unit {0}) → Bounds
set_of p = bounded.Set p.0 p.1.0

range_exact : IsExact (Image range_of RangeParts) no_blocks no_more range
unfolding range same refuses
range_exact = image_exact no_blocks range_of
    (place_exact sorts.BracketOpen >> value_exact >> closed (may_mark_exact sorts.Comma) (value_exact >> mark_exact sorts.BracketClose) (pair_begins (MarkOf sorts.BracketClose) (refuses (is sorts.Comma)) (value_begins (refuses (is sorts.Comma)) refl refl refl refl refl)))
    (λ x. refl)

set_exact : IsExact (Image set_of SetParts) no_blocks no_more set
unfolding set same refuses
set_exact = image_exact no_blocks set_of
    (place_exact sorts.BraceOpen >> closed (flat (separated_exact sorts.Comma value_exact (λ other test. refl))) (mark_exact sorts.BraceClose) (mark_begins sorts.BraceClose (refuses (wider (is sorts.Comma) no_more)) refl))
    (λ x. refl)

abbrev pub more_bounds : Sort → Bool
more_bounds = wider (is sorts.BracketOpen) (is sorts.BraceOpen)

abbrev AllBounds : Bounds → List PlainSymbol → Type 0
AllBounds b word = Image range_of RangeParts b word ⊎ (Image set_of SetParts b word ⊎ EmptyFor bounded.All b word)

bounds_to : (b : Bounds) (word : List PlainSymbol) → AllBounds b word → IsBounds b word
bounds_to b word (inl (p, eq, h)) = subst (λ (b : Bounds). IsBounds b word) (sym eq) h
bounds_to b word (inr (inl (p, eq, h))) = subst (λ (b : Bounds). IsBounds b word) (sym eq) h
bounds_to b word (inr (inr (eq, h))) = subst (λ (b : Bounds). IsBounds b word) (sym eq) h

bounds_from : (b : Bounds) (word : List PlainSymbol) → IsBounds b word → AllBounds b word
bounds_from bounded.All word h = inr (inr (refl, h))
bounds_from (bounded.Range at least greatest) word h = inl ((at, (least, (tt, (greatest, tt)))), refl, h)
bounds_from (bounded.Set at values) word h = inr (inl ((at, (values, tt)), refl, h))

range_begins : (test : Sort → Bool) → test sorts.BracketOpen ≡ true → BeginsWith (Image range_of RangeParts) test
range_begins test holds b word (p, eq, h) = front_starts test (IsPlaced sorts.BracketOpen p.0) _ (place_begins sorts.BracketOpen test holds p.0) word h

set_begins : (test : Sort → Bool) → test sorts.BraceOpen ≡ true → BeginsWith (Image set_of SetParts) test
set_begins test holds b word (p, eq, h) = front_starts test (IsPlaced sorts.BraceOpen p.0) _ (place_begins sorts.BraceOpen test holds p.0) word h

pub aside_empty : {X : Type 0} (x : X) (test : Sort → Bool) (y : X) (word after : List PlainSymbol) → EmptyFor x y word → begins test after ≡ false → begins test (word ++ after) ≡ false
aside_empty x test y word after h out = subst (λ (l : List PlainSymbol). begins test (l ++ after) ≡ false) (sym h.1) out

pub bounds_exact : IsExact IsBounds no_blocks more_bounds bounds
unfolding bounds same refuses
bounds_exact = relabelled_exact IsBounds no_blocks
    (choice_exact (is sorts.BracketOpen) (widened_exact more_bounds range_exact (λ sort out. refl))
    (choice_exact (is sorts.BraceOpen) (widened_exact more_bounds set_exact (λ sort out. refl)) (nothing_exact bounded.All no_blocks more_bounds refl)
    (set_begins (is sorts.BraceOpen) refl)
    (λ y word after h out. aside_empty bounded.All (is sorts.BraceOpen) y word after h (begins_second (is sorts.BracketOpen) (is sorts.BraceOpen) after out)))
    (range_begins (is sorts.BracketOpen) refl)
    (λ y word after h out. elim h as (λ f. begins (is sorts.BracketOpen) (word ++ after) ≡ false) [
      | inl g ↦ apart (Image set_of SetParts) (is sorts.BracketOpen) more_bounds (set_begins (refuses (is sorts.BracketOpen)) refl) y word after g out
      | inr g ↦ aside_empty bounded.All (is sorts.BracketOpen) y word after g (begins_first (is sorts.BracketOpen) (is sorts.BraceOpen) after out)
    ]))
    bounds_to bounds_from (λ x. refl)

pub type_exact : IsExact IsType no_blocks more_bounds type_of
unfolding type_of
type_exact = mapped_exact IsType no_blocks (λ p. record { at = p.0.0; base = p.0.1; bounds = p.1 }) (base_exact >> bounds_exact)
    (λ p word h. h) (λ t word h. (((t.at, t.base), t.bounds), refl, h)) (λ p. refl)

pub type_begins : (test : Sort → Bool) → test (sorts.Word keywords.Int) ≡ true → test (sorts.Word keywords.Float) ≡ true → test (sorts.Word keywords.Bool) ≡ true → test (sorts.Word keywords.Str) ≡ true → test sorts.Name ≡ true → BeginsWith IsType test
type_begins test i f b s n t word h = front_starts test (IsBase t.at t.base) (IsBounds t.bounds) (base_begins test i f b s n t.at t.base) word h

pub typed_exact : IsExact IsTyped no_blocks no_more typed
unfolding typed same refuses
typed_exact = mapped_exact IsTyped no_blocks (λ p. record { declared = p.0; name = p.1 }) (closed type_exact name_exact (name_begins (refuses more_bounds) refl))
    (λ p word h. h) (λ t word h. ((t.declared, t.name), refl, h)) (λ p. refl)

-- a field: a type, a name and `;`
abbrev pub IsField : Typed → List PlainSymbol → Type 0
IsField typed = IsTyped typed · IsMark sorts.Semicolon

pub field_exact : IsExact IsField no_blocks no_more field
unfolding field
field_exact = mapped_exact IsField no_blocks (λ p. p.0) (typed_exact >> mark_exact sorts.Semicolon) (λ p word h. h) (λ t word h. ((t, tt), refl, h)) (λ p. refl)

pub typed_begins : (test : Sort → Bool) → test (sorts.Word keywords.Int) ≡ true → test (sorts.Word keywords.Float) ≡ true → test (sorts.Word keywords.Bool) ≡ true → test (sorts.Word keywords.Str) ≡ true → test sorts.Name ≡ true → BeginsWith IsTyped test
typed_begins test i f b s n t word h = front_starts test (IsType t.declared) (IsWrittenName t.name) (type_begins test i f b s n t.declared) word h

pub field_begins : (test : Sort → Bool) → test (sorts.Word keywords.Int) ≡ true → test (sorts.Word keywords.Float) ≡ true → test (sorts.Word keywords.Bool) ≡ true → test (sorts.Word keywords.Str) ≡ true → test sorts.Name ≡ true → BeginsWith IsField test
field_begins test i f b s n t word h = front_starts test (IsTyped t) (IsMark sorts.Semicolon) (typed_begins test i f b s n t) word h

-- ---- variables

abbrev pub more_start : Sort → Bool
more_start = wider (is sorts.Assign) more_path

abbrev Starting : Option Init → List PlainSymbol → Type 0
Starting o word = Image Some (λ i. IsMark sorts.Assign · IsInit i) o word ⊎ EmptyFor None o word

start_to : (o : Option Init) (word : List PlainSymbol) → Starting o word → IsStart o word
start_to o word (inl (i, eq, h)) = subst (λ (o : Option Init). IsStart o word) (sym eq) h
start_to o word (inr (eq, h)) = subst (λ (o : Option Init). IsStart o word) (sym eq) h

start_from : (o : Option Init) (word : List PlainSymbol) → IsStart o word → Starting o word
start_from None word h = inr (refl, h)
start_from (Some i) word h = inl (i, refl, h)

pub start_exact : IsExact IsStart no_blocks more_start start
unfolding start same refuses
start_exact = relabelled_exact IsStart no_blocks
    (choice_exact (is sorts.Assign) (widened_exact more_start (image_exact no_blocks Some (after_exact sorts.Assign init_exact) (λ x. refl)) (λ sort out. or_second (is sorts.Assign sort) (more_path sort) out)) (nothing_exact None no_blocks more_start refl)
    (image_begins Some (is sorts.Assign) (after_begins IsInit sorts.Assign (is sorts.Assign) refl))
    (λ y word after h out. aside_empty None (is sorts.Assign) y word after h (begins_first (is sorts.Assign) more_path after out)))
    start_to start_from (λ x. refl)

pub variable_exact : IsExact IsVariable no_blocks no_more variable
unfolding variable same refuses
variable_exact = mapped_exact IsVariable no_blocks (λ p. record { declared = p.0; name = p.1.0; init = p.1.1.0 })
    (closed type_exact (name_exact >> closed start_exact (mark_exact sorts.Semicolon) (mark_begins sorts.Semicolon (refuses more_start) refl)) (pair_begins (Paired IsStart (MarkOf sorts.Semicolon)) (refuses more_bounds) (name_begins (refuses more_bounds) refl)))
    (λ p word h. h) (λ v word h. ((v.declared, (v.name, (v.init, tt))), refl, h)) (λ p. refl)

pub variable_begins : (test : Sort → Bool) → test (sorts.Word keywords.Int) ≡ true → test (sorts.Word keywords.Float) ≡ true → test (sorts.Word keywords.Bool) ≡ true → test (sorts.Word keywords.Str) ≡ true → test sorts.Name ≡ true → BeginsWith IsVariable test
variable_begins test i f b s n v word h = front_starts test (IsType v.declared) _ (type_begins test i f b s n v.declared) word h

abbrev pub VariableParts : Bounds × (Name × (Option Init × Unit {0})) → List PlainSymbol → Type 0
VariableParts = Paired IsBounds (Paired IsWrittenName (Paired IsStart (MarkOf sorts.Semicolon)))

abbrev pub variable_with : Name → Bounds × (Name × (Option Init × Unit {0})) → Variable
variable_with first p = record { declared = type_named first p.0; name = p.1.0; init = p.1.1.0 }

variable_after_exact : (first : Name) → IsExact (Image (variable_with first) VariableParts) no_blocks no_more (variable_after first)
unfolding variable_after same refuses
variable_after_exact first = image_exact no_blocks (variable_with first)
    (closed bounds_exact (name_exact >> closed start_exact (mark_exact sorts.Semicolon) (mark_begins sorts.Semicolon (refuses more_start) refl)) (pair_begins (Paired IsStart (MarkOf sorts.Semicolon)) (refuses more_bounds) (name_begins (refuses more_bounds) refl)))
    (λ p. refl)

-- bounds, or what is behind them
pub bounds_then : (test : Sort → Bool) → test sorts.BracketOpen ≡ true → test sorts.BraceOpen ≡ true → test sorts.Name ≡ true → (b : Bounds) (n : Name) (R : List PlainSymbol → Type 0) (word : List PlainSymbol) → (IsBounds b · IsWrittenName n · R) word → Starts test word
bounds_then test p q r bounded.All n R word h =
    let back : word ≡ h.1 = h.2 ∙ ap (λ (l : List PlainSymbol). l ++ h.1) h.3 in
    let head = front_starts test (IsWrittenName n) R (name_begins test r n) h.1 h.4 in
    (head.0, head.1, back ∙ head.2, head.3)
bounds_then test p q r (bounded.Range at least greatest) n R word h =
    front_starts test (IsBounds (bounded.Range at least greatest)) _ (λ front g. front_starts test (IsPlaced sorts.BracketOpen at) _ (place_begins sorts.BracketOpen test p at) front g) word h
bounds_then test p q r (bounded.Set at values) n R word h =
    front_starts test (IsBounds (bounded.Set at values)) _ (λ front g. front_starts test (IsPlaced sorts.BraceOpen at) _ (place_begins sorts.BraceOpen test q at) front g) word h

variable_after_begins : (test : Sort → Bool) → test sorts.BracketOpen ≡ true → test sorts.BraceOpen ≡ true → test sorts.Name ≡ true → (first : Name) → BeginsWith (Image (variable_with first) VariableParts) test
variable_after_begins test p q r first v word (x, eq, h) = bounds_then test p q r x.0 x.1.0 _ word h

abbrev pub FieldParts : Bounds × (Name × Unit {0}) → List PlainSymbol → Type 0
FieldParts = Paired IsBounds (Paired IsWrittenName (MarkOf sorts.Semicolon))

abbrev pub field_with : Name → Bounds × (Name × Unit {0}) → Typed
field_with first p = record { declared = type_named first p.0; name = p.1.0 }

pub field_after_exact : (first : Name) → IsExact (Image (field_with first) FieldParts) no_blocks no_more (field_after first)
unfolding field_after same refuses
field_after_exact first = image_exact no_blocks (field_with first)
    (closed bounds_exact (name_exact >> mark_exact sorts.Semicolon) (pair_begins (MarkOf sorts.Semicolon) (refuses more_bounds) (name_begins (refuses more_bounds) refl))) (λ p. refl)

pub field_after_begins : (test : Sort → Bool) → test sorts.BracketOpen ≡ true → test sorts.BraceOpen ≡ true → test sorts.Name ≡ true → (first : Name) → BeginsWith (Image (field_with first) FieldParts) test
field_after_begins test p q r first v word (x, eq, h) = bounds_then test p q r x.0 x.1.0 _ word h

-- ---- calls

abbrev pub IsCallEnd : List Expr → List PlainSymbol → Type 0
IsCallEnd arguments = IsMark sorts.ParenOpen · AreExpressions arguments · IsMark sorts.ParenClose · IsMark sorts.Semicolon

pub call_end_exact : IsExact IsCallEnd no_blocks no_more call_end
unfolding call_end same refuses
call_end_exact = mapped_exact IsCallEnd no_blocks (λ p. p.1.0)
    (mark_exact sorts.ParenOpen >> closed arguments_exact (mark_exact sorts.ParenClose >> mark_exact sorts.Semicolon) (pair_begins (MarkOf sorts.Semicolon) (refuses more_arguments) (mark_begins sorts.ParenClose (refuses more_arguments) refl)))
    (λ p word h. h) (λ list word h. ((tt, (list, (tt, tt))), refl, h)) (λ p. refl)

pub call_end_begins : (test : Sort → Bool) → test sorts.ParenOpen ≡ true → BeginsWith IsCallEnd test
call_end_begins test holds list word h = front_starts test (IsMark sorts.ParenOpen) _ (mark_begins sorts.ParenOpen test holds tt) word h

abbrev Names : List Name → List PlainSymbol → Type 0
Names names = IsMark sorts.Point · AreSeparated sorts.Point IsWrittenName names

abbrev pub DottedParts : List Name × List Expr → List PlainSymbol → Type 0
DottedParts = Paired Names IsCallEnd

abbrev pub dotted_with : Name → List Name × List Expr → Call
dotted_with first p = record { path = record { first = first; rest = p.0 }; arguments = p.1 }

pub dotted_after_exact : (first : Name) → IsExact (Image (dotted_with first) DottedParts) no_blocks no_more (dotted_after first)
unfolding dotted_after same refuses
dotted_after_exact first = image_exact no_blocks (dotted_with first)
    (closed (after_exact sorts.Point (flat (separated_exact sorts.Point name_exact (λ other test. refl)))) call_end_exact (call_end_begins (refuses more_path) refl)) (λ p. refl)

pub dotted_begins : (test : Sort → Bool) → test sorts.Point ≡ true → (first : Name) → BeginsWith (Image (dotted_with first) DottedParts) test
dotted_begins test holds first c word (p, eq, h) = front_starts test (Names p.0) _ (λ front g. front_starts test (IsMark sorts.Point) _ (mark_begins sorts.Point test holds tt) front g) word h

abbrev pub call_with : Name → List Expr → Call
call_with first arguments = record { path = record { first = first; rest = [] }; arguments = arguments }

pub call_after_exact : (first : Name) → IsExact (Image (call_with first) IsCallEnd) no_blocks no_more (call_after first)
unfolding call_after
call_after_exact first = image_exact no_blocks (call_with first) call_end_exact (λ p. refl)

-- ---- what stands between parentheses

abbrev pub path_first : Path → List Expr → List Expr
path_first path more = (exprs.Path path ∷ []) ++ more

abbrev pub BehindPath : Name → Path → SimpleStmt → List PlainSymbol → Type 0
BehindPath word path y w = Image (asks word path) IsWrittenName y w ⊎ Image (calls word) (Image (path_first path) (AreFollowing sorts.Comma IsExpr)) y w

abbrev more_behind : Sort → Bool
more_behind = wider (wider (is sorts.Comma) (is sorts.Name)) more_path

comma_refuses : (test : Sort → Bool) → test sorts.Comma ≡ false → (other : Sort) → is sorts.Comma other ≡ true → test other ≡ false
comma_refuses test p other holds = subst (λ (s : Sort). test s ≡ false) (sym (same_sort sorts.Comma other holds)) p

middle_out : (a b c : Bool) → (a || b) || c ≡ false → a || c ≡ false
middle_out true b c p = absurd cc
middle_out false true c p = absurd cc
middle_out false false c p = p

behind_path_exact : (word : Name) (path : Path) → IsExact (BehindPath word path) no_blocks more_behind (behind_path word path)
unfolding behind_path same refuses
behind_path_exact word path = choice_exact (is sorts.Name)
    (widened_exact more_behind (image_exact no_blocks (asks word path) name_exact (λ x. refl)) (λ sort out. refl))
    (widened_exact more_behind (image_exact no_blocks (calls word) (image_exact no_blocks (path_first path) more_exprs_exact (λ x. refl)) (λ x. refl)) (λ sort out. middle_out (is sorts.Comma sort) (is sorts.Name sort) (more_path sort) out))
    (image_begins (asks word path) (is sorts.Name) (name_begins (is sorts.Name) refl))
    (λ y w after h out.
    many_follow (λ x. IsMark sorts.Comma · IsExpr x) (is sorts.Comma) (is sorts.Name) (after_begins IsExpr sorts.Comma (is sorts.Comma) refl) (comma_refuses (is sorts.Name) refl)
    h.2.0 w after h.2.2 (begins_first (wider (is sorts.Comma) (is sorts.Name)) more_path after out))

out_comma : (after : List PlainSymbol) → begins more_behind after ≡ false → begins (wider (is sorts.Comma) more_path) after ≡ false
out_comma [] out = refl
out_comma (c ∷ after) out = middle_out (is sorts.Comma c.sort) (is sorts.Name c.sort) (more_path c.sort) out

abbrev pub InsidePath : Name → SimpleStmt → List PlainSymbol → Type 0
InsidePath word = Bound IsPath (BehindPath word)

inside_path_exact : (word : Name) → IsExact (InsidePath word) no_blocks more_behind (inside_path word)
unfolding inside_path same refuses
inside_path_exact word = bound_exact (BehindPath word) no_blocks more_behind (behind_path word) path_exact (behind_path_exact word)
    (λ path y w after h out. elim h as (λ f. begins more_path (w ++ after) ≡ false) [
      | inl g ↦ apart (Image (asks word path) IsWrittenName) more_path more_behind (image_begins (asks word path) (refuses more_path) (name_begins (refuses more_path) refl)) y w after g out
      | inr g ↦ many_follow (λ x. IsMark sorts.Comma · IsExpr x) (is sorts.Comma) more_path (after_begins IsExpr sorts.Comma (is sorts.Comma) refl) (comma_refuses more_path refl) g.2.0 w after g.2.2 (out_comma after out)
    ])

abbrev more_inside : Sort → Bool
more_inside = wider more_behind more_arguments

abbrev pub Inside : Name → SimpleStmt → List PlainSymbol → Type 0
Inside word y w = InsidePath word y w ⊎ Beside (is sorts.Name) (Image (calls word) AreExpressions) y w

or_name : (sort : Sort) → more_inside sort ≡ false → is sorts.Name sort ≡ false
or_name sort out = or_second (is sorts.Comma sort) (is sorts.Name sort) (or_one (is sorts.Comma sort || is sorts.Name sort) (more_path sort) (or_one (more_behind sort) (more_arguments sort) out))

no_name : (after : List PlainSymbol) → begins more_inside after ≡ false → begins (is sorts.Name) after ≡ false
no_name [] out = refl
no_name (c ∷ after) out = or_name c.sort out

inside_exact : (word : Name) → IsExact (Inside word) no_blocks more_inside (inside word)
unfolding inside same refuses
inside_exact word = beside_exact (is sorts.Name)
    (widened_exact more_inside (inside_path_exact word) (λ sort out. or_one (more_behind sort) (more_arguments sort) out))
    (widened_exact more_inside (image_exact no_blocks (calls word) arguments_exact (λ x. refl)) (λ sort out. or_second (more_behind sort) (more_arguments sort) out))
    (bound_begins (BehindPath word) (is sorts.Name) (path_begins (is sorts.Name) refl))
    (λ x w after h none out. still (is sorts.Name) w after none (no_name after out))

abbrev ParensParts : Name → Unit {0} × (SimpleStmt × (Unit {0} × Unit {0})) → List PlainSymbol → Type 0
ParensParts word = Paired (MarkOf sorts.ParenOpen) (Paired (Inside word) (Paired (MarkOf sorts.ParenClose) (MarkOf sorts.Semicolon)))

abbrev parens_with : Unit {0} × (SimpleStmt × (Unit {0} × Unit {0})) → SimpleStmt
parens_with p = p.1.0

parens_after_exact : (word : Name) → IsExact (Image parens_with (ParensParts word)) no_blocks no_more (parens_after word)
unfolding parens_after same refuses
parens_after_exact word = image_exact no_blocks parens_with
    (mark_exact sorts.ParenOpen >> closed (inside_exact word) (mark_exact sorts.ParenClose >> mark_exact sorts.Semicolon) (pair_begins (MarkOf sorts.Semicolon) (refuses more_inside) (mark_begins sorts.ParenClose (refuses more_inside) refl)))
    (λ p. refl)

parens_begins : (test : Sort → Bool) → test sorts.ParenOpen ≡ true → (word : Name) → BeginsWith (Image parens_with (ParensParts word)) test
parens_begins test holds word y w (p, eq, h) = front_starts test (IsMark sorts.ParenOpen) _ (mark_begins sorts.ParenOpen test holds tt) w h

-- ---- behind a name

abbrev pub PlainAfter : Name → SimpleStmt → List PlainSymbol → Type 0
PlainAfter first y w = Image parens_with (ParensParts first) y w ⊎ (Image plains.Call (Image (dotted_with first) DottedParts) y w ⊎ Image plains.Variable (Image (variable_with first) VariableParts) y w)

pub plain_after_exact : (first : Name) → IsExact (PlainAfter first) no_blocks no_more (plain_after first)
unfolding plain_after same refuses
plain_after_exact first = choice_exact (is sorts.ParenOpen) (parens_after_exact first)
    (choice_exact (is sorts.Point) (image_exact no_blocks plains.Call (dotted_after_exact first) (λ x. refl)) (image_exact no_blocks plains.Variable (variable_after_exact first) (λ x. refl))
    (image_begins plains.Call (is sorts.Point) (dotted_begins (is sorts.Point) refl first))
    (apart (Image plains.Variable (Image (variable_with first) VariableParts)) (is sorts.Point) no_more (image_begins plains.Variable (refuses (is sorts.Point)) (variable_after_begins (refuses (is sorts.Point)) refl refl refl first))))
    (parens_begins (is sorts.ParenOpen) refl first)
    (apart (λ y w. Image plains.Call (Image (dotted_with first) DottedParts) y w ⊎ Image plains.Variable (Image (variable_with first) VariableParts) y w) (is sorts.ParenOpen) no_more
    (either_begins (refuses (is sorts.ParenOpen)) (image_begins plains.Call (refuses (is sorts.ParenOpen)) (dotted_begins (refuses (is sorts.ParenOpen)) refl first)) (image_begins plains.Variable (refuses (is sorts.ParenOpen)) (variable_after_begins (refuses (is sorts.ParenOpen)) refl refl refl first))))

pub plain_after_begins : (test : Sort → Bool) → test sorts.ParenOpen ≡ true → test sorts.Point ≡ true → test sorts.BracketOpen ≡ true → test sorts.BraceOpen ≡ true → test sorts.Name ≡ true → (first : Name) → BeginsWith (PlainAfter first) test
plain_after_begins test o d p q r first = either_begins test (parens_begins test o first) (either_begins test (image_begins plains.Call test (dotted_begins test d first)) (image_begins plains.Variable test (variable_after_begins test p q r first)))

abbrev pub IsPlain : SimpleStmt → List PlainSymbol → Type 0
IsPlain (plains.Variable v) = IsVariable v
IsPlain (plains.Call c) = IsCall c
IsPlain (plains.Ask a) = IsAsk a

-- a name alone is a path
pub path_of_name : (n : Name) (word : List PlainSymbol) → IsWrittenName n word → IsPath (record { first = n; rest = [] }) word
path_of_name n word h = (word, [], sym (append_none word), h, refl)

pub name_of_path : (n : Name) (word : List PlainSymbol) → IsPath (record { first = n; rest = [] }) word → IsWrittenName n word
name_of_path n word h = subst (λ (l : List PlainSymbol). IsWrittenName n l) (sym (h.2 ∙ (ap (λ (l : List PlainSymbol). h.0 ++ l) h.4 ∙ append_none h.0))) h.3

pub call_to : (first : Name) (p : List Name × List Expr) (word : List PlainSymbol) → (IsWrittenName first · DottedParts p) word → IsCall (dotted_with first p) word
call_to first (x ∷ xs, list) word h =
    in_front (IsWrittenName first · (IsMark sorts.Point · IsWrittenName x · AreFollowing sorts.Point IsWrittenName xs)) (IsPath (record { first = first; rest = x ∷ xs })) (IsCallEnd list)
    (in_back (IsWrittenName first) (IsMark sorts.Point · IsWrittenName x · AreFollowing sorts.Point IsWrittenName xs) (AreFollowing sorts.Point IsWrittenName (x ∷ xs)) (to_left (IsMark sorts.Point) (IsWrittenName x) (AreFollowing sorts.Point IsWrittenName xs))) word
    (to_left (IsWrittenName first) (IsMark sorts.Point · IsWrittenName x · AreFollowing sorts.Point IsWrittenName xs) (IsCallEnd list) word h)
call_to first ([], list) word h = absurd h.4.3.4

pub call_from : (first x : Name) (xs : List Name) (list : List Expr) (word : List PlainSymbol) → IsCall (dotted_with first (x ∷ xs, list)) word → (IsWrittenName first · DottedParts (x ∷ xs, list)) word
call_from first x xs list word h =
    to_right (IsWrittenName first) (IsMark sorts.Point · IsWrittenName x · AreFollowing sorts.Point IsWrittenName xs) (IsCallEnd list) word
    (in_front (IsPath (record { first = first; rest = x ∷ xs })) (IsWrittenName first · (IsMark sorts.Point · IsWrittenName x · AreFollowing sorts.Point IsWrittenName xs)) (IsCallEnd list)
    (in_back (IsWrittenName first) (AreFollowing sorts.Point IsWrittenName (x ∷ xs)) (IsMark sorts.Point · IsWrittenName x · AreFollowing sorts.Point IsWrittenName xs) (to_right (IsMark sorts.Point) (IsWrittenName x) (AreFollowing sorts.Point IsWrittenName xs))) word h)

pub variable_to : (first : Name) (p : Bounds × (Name × (Option Init × Unit {0}))) (word : List PlainSymbol) → (IsWrittenName first · VariableParts p) word → IsVariable (variable_with first p) word
variable_to first p word h =
    in_front (IsWrittenName first · IsBounds p.0) (IsType (type_named first p.0)) _ (in_front (IsWrittenName first) (IsBase first.at (bases.Named first)) (IsBounds p.0) (λ w g. (g, refl))) word
    (to_left (IsWrittenName first) (IsBounds p.0) _ word h)

pub variable_from : (first : Name) (b : Bounds) (n : Name) (o : Option Init) (at : ℕ) (word : List PlainSymbol)
    → IsVariable (record { declared = record { at = at; base = bases.Named first; bounds = b }; name = n; init = o }) word → (at ≡ first.at) × (IsWrittenName first · VariableParts (b, (n, (o, tt)))) word
variable_from first b n o at word h = (
  h.3.3.1,
  to_right (IsWrittenName first) (IsBounds b) _ word (in_front (IsType (record { at = at; base = bases.Named first; bounds = b })) (IsWrittenName first · IsBounds b) _ (in_front (IsBase at (bases.Named first)) (IsWrittenName first) (IsBounds b) (λ w g. g.0)) word h),
)
