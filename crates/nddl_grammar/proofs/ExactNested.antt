-- Blocks in blocks: exact at each depth, since they are one deeper.
use Rattle.std.proofs.Common.{◌≡◌, ℕ, zero, suc, Bool, true, false, Option, Some, None, ◌⊎◌, inl, inr, List, [], ◌∷◌, ◌++◌, refl, sym, ap, subst, ◌∙◌}
use Rattle.nddl_grammar.specs.declared.sort.Sort.{Sort}
use Rattle.eu_name.specs.declared.word.Reserved.TheVariants as keywords
use Rattle.nddl_grammar.specs.declared.sort.Sort.TheVariants as sorts
use Rattle.nddl_grammar.specs.Sorts.{same}
use Rattle.nddl_grammar.specs.Symbols.{PlainSymbol}
use Rattle.nddl_grammar.specs.Readers.{Outcome, is, choice, mapped}
use Rattle.nddl_grammar.specs.Exact.{◌·◌, IsPlaced, IsMark, IsNothing, AreMany, earlier, earliest, BeginsWith, IsExact}
use Rattle.nddl_grammar.proofs.Lists.{append_none}
use Rattle.nddl_grammar.proofs.Sequence.{Paired}
use Rattle.nddl_grammar.proofs.Combine.{no_more, not_both, mark_exact, place_exact, mark_begins, place_begins, pair_begins, mapped_exact, relabelled_exact, widened_exact, choice_exact, EmptyFor, nothing_exact, MarkOf}
use Rattle.nddl_grammar.proofs.Many.{wider, many_exact}
use Rattle.nddl_grammar.proofs.Choices.{Image, image_exact, image_begins, either_begins, after_exact, after_begins, same_sort}
use Rattle.nddl_ast.specs.declared.name.Name.{Name}
use Rattle.nddl_ast.specs.declared.statement.Condition.{Condition}
use Rattle.nddl_ast.specs.declared.statement.Stmt.{Stmt}
use Rattle.nddl_ast.specs.declared.statement.Stmt.TheVariants as stmts
use Rattle.nddl_ast.specs.Tree.{Statements, Nothing, Declares, Calls, Asks, Tests, Chooses, Repeats, Braces}
use Rattle.nddl_ast.specs.Block.{statements_of}
use Rattle.nddl_grammar.specs.declared.statements.SimpleStmt.{SimpleStmt}
use Rattle.nddl_grammar.specs.declared.statements.SimpleStmt.TheVariants as plains
use Rattle.nddl_grammar.specs.Grammar.{IsWrittenName, IsVariable, IsCall, IsAsk, IsCondition, IsLoneIf, Encloses, AreStatements, IsBraced, deep_statements, deep_block}
use Rattle.nddl_grammar.specs.Productions.{condition, begins_stmt, stmt_of, lone, too_deep, Inner, otherwise_with, if_with, foreach_with, stmt_with, block_with, blocks, block}
use Rattle.nddl_grammar.proofs.Flat.{Starts, front_starts, refuses, apart, ◌>>◌, closed}
use Rattle.nddl_grammar.proofs.ExactExpressions.{name_exact}
use Rattle.nddl_grammar.proofs.ExactStatements.{aside_empty, in_back}
use Rattle.nddl_grammar.proofs.ExactStatements.{IsPlain}
use Rattle.nddl_grammar.proofs.ExactPlain.{plain_exact, plain_begins}
use Rattle.nddl_ast.specs.Places.{stmt_place}
use Rattle.nddl_grammar.proofs.ExactBlocks.{more_condition, condition_exact, Opens, too_deep_exact, with_nothing, without_nothing}

abbrev pub IsElse : Braces → List PlainSymbol → Type 0
IsElse b word = Encloses b.at (AreStatements b.statements) word ⊎ (IsLoneIf b.at b.statements × AreStatements b.statements word)

abbrev pub IsOtherwise : Option Braces → List PlainSymbol → Type 0
IsOtherwise None = IsNothing
IsOtherwise (Some b) = IsMark (sorts.Word keywords.Else) · IsElse b

abbrev IfParts : ℕ × (Unit {0} × (Condition × (Unit {0} × (Braces × Option Braces)))) → List PlainSymbol → Type 0
IfParts = Paired (IsPlaced (sorts.Word keywords.If)) (Paired (MarkOf sorts.ParenOpen) (Paired IsCondition (Paired (MarkOf sorts.ParenClose) (Paired IsBraced IsOtherwise))))

abbrev if_of : ℕ × (Unit {0} × (Condition × (Unit {0} × (Braces × Option Braces)))) → Stmt
if_of p = stmts.If p.0 p.1.1.0 p.1.1.1.1.0 p.1.1.1.1.1

abbrev ForeachParts : ℕ × (Unit {0} × (Name × (Unit {0} × (Name × (Unit {0} × Braces))))) → List PlainSymbol → Type 0
ForeachParts = Paired (IsPlaced (sorts.Word keywords.Foreach)) (Paired (MarkOf sorts.ParenOpen) (Paired IsWrittenName (Paired (MarkOf (sorts.Word keywords.In)) (Paired IsWrittenName (Paired (MarkOf sorts.ParenClose) IsBraced)))))

abbrev foreach_of : ℕ × (Unit {0} × (Name × (Unit {0} × (Name × (Unit {0} × Braces))))) → Stmt
foreach_of p = stmts.Foreach p.0 p.1.1.0 p.1.1.1.1.0 p.1.1.1.1.1.1

abbrev pub IsStmt : Stmt → List PlainSymbol → Type 0
IsStmt (stmts.Variable v) = IsVariable v
IsStmt (stmts.Call c) = IsCall c
IsStmt (stmts.Ask a) = IsAsk a
IsStmt (stmts.If at condition then otherwise) = IsPlaced (sorts.Word keywords.If) at · IsMark sorts.ParenOpen · IsCondition condition · IsMark sorts.ParenClose · IsBraced then · IsOtherwise otherwise
IsStmt (stmts.Foreach at name class body) = IsPlaced (sorts.Word keywords.Foreach) at · IsMark sorts.ParenOpen · IsWrittenName name · IsMark (sorts.Word keywords.In) · IsWrittenName class · IsMark sorts.ParenClose · IsBraced body

abbrev deep_other : ℕ → Option Braces → Option ℕ
deep_other left None = None
deep_other left (Some b) = deep_block left b

abbrev pub deep_stmt : ℕ → Stmt → Option ℕ
deep_stmt left (stmts.If at condition then otherwise) = earlier (deep_block left then) (deep_other left otherwise)
deep_stmt left (stmts.Foreach at name class body) = deep_block left body
deep_stmt left other = None

-- the readers of blocks that may be nested so deep are exact
pub record AreExact (left : ℕ) (inner : Inner) : Type 0 where
  pub block : IsExact IsBraced (deep_block left) no_more inner.0
  pub else : IsExact IsElse (deep_block left) (is (sorts.Word keywords.Else)) inner.1

-- ---- statements

abbrev Otherwise : Option Braces → List PlainSymbol → Type 0
Otherwise o word = Image Some (λ b. IsMark (sorts.Word keywords.Else) · IsElse b) o word ⊎ EmptyFor None o word

otherwise_to : (o : Option Braces) (word : List PlainSymbol) → Otherwise o word → IsOtherwise o word
otherwise_to o word (inl (b, eq, h)) = subst (λ (o : Option Braces). IsOtherwise o word) (sym eq) h
otherwise_to o word (inr (eq, h)) = subst (λ (o : Option Braces). IsOtherwise o word) (sym eq) h

otherwise_from : (o : Option Braces) (word : List PlainSymbol) → IsOtherwise o word → Otherwise o word
otherwise_from None word h = inr (refl, h)
otherwise_from (Some b) word h = inl (b, refl, h)

otherwise_exact : (left : ℕ) (inner : Inner) → AreExact left inner → IsExact IsOtherwise (deep_other left) (is (sorts.Word keywords.Else)) (otherwise_with inner)
unfolding same refuses
otherwise_exact left inner a = relabelled_exact IsOtherwise (deep_other left)
    (choice_exact (is (sorts.Word keywords.Else)) (image_exact (deep_other left) Some (after_exact (sorts.Word keywords.Else) a.else) (λ x. refl)) (nothing_exact None (deep_other left) (is (sorts.Word keywords.Else)) refl)
    (image_begins Some (is (sorts.Word keywords.Else)) (after_begins IsElse (sorts.Word keywords.Else) (is (sorts.Word keywords.Else)) refl))
    (λ y word after h out. aside_empty None (is (sorts.Word keywords.Else)) y word after h out))
    otherwise_to otherwise_from (λ x. refl)

if_exact : (left : ℕ) (inner : Inner) → AreExact left inner → IsExact (Image if_of IfParts) (deep_stmt left) (is (sorts.Word keywords.Else)) (if_with inner)
unfolding same refuses
if_exact left inner a = image_exact (deep_stmt left) if_of
    (place_exact (sorts.Word keywords.If) >> mark_exact sorts.ParenOpen >> closed condition_exact (mark_exact sorts.ParenClose >> a.block >> otherwise_exact left inner a) (pair_begins (Paired IsBraced IsOtherwise) (refuses more_condition) (mark_begins sorts.ParenClose (refuses more_condition) refl)))
    (λ p. refl)

foreach_exact : (left : ℕ) (inner : Inner) → AreExact left inner → IsExact (Image foreach_of ForeachParts) (deep_stmt left) no_more (foreach_with inner)
foreach_exact left inner a = image_exact (deep_stmt left) foreach_of
    (place_exact (sorts.Word keywords.Foreach) >> mark_exact sorts.ParenOpen >> name_exact >> mark_exact (sorts.Word keywords.In) >> name_exact >> mark_exact sorts.ParenClose >> a.block) (λ p. refl)

abbrev Stmts : Stmt → List PlainSymbol → Type 0
Stmts s word = Image if_of IfParts s word ⊎ (Image foreach_of ForeachParts s word ⊎ Image stmt_of IsPlain s word)

plain_to_stmt : (y : SimpleStmt) (word : List PlainSymbol) → IsPlain y word → IsStmt (stmt_of y) word
plain_to_stmt (plains.Variable v) word h = h
plain_to_stmt (plains.Call c) word h = h
plain_to_stmt (plains.Ask a) word h = h

stmts_to : (s : Stmt) (word : List PlainSymbol) → Stmts s word → IsStmt s word
stmts_to s word (inl (p, eq, h)) = subst (λ (s : Stmt). IsStmt s word) (sym eq) h
stmts_to s word (inr (inl (p, eq, h))) = subst (λ (s : Stmt). IsStmt s word) (sym eq) h
stmts_to s word (inr (inr (y, eq, h))) = subst (λ (s : Stmt). IsStmt s word) (sym eq) (plain_to_stmt y word h)

stmts_from : (s : Stmt) (word : List PlainSymbol) → IsStmt s word → Stmts s word
stmts_from (stmts.If at condition then otherwise) word h = inl ((at, (tt, (condition, (tt, (then, otherwise))))), refl, h)
stmts_from (stmts.Foreach at name class body) word h = inr (inl ((at, (tt, (name, (tt, (class, (tt, body)))))), refl, h))
stmts_from (stmts.Variable v) word h = inr (inr (plains.Variable v, refl, h))
stmts_from (stmts.Call c) word h = inr (inr (plains.Call c, refl, h))
stmts_from (stmts.Ask a) word h = inr (inr (plains.Ask a, refl, h))

plain_deep : (left : ℕ) (y : SimpleStmt) → deep_stmt left (stmt_of y) ≡ None
plain_deep left (plains.Variable v) = refl
plain_deep left (plains.Call c) = refl
plain_deep left (plains.Ask a) = refl

if_begins : (test : Sort → Bool) → test (sorts.Word keywords.If) ≡ true → BeginsWith (Image if_of IfParts) test
if_begins test holds s word (p, eq, h) = front_starts test (IsPlaced (sorts.Word keywords.If) p.0) _ (place_begins (sorts.Word keywords.If) test holds p.0) word h

foreach_begins : (test : Sort → Bool) → test (sorts.Word keywords.Foreach) ≡ true → BeginsWith (Image foreach_of ForeachParts) test
foreach_begins test holds s word (p, eq, h) = front_starts test (IsPlaced (sorts.Word keywords.Foreach) p.0) _ (place_begins (sorts.Word keywords.Foreach) test holds p.0) word h

stmt_exact : (left : ℕ) (inner : Inner) → AreExact left inner → IsExact IsStmt (deep_stmt left) (is (sorts.Word keywords.Else)) (stmt_with inner)
unfolding same refuses
stmt_exact left inner a = relabelled_exact IsStmt (deep_stmt left)
    (choice_exact (is (sorts.Word keywords.If)) (if_exact left inner a)
    (choice_exact (is (sorts.Word keywords.Foreach)) (widened_exact (is (sorts.Word keywords.Else)) (foreach_exact left inner a) (λ sort out. refl))
    (widened_exact (is (sorts.Word keywords.Else)) (image_exact (deep_stmt left) stmt_of plain_exact (plain_deep left)) (λ sort out. refl))
    (foreach_begins (is (sorts.Word keywords.Foreach)) refl)
    (apart (Image stmt_of IsPlain) (is (sorts.Word keywords.Foreach)) (is (sorts.Word keywords.Else)) (image_begins stmt_of (refuses (is (sorts.Word keywords.Foreach))) (plain_begins (refuses (is (sorts.Word keywords.Foreach))) refl refl refl refl refl))))
    (if_begins (is (sorts.Word keywords.If)) refl)
    (apart (λ s word. Image foreach_of ForeachParts s word ⊎ Image stmt_of IsPlain s word) (is (sorts.Word keywords.If)) (is (sorts.Word keywords.Else))
    (either_begins (refuses (is (sorts.Word keywords.If))) (foreach_begins (refuses (is (sorts.Word keywords.If))) refl) (image_begins stmt_of (refuses (is (sorts.Word keywords.If))) (plain_begins (refuses (is (sorts.Word keywords.If))) refl refl refl refl refl)))))
    stmts_to stmts_from (λ s. refl)

stmt_begins : BeginsWith IsStmt begins_stmt
stmt_begins s word h = elim (stmts_from s word h) as (λ f. Starts begins_stmt word) [
  | inl g ↦ if_begins begins_stmt refl s word g
  | inr (inl g) ↦ foreach_begins begins_stmt refl s word g
  | inr (inr g) ↦ image_begins stmt_of begins_stmt (plain_begins begins_stmt refl refl refl refl refl) s word g
]

-- a sort that the test refuses isn't one that it passes
pub not_that : (test : Sort → Bool) (sort : Sort) → test sort ≡ false → (other : Sort) → test other ≡ true → is sort other ≡ false
not_that test sort fails other holds = by (is sort other) refl where
  by : (b : Bool) → is sort other ≡ b → b ≡ false
  by true p = absurd (not_both (subst (λ (s : Sort). test s ≡ true) (same_sort sort other p) holds) fails)
  by false p = refl

-- ---- lists of statements

with_none : (at : ℕ) (condition : Condition) (then : Braces) (word : List PlainSymbol) → IsStmt (stmts.If at condition then None) word
    → (IsPlaced (sorts.Word keywords.If) at · IsMark sorts.ParenOpen · IsCondition condition · IsMark sorts.ParenClose · IsBraced then) word
with_none at condition then = in_back (IsPlaced (sorts.Word keywords.If) at) _ _ (in_back (IsMark sorts.ParenOpen) _ _ (in_back (IsCondition condition) _ _ (in_back (IsMark sorts.ParenClose) (IsBraced then · IsNothing) (IsBraced then) (without_nothing (IsBraced then)))))

to_none : (at : ℕ) (condition : Condition) (then : Braces) (word : List PlainSymbol) → (IsPlaced (sorts.Word keywords.If) at · IsMark sorts.ParenOpen · IsCondition condition · IsMark sorts.ParenClose · IsBraced then) word
    → IsStmt (stmts.If at condition then None) word
to_none at condition then = in_back (IsPlaced (sorts.Word keywords.If) at) _ _ (in_back (IsMark sorts.ParenOpen) _ _ (in_back (IsCondition condition) _ _ (in_back (IsMark sorts.ParenClose) (IsBraced then) (IsBraced then · IsNothing) (with_nothing (IsBraced then)))))

list_to : (xs : List Stmt) (word : List PlainSymbol) → AreMany IsStmt xs word → AreStatements (statements_of xs) word
list_to [] word h = h
list_to (stmts.Variable v ∷ xs) word h = in_back (IsVariable v) _ _ (list_to xs) word h
list_to (stmts.Call c ∷ xs) word h = in_back (IsCall c) _ _ (list_to xs) word h
list_to (stmts.Ask a ∷ xs) word h = in_back (IsAsk a) _ _ (list_to xs) word h
list_to (stmts.If at condition then None ∷ xs) word h = (h.0, h.1, h.2, with_none at condition then h.0 h.3, list_to xs h.1 h.4)
list_to (stmts.If at condition then (Some b) ∷ xs) word h = (h.0, h.1, h.2, h.3, list_to xs h.1 h.4)
list_to (stmts.Foreach at name class body ∷ xs) word h = (h.0, h.1, h.2, h.3, list_to xs h.1 h.4)

abbrev Listed : Statements → List PlainSymbol → Type 0
Listed st word = (xs : List Stmt) × (st ≡ statements_of xs) × AreMany IsStmt xs word

list_from : (st : Statements) (word : List PlainSymbol) → AreStatements st word → Listed st word
list_from Nothing word h = ([], refl, h)
list_from (Declares v more) word h = let rest = list_from more h.1 h.4 in (stmts.Variable v ∷ rest.0, ap (Declares v) rest.1, (h.0, h.1, h.2, h.3, rest.2))
list_from (Calls c more) word h = let rest = list_from more h.1 h.4 in (stmts.Call c ∷ rest.0, ap (Calls c) rest.1, (h.0, h.1, h.2, h.3, rest.2))
list_from (Asks a more) word h = let rest = list_from more h.1 h.4 in (stmts.Ask a ∷ rest.0, ap (Asks a) rest.1, (h.0, h.1, h.2, h.3, rest.2))
list_from (Tests at condition then_at then more) word h =
    let rest = list_from more h.1 h.4 in
    (stmts.If at condition (record { at = then_at; statements = then }) None ∷ rest.0, ap (Tests at condition then_at then) rest.1, (h.0, h.1, h.2, to_none at condition (record { at = then_at; statements = then }) h.0 h.3, rest.2))
list_from (Chooses at condition then_at then else_at else more) word h =
    let rest = list_from more h.1 h.4 in (
      stmts.If at condition (record { at = then_at; statements = then }) (Some (record { at = else_at; statements = else })) ∷ rest.0,
      ap (Chooses at condition then_at then else_at else) rest.1,
      (h.0, h.1, h.2, h.3, rest.2),
    )
list_from (Repeats at name class body_at body more) word h =
    let rest = list_from more h.1 h.4 in
    (stmts.Foreach at name class (record { at = body_at; statements = body }) ∷ rest.0, ap (Repeats at name class body_at body) rest.1, (h.0, h.1, h.2, h.3, rest.2))

earlier_right : (o : Option ℕ) → earlier o None ≡ o
earlier_right None = refl
earlier_right (Some at) = refl

list_deep : (left : ℕ) (xs : List Stmt) → deep_statements (statements_of xs) left ≡ earliest (deep_stmt left) xs
list_deep left [] = refl
list_deep left (stmts.Variable v ∷ xs) = list_deep left xs
list_deep left (stmts.Call c ∷ xs) = list_deep left xs
list_deep left (stmts.Ask a ∷ xs) = list_deep left xs
list_deep left (stmts.If at condition then None ∷ xs) = (λ i. earlier (sym (earlier_right (deep_block left then)) i) (list_deep left xs i))
list_deep left (stmts.If at condition then (Some b) ∷ xs) = ap (λ (o : Option ℕ). earlier (earlier (deep_block left then) (deep_block left b)) o) (list_deep left xs)
list_deep left (stmts.Foreach at name class body ∷ xs) = ap (λ (o : Option ℕ). earlier (deep_block left body) o) (list_deep left xs)

-- ---- blocks, one deeper

block_exact : (left : ℕ) (inner : Inner) → AreExact left inner → IsExact IsBraced (deep_block (suc left)) no_more (block_with inner)
unfolding same refuses
block_exact left inner a = mapped_exact IsBraced (deep_block (suc left)) (λ p. record { at = p.0; statements = statements_of p.1.0 })
    (place_exact sorts.BraceOpen >> closed (many_exact begins_stmt (stmt_exact left inner a) stmt_begins (not_that begins_stmt (sorts.Word keywords.Else) refl)) (mark_exact sorts.BraceClose) (mark_begins sorts.BraceClose (refuses (wider begins_stmt (is (sorts.Word keywords.Else)))) refl))
    (λ p word h. (h.0, h.1, h.2, h.3, (h.4.0, h.4.1, h.4.2, list_to p.1.0 h.4.0 h.4.3, h.4.4)))
    (λ b word h.
    let xs = list_from b.statements h.4.0 h.4.3 in
    ((b.at, (xs.0, tt)), (λ i. record { at = b.at; statements = xs.1 i }), (h.0, h.1, h.2, h.3, (h.4.0, h.4.1, h.4.2, xs.2, h.4.4))))
    (λ p. list_deep left p.1.0 ∙ sym (earlier_right (earliest (deep_stmt left) p.1.0)))

block_begins : (test : Sort → Bool) → test sorts.BraceOpen ≡ true → BeginsWith IsBraced test
block_begins test holds b word h = front_starts test (IsPlaced sorts.BraceOpen b.at) _ (place_begins sorts.BraceOpen test holds b.at) word h

abbrev LoneIf : Braces → List PlainSymbol → Type 0
LoneIf b word = IsLoneIf b.at b.statements × AreStatements b.statements word

lone_to : (p : ℕ × (Unit {0} × (Condition × (Unit {0} × (Braces × Option Braces))))) (word : List PlainSymbol) → IfParts p word → LoneIf (lone (if_of p)) word
lone_to (at, (nil, (condition, (nil', (then, None))))) word h = (refl, (word, [], sym (append_none word), with_none at condition then word h, refl))
lone_to (at, (nil, (condition, (nil', (then, Some b))))) word h = (refl, (word, [], sym (append_none word), h, refl))

lone_from : (at : ℕ) (st : Statements) (word : List PlainSymbol) → IsLoneIf at st → AreStatements st word
    → (s : Stmt) × (record { at = at; statements = st } ≡ lone s) × Image if_of IfParts s word
lone_from at (Tests if_at condition then_at then Nothing) word is h = (
  stmts.If if_at condition (record { at = then_at; statements = then }) None,
  (λ i. record { at = is i; statements = Tests if_at condition then_at then Nothing }),
  ((if_at, (tt, (condition, (tt, (record { at = then_at; statements = then }, None))))), refl, to_none if_at condition (record { at = then_at; statements = then }) word (without_nothing _ word h)),
)
lone_from at (Chooses if_at condition then_at then else_at else Nothing) word is h = (
  stmts.If if_at condition (record { at = then_at; statements = then }) (Some (record { at = else_at; statements = else })),
  (λ i. record { at = is i; statements = Chooses if_at condition then_at then else_at else Nothing }),
  ((if_at, (tt, (condition, (tt, (record { at = then_at; statements = then }, Some (record { at = else_at; statements = else })))))), refl, without_nothing _ word h),
)
lone_from at other word is h = absurd is

lone_begins : (test : Sort → Bool) → test (sorts.Word keywords.If) ≡ true → BeginsWith LoneIf test
lone_begins test holds b word (is, h) = let s = lone_from b.at b.statements word is h in if_begins test holds s.0 word s.2

lone_exact : (left : ℕ) (inner : Inner) → AreExact left inner → IsExact LoneIf (deep_block (suc left)) (is (sorts.Word keywords.Else)) (mapped lone (if_with inner))
lone_exact left inner a = mapped_exact LoneIf (deep_block (suc left)) lone (if_exact left inner a)
    (λ s word h. subst (λ (s : Stmt). LoneIf (lone s) word) (sym h.1) (lone_to h.0 word h.2))
    (λ b word h. lone_from b.at b.statements word h.0 h.1)
    (λ s. list_deep left (s ∷ []) ∙ earlier_right (deep_stmt left s))

else_of : (left : ℕ) {one other : List PlainSymbol → Outcome Braces} → IsExact LoneIf (deep_block left) (is (sorts.Word keywords.Else)) one → IsExact IsBraced (deep_block left) no_more other → IsExact IsElse (deep_block left) (is (sorts.Word keywords.Else)) (choice (is (sorts.Word keywords.If)) one other)
unfolding same refuses
else_of left a b = relabelled_exact IsElse (deep_block left)
    (choice_exact (is (sorts.Word keywords.If)) a (widened_exact (is (sorts.Word keywords.Else)) b (λ sort out. refl)) (lone_begins (is (sorts.Word keywords.If)) refl)
    (apart IsBraced (is (sorts.Word keywords.If)) (is (sorts.Word keywords.Else)) (block_begins (refuses (is (sorts.Word keywords.If))) refl)))
    (λ b word h. elim h as (λ f. IsElse b word) [ inl g ↦ inr g | inr g ↦ inl g ])
    (λ b word h. elim h as (λ f. LoneIf b word ⊎ IsBraced b word) [ inl g ↦ inr g | inr g ↦ inl g ])
    (λ b. refl)

-- ---- where nothing more may be nested

block_opens : (b : Braces) (word : List PlainSymbol) → IsBraced b word → Opens sorts.BraceOpen b word
block_opens b word h = (h.3.symbol, h.1, h.2 ∙ ap (λ (l : List PlainSymbol). l ++ h.1) h.3.only, h.3.sorted, h.3.placed)

lone_opens : (b : Braces) (word : List PlainSymbol) → LoneIf b word → Opens (sorts.Word keywords.If) b word
lone_opens b word (is, h) =
    let s = lone_from b.at b.statements word is h in
    let p = s.2 in
    let g = p.2 in (
      g.3.symbol,
      g.1,
      g.2 ∙ ap (λ (l : List PlainSymbol). l ++ g.1) g.3.only,
      g.3.sorted,
      g.3.placed ∙ sym (ap (λ (x : Braces). x.at) s.1 ∙ ap stmt_place p.1),
    )

block_complete : (c : PlainSymbol) → c.sort ≡ sorts.BraceOpen → (after : List PlainSymbol) × (b : Braces) × IsBraced b (c ∷ after) × (b.at ≡ c.at)
block_complete c is =
    let close = (mark_exact sorts.BraceClose).sample 0 in (
      close.0,
      record { at = c.at; statements = Nothing },
      (c ∷ [], close.0, refl, record { symbol = c; only = refl; sorted = is; placed = refl }, ([], close.0, refl, refl, close.2)),
      refl,
    )

blocks_none : IsExact IsBraced (deep_block 0) no_more (too_deep sorts.BraceOpen)
blocks_none = too_deep_exact sorts.BraceOpen IsBraced no_more block_opens block_complete

lone_complete : (c : PlainSymbol) → c.sort ≡ (sorts.Word keywords.If) → (after : List PlainSymbol) × (b : Braces) × LoneIf b (c ∷ after) × (b.at ≡ c.at)
unfolding same refuses
lone_complete c is =
    let end = (mark_exact sorts.ParenOpen >> closed condition_exact (mark_exact sorts.ParenClose >> blocks_none) (pair_begins IsBraced (refuses more_condition) (mark_begins sorts.ParenClose (refuses more_condition) refl))).sample 0 in (
      end.0,
      lone (stmts.If c.at end.1.1.0 end.1.1.1.1 None),
      (refl, (c ∷ end.0, [], sym (append_none (c ∷ end.0)), (c ∷ [], end.0, refl, record { symbol = c; only = refl; sorted = is; placed = refl }, end.2), refl)),
      refl,
    )

lone_none : IsExact LoneIf (deep_block 0) (is (sorts.Word keywords.Else)) (too_deep (sorts.Word keywords.If))
lone_none = too_deep_exact (sorts.Word keywords.If) LoneIf (is (sorts.Word keywords.Else)) lone_opens lone_complete

blocks_exact : (left : ℕ) → AreExact left (blocks left)
unfolding blocks
blocks_exact zero = record { block = blocks_none; else = else_of 0 lone_none blocks_none }
blocks_exact (suc left) = record {
  block = block_exact left (blocks left) (blocks_exact left);
  else = else_of (suc left) (lone_exact left (blocks left) (blocks_exact left)) (block_exact left (blocks left) (blocks_exact left));
}

pub nested_exact : (left : ℕ) → IsExact IsBraced (deep_block left) no_more (block left)
unfolding block
nested_exact left = (blocks_exact left).block
