-- What the reader of a text finds is exactly what the grammar has.
use Rattle.std.proofs.Common.{◌≡◌, ℕ, Bool, true, Option, Some, None, ◌⊎◌, inl, inr, List, ◌++◌, refl, sym, ap, subst, ◌∙◌}
use Rattle.nddl_grammar.specs.declared.sort.Sort.{Sort}
use Rattle.eu_name.specs.declared.word.Reserved.TheVariants as keywords
use Rattle.nddl_grammar.specs.declared.sort.Sort.TheVariants as sorts
use Rattle.nddl_grammar.specs.Sorts.{same}
use Rattle.nddl_grammar.specs.Symbols.{PlainSymbol}
use Rattle.nddl_grammar.specs.Readers.{is}
use Rattle.nddl_grammar.specs.Exact.{◌·◌, IsPlaced, IsMark, AreMany, AreSeparated, BeginsWith, IsExact}
use Rattle.nddl_grammar.proofs.Sequence.{Paired}
use Rattle.nddl_grammar.proofs.Combine.{no_more, no_blocks, symbol_exact, mark_exact, place_exact, mark_begins, place_begins, pair_begins, mapped_exact, relabelled_exact, widened_exact, choice_exact, EmptyFor, nothing_exact, MarkOf}
use Rattle.nddl_grammar.proofs.Many.{wider, many_exact}
use Rattle.nddl_grammar.proofs.Choices.{Image, image_exact, image_begins, either_begins, Bound, bound_exact, bound_begins, Beside, beside_exact, some_still, May, may_mark_exact, after_exact, after_begins, separated_exact, follows_none}
use Rattle.nddl_ast.specs.declared.name.Name.{Name}
use Rattle.nddl_ast.specs.declared.expression.Type as types
use Rattle.nddl_ast.specs.declared.declaration.Member.{Member}
use Rattle.nddl_ast.specs.declared.declaration.Decl.{Decl}
use Rattle.nddl_ast.specs.declared.declaration.Decl.TheVariants as decls
use Rattle.nddl_ast.specs.Tree.{Braces}
use Rattle.nddl_grammar.specs.declared.statements.SimpleStmt.{SimpleStmt}
use Rattle.nddl_grammar.specs.declared.statements.SimpleStmt.TheVariants as plains
use Rattle.nddl_grammar.specs.Grammar.{IsWrittenName, IsType, IsVariable, IsBraced}
use Rattle.nddl_parser.specs.Grammar.{IsMember, IsFile, IsParent, IsDecl, IsText, deep_decl, deep_text}
use Rattle.nddl_parser.specs.Productions.{begins_member, file, include, enumeration, typedef, parent, class_body, class_after, class, rule_after, decl_of, decl_after, decl_named, decl, begins_decl, text}
use Rattle.nddl_grammar.proofs.Flat.{Starts, front_starts, flat, refuses, apart, ◌>>◌, closed}
use Rattle.nddl_grammar.proofs.ExactExpressions.{name_exact, name_begins}
use Rattle.nddl_grammar.proofs.ExactStatements.{aside_empty, more_bounds, type_exact, variable_exact, variable_begins, PlainAfter, plain_after_exact, plain_after_begins, IsPlain}
use Rattle.nddl_grammar.proofs.ExactPlain.{any, plain_to, plain_from}
use Rattle.nddl_grammar.proofs.ExactNested.{nested_exact, not_that}
use Rattle.nddl_parser.proofs.ExactDeclarations.{member_exact, member_begins}

-- ---- includes, enums, typedefs

abbrev IsFileAt : List ℕ × ℕ → List PlainSymbol → Type 0
IsFileAt both = IsFile both.0 both.1

file_exact : IsExact IsFileAt no_blocks no_more file
unfolding file
file_exact = mapped_exact IsFileAt no_blocks (λ symbol. (symbol.bytes, symbol.at)) (symbol_exact sorts.Quoted)
    (λ symbol word h. record { symbol = symbol; only = h.0; sorted = h.1; bytes = refl; placed = refl })
    (λ both word h. (h.symbol, (λ i. (h.bytes i, h.placed i)), (h.only, h.sorted)))
    (λ symbol. refl)

abbrev IncludeParts : ℕ × ((List ℕ × ℕ) × Unit {0}) → List PlainSymbol → Type 0
IncludeParts = Paired (IsPlaced sorts.Include) (Paired IsFileAt (May sorts.Semicolon))

abbrev include_of : ℕ × ((List ℕ × ℕ) × Unit {0}) → Decl
include_of p = decls.Include p.0 p.1.0.0 p.1.0.1

include_exact : (left : ℕ) → IsExact (Image include_of IncludeParts) (deep_decl left) (is sorts.Semicolon) include
unfolding include
include_exact left = image_exact (deep_decl left) include_of (place_exact sorts.Include >> file_exact >> may_mark_exact sorts.Semicolon) (λ p. refl)

abbrev EnumParts : ℕ × (Name × (ℕ × (List Name × (Unit {0} × Unit {0})))) → List PlainSymbol → Type 0
EnumParts = Paired (IsPlaced (sorts.Word keywords.Enum)) (Paired IsWrittenName (Paired (IsPlaced sorts.BraceOpen) (Paired (AreSeparated sorts.Comma IsWrittenName) (Paired (MarkOf sorts.BraceClose) (May sorts.Semicolon)))))

abbrev enum_of : ℕ × (Name × (ℕ × (List Name × (Unit {0} × Unit {0})))) → Decl
enum_of p = decls.Enum p.0 p.1.0 p.1.1.0 p.1.1.1.0

enum_exact : (left : ℕ) → IsExact (Image enum_of EnumParts) (deep_decl left) (is sorts.Semicolon) enumeration
unfolding enumeration same refuses
enum_exact left = image_exact (deep_decl left) enum_of
    (place_exact (sorts.Word keywords.Enum) >> name_exact >> place_exact sorts.BraceOpen
    >> closed (flat (separated_exact sorts.Comma name_exact (λ other holds. refl))) (mark_exact sorts.BraceClose >> may_mark_exact sorts.Semicolon)
    (pair_begins (May sorts.Semicolon) (refuses (wider (is sorts.Comma) no_more)) (mark_begins sorts.BraceClose (refuses (wider (is sorts.Comma) no_more)) refl)))
    (λ p. refl)

abbrev TypedefParts : ℕ × (types.Type × (Name × Unit {0})) → List PlainSymbol → Type 0
TypedefParts = Paired (IsPlaced (sorts.Word keywords.Typedef)) (Paired IsType (Paired IsWrittenName (MarkOf sorts.Semicolon)))

abbrev typedef_of : ℕ × (types.Type × (Name × Unit {0})) → Decl
typedef_of p = decls.Typedef p.0 p.1.0 p.1.1.0

typedef_exact : (left : ℕ) → IsExact (Image typedef_of TypedefParts) (deep_decl left) no_more typedef
unfolding typedef same refuses
typedef_exact left = image_exact (deep_decl left) typedef_of
    (place_exact (sorts.Word keywords.Typedef) >> closed type_exact (name_exact >> mark_exact sorts.Semicolon) (pair_begins (MarkOf sorts.Semicolon) (refuses more_bounds) (name_begins (refuses more_bounds) refl))) (λ p. refl)

-- ---- classes

abbrev Parent : Option Name → List PlainSymbol → Type 0
Parent o word = Image Some (λ n. IsMark (sorts.Word keywords.Extends) · IsWrittenName n) o word ⊎ EmptyFor None o word

parent_to : (o : Option Name) (word : List PlainSymbol) → Parent o word → IsParent o word
parent_to o word (inl (n, eq, h)) = subst (λ (o : Option Name). IsParent o word) (sym eq) h
parent_to o word (inr (eq, h)) = subst (λ (o : Option Name). IsParent o word) (sym eq) h

parent_from : (o : Option Name) (word : List PlainSymbol) → IsParent o word → Parent o word
parent_from None word h = inr (refl, h)
parent_from (Some n) word h = inl (n, refl, h)

parent_exact : IsExact IsParent no_blocks (is (sorts.Word keywords.Extends)) parent
unfolding parent same refuses
parent_exact = relabelled_exact IsParent no_blocks
    (choice_exact (is (sorts.Word keywords.Extends)) (widened_exact (is (sorts.Word keywords.Extends)) (image_exact no_blocks Some (after_exact (sorts.Word keywords.Extends) name_exact) (λ x. refl)) (λ sort out. refl)) (nothing_exact None no_blocks (is (sorts.Word keywords.Extends)) refl)
    (image_begins Some (is (sorts.Word keywords.Extends)) (after_begins IsWrittenName (sorts.Word keywords.Extends) (is (sorts.Word keywords.Extends)) refl))
    (λ y word after h out. aside_empty None (is (sorts.Word keywords.Extends)) y word after h out))
    parent_to parent_from (λ x. refl)

abbrev BodyParts : Option Name × (Unit {0} × (List Member × (Unit {0} × Unit {0}))) → List PlainSymbol → Type 0
BodyParts = Paired IsParent (Paired (MarkOf sorts.BraceOpen) (Paired (AreMany IsMember) (Paired (MarkOf sorts.BraceClose) (May sorts.Semicolon))))

abbrev class_with : ℕ → Name → Option Name × (Unit {0} × (List Member × (Unit {0} × Unit {0}))) → Decl
class_with at name p = decls.Class at name p.0 p.1.1.0

class_body_exact : (left at : ℕ) (name : Name) → IsExact (Image (class_with at name) BodyParts) (deep_decl left) (is sorts.Semicolon) (class_body at name)
unfolding class_body same refuses
class_body_exact left at name = image_exact (deep_decl left) (class_with at name)
    (closed parent_exact
    (mark_exact sorts.BraceOpen
    >> closed (flat (many_exact begins_member member_exact (member_begins begins_member refl refl refl refl refl refl) (not_that begins_member sorts.Semicolon refl))) (mark_exact sorts.BraceClose >> may_mark_exact sorts.Semicolon)
    (pair_begins (May sorts.Semicolon) (refuses (wider begins_member (is sorts.Semicolon))) (mark_begins sorts.BraceClose (refuses (wider begins_member (is sorts.Semicolon))) refl)))
    (pair_begins _ (refuses (is (sorts.Word keywords.Extends))) (mark_begins sorts.BraceOpen (refuses (is (sorts.Word keywords.Extends))) refl)))
    (λ p. refl)

-- `extends` or `{`
body_begins : (test : Sort → Bool) → test (sorts.Word keywords.Extends) ≡ true → test sorts.BraceOpen ≡ true → (o : Option Name) (R : List PlainSymbol → Type 0) (word : List PlainSymbol) → (IsParent o · IsMark sorts.BraceOpen · R) word → Starts test word
body_begins test e b None R word h =
    let back : word ≡ h.1 = h.2 ∙ ap (λ (l : List PlainSymbol). l ++ h.1) h.3 in
    let head = front_starts test (IsMark sorts.BraceOpen) R (mark_begins sorts.BraceOpen test b tt) h.1 h.4 in
    (head.0, head.1, back ∙ head.2, head.3)
body_begins test e b (Some n) R word h = front_starts test (IsParent (Some n)) _ (λ front g. front_starts test (IsMark (sorts.Word keywords.Extends)) (IsWrittenName n) (mark_begins (sorts.Word keywords.Extends) test e tt) front g) word h

abbrev forward_with : ℕ → Name → Unit {0} → Decl
forward_with at name nil = decls.Forward at name

abbrev ClassAfter : ℕ → Name → Decl → List PlainSymbol → Type 0
ClassAfter at name y w = Image (forward_with at name) (MarkOf sorts.Semicolon) y w ⊎ Image (class_with at name) BodyParts y w

class_after_exact : (left at : ℕ) (name : Name) → IsExact (ClassAfter at name) (deep_decl left) (is sorts.Semicolon) (class_after at name)
unfolding class_after same refuses
class_after_exact left at name = choice_exact (is sorts.Semicolon)
    (widened_exact (is sorts.Semicolon) (image_exact (deep_decl left) (forward_with at name) (mark_exact sorts.Semicolon) (λ x. refl)) (λ sort out. refl)) (class_body_exact left at name)
    (image_begins (forward_with at name) (is sorts.Semicolon) (mark_begins sorts.Semicolon (is sorts.Semicolon) refl))
    (apart (Image (class_with at name) BodyParts) (is sorts.Semicolon) (is sorts.Semicolon) (λ y word h. body_begins (refuses (is sorts.Semicolon)) refl refl h.0.0 _ word h.2))

abbrev Classes : Decl → List PlainSymbol → Type 0
Classes = Bound (IsPlaced (sorts.Word keywords.Class)) (λ at. Bound IsWrittenName (ClassAfter at))

class_exact : (left : ℕ) → IsExact Classes (deep_decl left) (is sorts.Semicolon) class
unfolding class
class_exact left = bound_exact (λ at. Bound IsWrittenName (ClassAfter at)) (deep_decl left) (is sorts.Semicolon) _ (place_exact (sorts.Word keywords.Class))
    (λ at. bound_exact (ClassAfter at) (deep_decl left) (is sorts.Semicolon) (class_after at) name_exact (class_after_exact left at) (λ name. follows_none (ClassAfter at name) (is sorts.Semicolon)))
    (λ at. follows_none (Bound IsWrittenName (ClassAfter at)) (is sorts.Semicolon))

-- ---- behind a name

abbrev RuleParts : Unit {0} × (Name × Braces) → List PlainSymbol → Type 0
RuleParts = Paired (MarkOf sorts.DoubleColon) (Paired IsWrittenName IsBraced)

abbrev rule_with : Name → Unit {0} × (Name × Braces) → Decl
rule_with first p = decls.Rule first p.1.0 p.1.1

rule_after_exact : (left : ℕ) (first : Name) → IsExact (Image (rule_with first) RuleParts) (deep_decl left) no_more (rule_after left first)
unfolding rule_after
rule_after_exact left first = image_exact (deep_decl left) (rule_with first) (mark_exact sorts.DoubleColon >> name_exact >> nested_exact left) (λ p. refl)

plain_flat : (left : ℕ) (y : SimpleStmt) → deep_decl left (decl_of y) ≡ None
plain_flat left (plains.Variable v) = refl
plain_flat left (plains.Call c) = refl
plain_flat left (plains.Ask a) = refl

abbrev DeclAfter : Name → Decl → List PlainSymbol → Type 0
DeclAfter first y w = Image (rule_with first) RuleParts y w ⊎ Image decl_of (PlainAfter first) y w

decl_after_exact : (left : ℕ) (first : Name) → IsExact (DeclAfter first) (deep_decl left) no_more (decl_after left first)
unfolding decl_after same refuses
decl_after_exact left first = choice_exact (is sorts.DoubleColon) (rule_after_exact left first) (image_exact (deep_decl left) decl_of (plain_after_exact first) (plain_flat left))
    (image_begins (rule_with first) (is sorts.DoubleColon) (pair_begins (Paired IsWrittenName IsBraced) (is sorts.DoubleColon) (mark_begins sorts.DoubleColon (is sorts.DoubleColon) refl)))
    (apart (Image decl_of (PlainAfter first)) (is sorts.DoubleColon) no_more (image_begins decl_of (refuses (is sorts.DoubleColon)) (plain_after_begins (refuses (is sorts.DoubleColon)) refl refl refl refl refl first)))

-- ---- declarations

abbrev NamedDecls : Decl → List PlainSymbol → Type 0
NamedDecls y word = Bound IsWrittenName DeclAfter y word ⊎ Beside (is sorts.Name) (Image decls.Variable IsVariable) y word

abbrev FromClass : Decl → List PlainSymbol → Type 0
FromClass y word = Classes y word ⊎ NamedDecls y word

abbrev FromTypedef : Decl → List PlainSymbol → Type 0
FromTypedef y word = Image typedef_of TypedefParts y word ⊎ FromClass y word

abbrev FromEnum : Decl → List PlainSymbol → Type 0
FromEnum y word = Image enum_of EnumParts y word ⊎ FromTypedef y word

abbrev Decls : Decl → List PlainSymbol → Type 0
Decls y word = Image include_of IncludeParts y word ⊎ FromEnum y word

plain_decl : (y : SimpleStmt) (word : List PlainSymbol) → IsPlain y word → IsDecl (decl_of y) word
plain_decl (plains.Variable v) word h = h
plain_decl (plains.Call c) word h = h
plain_decl (plains.Ask a) word h = h

decls_to : (y : Decl) (word : List PlainSymbol) → Decls y word → IsDecl y word
decls_to y word (inl (p, eq, h)) = subst (λ (z : Decl). IsDecl z word) (sym eq) h
decls_to y word (inr (inl (p, eq, h))) = subst (λ (z : Decl). IsDecl z word) (sym eq) h
decls_to y word (inr (inr (inl (p, eq, h)))) = subst (λ (z : Decl). IsDecl z word) (sym eq) h
decls_to y word (inr (inr (inr (inl (at, h))))) = elim h.4.1.4 as (λ f. IsDecl y word) [
  | inl g ↦ subst (λ (z : Decl). IsDecl z word) (sym g.1) (h.0, h.1, h.2, h.3, (h.4.1.0, h.4.1.1, h.4.1.2, h.4.1.3, g.2))
  | inr g ↦ subst (λ (z : Decl). IsDecl z word) (sym g.1) (h.0, h.1, h.2, h.3, (h.4.1.0, h.4.1.1, h.4.1.2, h.4.1.3, g.2))
]
decls_to y word (inr (inr (inr (inr (inl (first, h)))))) = elim h.4 as (λ f. IsDecl y word) [
  | inl g ↦ subst (λ (z : Decl). IsDecl z word) (sym g.1) (h.0, h.1, h.2, h.3, g.2)
  | inr g ↦ subst (λ (z : Decl). IsDecl z word) (sym g.1) (plain_decl g.0 word (plain_to first g.0 word (h.0, h.1, h.2, h.3, g.2)))
]
decls_to y word (inr (inr (inr (inr (inr h))))) = subst (λ (z : Decl). IsDecl z word) (sym h.0.1) h.0.2

plain_named_decl : (y : SimpleStmt) (word : List PlainSymbol) → IsPlain y word → NamedDecls (decl_of y) word
plain_named_decl y word h = elim (plain_from y word h) as (λ f. NamedDecls (decl_of y) word) [
  | inl g ↦ inl (g.0, (g.1.0, g.1.1, g.1.2, g.1.3, inr (y, refl, g.1.4)))
  | inr g ↦ inr ((g.0.0, ap decl_of g.0.1, g.0.2), g.1)
]

decls_from : (y : Decl) (word : List PlainSymbol) → IsDecl y word → Decls y word
decls_from (decls.Include at file file_at) word h = inl ((at, ((file, file_at), tt)), refl, h)
decls_from (decls.Enum at name members_at list) word h = inr (inl ((at, (name, (members_at, (list, (tt, tt))))), refl, h))
decls_from (decls.Typedef at declared name) word h = inr (inr (inl ((at, (declared, (name, tt))), refl, h)))
decls_from (decls.Forward at name) word h = inr (inr (inr (inl (at, (h.0, h.1, h.2, h.3, (name, (h.4.0, h.4.1, h.4.2, h.4.3, inl (tt, refl, h.4.4))))))))
decls_from (decls.Class at name o list) word h = inr (inr (inr (inl (at, (h.0, h.1, h.2, h.3, (name, (h.4.0, h.4.1, h.4.2, h.4.3, inr ((o, (tt, (list, (tt, tt)))), refl, h.4.4))))))))
decls_from (decls.Rule first name body) word h = inr (inr (inr (inr (inl (first, (h.0, h.1, h.2, h.3, inl ((tt, (name, body)), refl, h.4)))))))
decls_from (decls.Variable v) word h = inr (inr (inr (inr (plain_named_decl (plains.Variable v) word h))))
decls_from (decls.Call c) word h = inr (inr (inr (inr (plain_named_decl (plains.Call c) word h))))
decls_from (decls.Ask a) word h = inr (inr (inr (inr (plain_named_decl (plains.Ask a) word h))))

named_decls_begin : (test : Sort → Bool) → test (sorts.Word keywords.Int) ≡ true → test (sorts.Word keywords.Float) ≡ true → test (sorts.Word keywords.Bool) ≡ true → test (sorts.Word keywords.Str) ≡ true → test sorts.Name ≡ true → BeginsWith NamedDecls test
named_decls_begin test i f b s n y word (inl h) = bound_begins DeclAfter test (name_begins test n) y word h
named_decls_begin test i f b s n y word (inr h) = variable_begins test i f b s n h.0.0 word h.0.2

classes_begin : (test : Sort → Bool) → test (sorts.Word keywords.Class) ≡ true → BeginsWith Classes test
classes_begin test holds = bound_begins (λ at. Bound IsWrittenName (ClassAfter at)) test (place_begins (sorts.Word keywords.Class) test holds)

typedefs_begin : (test : Sort → Bool) → test (sorts.Word keywords.Typedef) ≡ true → BeginsWith (Image typedef_of TypedefParts) test
typedefs_begin test holds = image_begins typedef_of test (pair_begins _ test (place_begins (sorts.Word keywords.Typedef) test holds))

enums_begin : (test : Sort → Bool) → test (sorts.Word keywords.Enum) ≡ true → BeginsWith (Image enum_of EnumParts) test
enums_begin test holds = image_begins enum_of test (pair_begins _ test (place_begins (sorts.Word keywords.Enum) test holds))

includes_begin : (test : Sort → Bool) → test sorts.Include ≡ true → BeginsWith (Image include_of IncludeParts) test
includes_begin test holds = image_begins include_of test (pair_begins _ test (place_begins sorts.Include test holds))

decl_exact : (left : ℕ) → IsExact IsDecl (deep_decl left) (is sorts.Semicolon) (decl left)
unfolding decl decl_named same refuses
decl_exact left = relabelled_exact IsDecl (deep_decl left)
    (choice_exact (is sorts.Include) (include_exact left)
    (choice_exact (is (sorts.Word keywords.Enum)) (enum_exact left)
    (choice_exact (is (sorts.Word keywords.Typedef)) (widened_exact (is sorts.Semicolon) (typedef_exact left) (λ sort out. refl))
    (choice_exact (is (sorts.Word keywords.Class)) (class_exact left)
    (widened_exact (is sorts.Semicolon)
    (beside_exact (is sorts.Name)
    (bound_exact DeclAfter (deep_decl left) no_more (decl_after left) name_exact (decl_after_exact left) (λ first. follows_none (DeclAfter first) no_more))
    (image_exact (deep_decl left) decls.Variable variable_exact (λ x. refl))
    (bound_begins DeclAfter (is sorts.Name) (name_begins (is sorts.Name) refl))
    (λ y word after h none out. some_still (Image decls.Variable IsVariable) (is sorts.Name) any (image_begins decls.Variable any (variable_begins any refl refl refl refl refl)) y word after h none))
    (λ sort out. refl))
    (classes_begin (is (sorts.Word keywords.Class)) refl)
    (apart NamedDecls (is (sorts.Word keywords.Class)) (is sorts.Semicolon) (named_decls_begin (refuses (is (sorts.Word keywords.Class))) refl refl refl refl refl)))
    (typedefs_begin (is (sorts.Word keywords.Typedef)) refl)
    (apart FromClass (is (sorts.Word keywords.Typedef)) (is sorts.Semicolon) (either_begins (refuses (is (sorts.Word keywords.Typedef))) (classes_begin (refuses (is (sorts.Word keywords.Typedef))) refl) (named_decls_begin (refuses (is (sorts.Word keywords.Typedef))) refl refl refl refl refl))))
    (enums_begin (is (sorts.Word keywords.Enum)) refl)
    (apart FromTypedef (is (sorts.Word keywords.Enum)) (is sorts.Semicolon)
    (either_begins (refuses (is (sorts.Word keywords.Enum))) (typedefs_begin (refuses (is (sorts.Word keywords.Enum))) refl)
    (either_begins (refuses (is (sorts.Word keywords.Enum))) (classes_begin (refuses (is (sorts.Word keywords.Enum))) refl) (named_decls_begin (refuses (is (sorts.Word keywords.Enum))) refl refl refl refl refl)))))
    (includes_begin (is sorts.Include) refl)
    (apart FromEnum (is sorts.Include) (is sorts.Semicolon)
    (either_begins (refuses (is sorts.Include)) (enums_begin (refuses (is sorts.Include)) refl)
    (either_begins (refuses (is sorts.Include)) (typedefs_begin (refuses (is sorts.Include)) refl)
    (either_begins (refuses (is sorts.Include)) (classes_begin (refuses (is sorts.Include)) refl) (named_decls_begin (refuses (is sorts.Include)) refl refl refl refl refl))))))
    decls_to decls_from (λ y. refl)

decl_begins : BeginsWith IsDecl begins_decl
decl_begins y word h = elim (decls_from y word h) as (λ f. Starts begins_decl word) [
  | inl g ↦ includes_begin begins_decl refl y word g
  | inr (inl g) ↦ enums_begin begins_decl refl y word g
  | inr (inr (inl g)) ↦ typedefs_begin begins_decl refl y word g
  | inr (inr (inr (inl g))) ↦ classes_begin begins_decl refl y word g
  | inr (inr (inr (inr g))) ↦ named_decls_begin begins_decl refl refl refl refl refl y word g
]

pub text_exact : (left : ℕ) → IsExact IsText (deep_text left) (wider begins_decl (is sorts.Semicolon)) (text left)
unfolding text
text_exact left = many_exact begins_decl (decl_exact left) decl_begins (not_that begins_decl sorts.Semicolon refl)
