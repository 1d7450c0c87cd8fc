-- What the readers of declarations find is exactly what the grammar has.
use Rattle.std.proofs.Common.{◌≡◌, ℕ, Bool, true, false, ◌⊎◌, inl, inr, List, [], ◌∷◌, refl, sym, ap, subst, ◌∙◌}
use Rattle.nddl_grammar.specs.declared.sort.Sort.{Sort}
use Rattle.eu_name.specs.declared.word.Reserved.TheVariants as keywords
use Rattle.nddl_grammar.specs.declared.sort.Sort.TheVariants as sorts
use Rattle.nddl_grammar.specs.Sorts.{same}
use Rattle.nddl_grammar.specs.Symbols.{PlainSymbol}
use Rattle.nddl_grammar.specs.Readers.{begins, is}
use Rattle.nddl_grammar.specs.Exact.{◌·◌, IsPlaced, IsMark, AreMany, AreListed, BeginsWith, IsExact}
use Rattle.nddl_grammar.proofs.Sequence.{Paired}
use Rattle.nddl_grammar.proofs.Combine.{no_more, no_blocks, mark_exact, place_exact, mark_begins, place_begins, pair_begins, relabelled_exact, widened_exact, choice_exact, MarkOf}
use Rattle.nddl_grammar.proofs.Many.{wider, many_exact}
use Rattle.nddl_grammar.proofs.Choices.{Image, image_exact, image_begins, either_begins, Bound, bound_exact, bound_begins, Beside, beside_exact, some_still, May, may_mark_exact, listed_exact, follows_none}
use Rattle.nddl_ast.specs.declared.name.Name.{Name}
use Rattle.nddl_ast.specs.declared.expression.Expr.{Expr}
use Rattle.nddl_ast.specs.declared.expression.BaseType.{BaseType}
use Rattle.nddl_ast.specs.declared.expression.BaseType.TheVariants as bases
use Rattle.nddl_ast.specs.declared.expression.Bounds.{Bounds}
use Rattle.nddl_ast.specs.declared.expression.Init.{Init}
use Rattle.nddl_ast.specs.declared.declaration.Typed.{Typed}
use Rattle.nddl_ast.specs.declared.declaration.PredicatePart.{PredicatePart}
use Rattle.nddl_ast.specs.declared.declaration.PredicatePart.TheVariants as parts
use Rattle.nddl_ast.specs.declared.declaration.Set.{Set}
use Rattle.nddl_ast.specs.declared.declaration.Set.TheVariants as sets
use Rattle.nddl_ast.specs.declared.declaration.Member.{Member}
use Rattle.nddl_ast.specs.declared.declaration.Member.TheVariants as members
use Rattle.nddl_grammar.specs.Grammar.{IsWrittenName, IsPath, IsInit, IsBase, IsBounds, IsType, IsTyped, IsCall}
use Rattle.nddl_parser.specs.Grammar.{IsPredicatePart, IsSet, IsMember}
use Rattle.nddl_grammar.specs.Productions.{begins_type}
use Rattle.nddl_parser.specs.Productions.{part_after, part_named, part, field_set, super_set, set_item, begins_set, predicate, constructor_after, member_after, member_named, member}
use Rattle.nddl_grammar.proofs.Flat.{front_starts, flat, refuses, apart, ◌>>◌, closed}
use Rattle.nddl_grammar.proofs.ExactExpressions.{name_exact, name_begins, path_begins, more_path, init_exact}
use Rattle.nddl_grammar.proofs.ExactStatements.{to_left, to_right, in_front, typed_exact, typed_begins, IsField, field_exact, field_begins, FieldParts, field_with, field_after_exact, field_after_begins, IsCallEnd, call_end_exact, call_end_begins, DottedParts, dotted_with, dotted_after_exact, dotted_begins, call_with, call_after_exact, path_of_name, name_of_path, call_to, call_from}
use Rattle.nddl_grammar.proofs.ExactPlain.{any, starts_not}

-- ---- fields behind a name

field_to : (first : Name) (p : Bounds × (Name × Unit {0})) (word : List PlainSymbol) → (IsWrittenName first · FieldParts p) word → IsField (field_with first p) word
field_to first p word h =
    to_left (IsType (field_with first p).declared) (IsWrittenName p.1.0) (IsMark sorts.Semicolon) word
    (in_front (IsWrittenName first · IsBounds p.0) (IsType (field_with first p).declared) (IsWrittenName p.1.0 · IsMark sorts.Semicolon) (in_front (IsWrittenName first) (IsBase first.at (bases.Named first)) (IsBounds p.0) (λ w g. (g, refl))) word
    (to_left (IsWrittenName first) (IsBounds p.0) (IsWrittenName p.1.0 · IsMark sorts.Semicolon) word h))

abbrev typed_of : ℕ → BaseType → Bounds → Name → Typed
typed_of at base bounds name = record { declared = record { at = at; base = base; bounds = bounds }; name = name }

field_from : (at : ℕ) (first : Name) (b : Bounds) (n : Name) (word : List PlainSymbol) → IsField (typed_of at (bases.Named first) b n) word → (at ≡ first.at) × (IsWrittenName first · FieldParts (b, (n, tt))) word
field_from at first b n word h =
    let g = to_right (IsType (typed_of at (bases.Named first) b n).declared) (IsWrittenName n) (IsMark sorts.Semicolon) word h in (
      g.3.3.1,
      to_right (IsWrittenName first) (IsBounds b) (IsWrittenName n · IsMark sorts.Semicolon) word (in_front (IsType (typed_of at (bases.Named first) b n).declared) (IsWrittenName first · IsBounds b) (IsWrittenName n · IsMark sorts.Semicolon) (in_front (IsBase at (bases.Named first)) (IsWrittenName first) (IsBounds b) (λ w f. f.0)) word g),
    )

-- a field's type begins with a name, or with a word that is none
abbrev Fields : Typed → List PlainSymbol → Type 0
Fields t word = Bound IsWrittenName (λ first. Image (field_with first) FieldParts) t word ⊎ (IsField t word × (begins (is sorts.Name) word ≡ false))

other_base : (sort : Sort) → refuses (is sorts.Name) sort ≡ true → (at : ℕ) (base : BaseType) (b : Bounds) (n : Name) (word : List PlainSymbol) → ((w : List PlainSymbol) → IsBase at base w → IsPlaced sort at w)
    → IsField (typed_of at base b n) word → begins (is sorts.Name) word ≡ false
other_base sort holds at base b n word placed h =
    starts_not (is sorts.Name) word
    (front_starts (refuses (is sorts.Name)) (IsTyped (typed_of at base b n)) (IsMark sorts.Semicolon)
    (front_starts (refuses (is sorts.Name)) (IsType (typed_of at base b n).declared) (IsWrittenName n) (front_starts (refuses (is sorts.Name)) (IsBase at base) (IsBounds b) (λ w g. place_begins sort (refuses (is sorts.Name)) holds at w (placed w g)))) word h)

fields_of : (at : ℕ) (base : BaseType) (b : Bounds) (n : Name) (word : List PlainSymbol) → IsField (typed_of at base b n) word → Fields (typed_of at base b n) word
unfolding same refuses
fields_of at (bases.Named first) b n word h =
    let g = field_from at first b n word h in
    inl (first, (g.1.0, g.1.1, g.1.2, g.1.3, ((b, (n, tt)), (λ i. typed_of (g.0 i) (bases.Named first) b n), g.1.4)))
fields_of at bases.Int b n word h = inr (h, other_base (sorts.Word keywords.Int) refl at bases.Int b n word (λ w g. g) h)
fields_of at bases.Float b n word h = inr (h, other_base (sorts.Word keywords.Float) refl at bases.Float b n word (λ w g. g) h)
fields_of at bases.Bool b n word h = inr (h, other_base (sorts.Word keywords.Bool) refl at bases.Bool b n word (λ w g. g) h)
fields_of at bases.Str b n word h = inr (h, other_base (sorts.Word keywords.Str) refl at bases.Str b n word (λ w g. g) h)

-- ---- the bodies of predicates

abbrev PartAfter : Name → PredicatePart → List PlainSymbol → Type 0
PartAfter first y w = Image parts.Constraint (Image (call_with first) IsCallEnd) y w ⊎ (Image parts.Constraint (Image (dotted_with first) DottedParts) y w ⊎ Image parts.Parameter (Image (field_with first) FieldParts) y w)

part_after_exact : (first : Name) → IsExact (PartAfter first) no_blocks no_more (part_after first)
unfolding part_after same refuses
part_after_exact first = choice_exact (is sorts.ParenOpen) (image_exact no_blocks parts.Constraint (call_after_exact first) (λ x. refl))
    (choice_exact (is sorts.Point) (image_exact no_blocks parts.Constraint (dotted_after_exact first) (λ x. refl)) (image_exact no_blocks parts.Parameter (field_after_exact first) (λ x. refl))
    (image_begins parts.Constraint (is sorts.Point) (dotted_begins (is sorts.Point) refl first))
    (apart (Image parts.Parameter (Image (field_with first) FieldParts)) (is sorts.Point) no_more (image_begins parts.Parameter (refuses (is sorts.Point)) (field_after_begins (refuses (is sorts.Point)) refl refl refl first))))
    (image_begins parts.Constraint (is sorts.ParenOpen) (image_begins (call_with first) (is sorts.ParenOpen) (call_end_begins (is sorts.ParenOpen) refl)))
    (apart (λ y w. Image parts.Constraint (Image (dotted_with first) DottedParts) y w ⊎ Image parts.Parameter (Image (field_with first) FieldParts) y w) (is sorts.ParenOpen) no_more
    (either_begins (refuses (is sorts.ParenOpen)) (image_begins parts.Constraint (refuses (is sorts.ParenOpen)) (dotted_begins (refuses (is sorts.ParenOpen)) refl first)) (image_begins parts.Parameter (refuses (is sorts.ParenOpen)) (field_after_begins (refuses (is sorts.ParenOpen)) refl refl refl first))))

abbrev Parts : PredicatePart → List PlainSymbol → Type 0
Parts y word = Bound IsWrittenName PartAfter y word ⊎ Beside (is sorts.Name) (Image parts.Parameter IsField) y word

parts_to : (y : PredicatePart) (word : List PlainSymbol) → Parts y word → IsPredicatePart y word
parts_to y word (inl (first, h)) = elim h.4 as (λ f. IsPredicatePart y word) [
  | inl call ↦ subst (λ (z : PredicatePart). IsPredicatePart z word) (sym (call.1 ∙ ap parts.Constraint call.2.1)) (h.0, h.1, h.2, path_of_name first h.0 h.3, call.2.2)
  | inr (inl dotted) ↦ subst (λ (z : PredicatePart). IsPredicatePart z word) (sym (dotted.1 ∙ ap parts.Constraint dotted.2.1)) (call_to first dotted.2.0 word (h.0, h.1, h.2, h.3, dotted.2.2))
  | inr (inr field) ↦ subst (λ (z : PredicatePart). IsPredicatePart z word) (sym (field.1 ∙ ap parts.Parameter field.2.1)) (field_to first field.2.0 word (h.0, h.1, h.2, h.3, field.2.2))
]
parts_to y word (inr h) = subst (λ (z : PredicatePart). IsPredicatePart z word) (sym h.0.1) h.0.2

part_call : (first : Name) (rest : List Name) (list : List Expr) (word : List PlainSymbol) → IsCall (record { path = record { first = first; rest = rest }; arguments = list }) word
    → Bound IsWrittenName PartAfter (parts.Constraint (record { path = record { first = first; rest = rest }; arguments = list })) word
part_call first [] list word h = (first, (h.0, h.1, h.2, name_of_path first h.0 h.3, inl (call_with first list, refl, (list, refl, h.4))))
part_call first (x ∷ xs) list word h =
    let g = call_from first x xs list word h in
    (first, (g.0, g.1, g.2, g.3, inr (inl (dotted_with first (x ∷ xs, list), refl, ((x ∷ xs, list), refl, g.4)))))

parts_from : (y : PredicatePart) (word : List PlainSymbol) → IsPredicatePart y word → Parts y word
parts_from (parts.Constraint c) word h = inl (part_call c.path.first c.path.rest c.arguments word h)
parts_from (parts.Parameter t) word h = elim (fields_of t.declared.at t.declared.base t.declared.bounds t.name word h) as (λ f. Parts (parts.Parameter t) word) [
  | inl g ↦ inl (g.0, (g.1.0, g.1.1, g.1.2, g.1.3, inr (inr (t, refl, g.1.4))))
  | inr g ↦ inr ((t, refl, g.0), g.1)
]

part_exact : IsExact IsPredicatePart no_blocks no_more part
unfolding part part_named same refuses
part_exact = relabelled_exact IsPredicatePart no_blocks
    (beside_exact (is sorts.Name)
    (bound_exact PartAfter no_blocks no_more part_after name_exact part_after_exact (λ first. follows_none (PartAfter first) no_more))
    (image_exact no_blocks parts.Parameter field_exact (λ x. refl))
    (bound_begins PartAfter (is sorts.Name) (name_begins (is sorts.Name) refl))
    (λ y word after h none out. some_still (Image parts.Parameter IsField) (is sorts.Name) any (image_begins parts.Parameter any (field_begins any refl refl refl refl refl)) y word after h none))
    parts_to parts_from (λ y. refl)

part_begins : (test : Sort → Bool) → test (sorts.Word keywords.Int) ≡ true → test (sorts.Word keywords.Float) ≡ true → test (sorts.Word keywords.Bool) ≡ true → test (sorts.Word keywords.Str) ≡ true → test sorts.Name ≡ true → BeginsWith IsPredicatePart test
part_begins test i f b s n (parts.Parameter t) word h = field_begins test i f b s n t word h
part_begins test i f b s n (parts.Constraint c) word h = front_starts test (IsPath c.path) _ (path_begins test n c.path) word h

-- ---- the bodies of constructors

abbrev FieldSet : Name × (Unit {0} × (Init × Unit {0})) → List PlainSymbol → Type 0
FieldSet = Paired IsWrittenName (Paired (MarkOf sorts.Assign) (Paired IsInit (MarkOf sorts.Semicolon)))

abbrev field_set_of : Name × (Unit {0} × (Init × Unit {0})) → Set
field_set_of p = sets.Field p.0 p.1.1.0

abbrev SuperSet : ℕ × List Expr → List PlainSymbol → Type 0
SuperSet = Paired (IsPlaced (sorts.Word keywords.Super)) IsCallEnd

abbrev super_set_of : ℕ × List Expr → Set
super_set_of p = sets.Super p.0 p.1

abbrev Sets : Set → List PlainSymbol → Type 0
Sets y word = Image super_set_of SuperSet y word ⊎ Image field_set_of FieldSet y word

sets_to : (y : Set) (word : List PlainSymbol) → Sets y word → IsSet y word
sets_to y word (inl (p, eq, h)) = subst (λ (z : Set). IsSet z word) (sym eq) h
sets_to y word (inr (p, eq, h)) = subst (λ (z : Set). IsSet z word) (sym eq) h

sets_from : (y : Set) (word : List PlainSymbol) → IsSet y word → Sets y word
sets_from (sets.Field name value) word h = inr ((name, (tt, (value, tt))), refl, h)
sets_from (sets.Super at list) word h = inl ((at, list), refl, h)

set_exact : IsExact IsSet no_blocks no_more set_item
unfolding set_item super_set field_set same refuses
set_exact = relabelled_exact IsSet no_blocks
    (choice_exact (is (sorts.Word keywords.Super)) (image_exact no_blocks super_set_of (place_exact (sorts.Word keywords.Super) >> call_end_exact) (λ x. refl))
    (image_exact no_blocks field_set_of (name_exact >> mark_exact sorts.Assign >> closed init_exact (mark_exact sorts.Semicolon) (mark_begins sorts.Semicolon (refuses more_path) refl)) (λ x. refl))
    (image_begins super_set_of (is (sorts.Word keywords.Super)) (pair_begins IsCallEnd (is (sorts.Word keywords.Super)) (place_begins (sorts.Word keywords.Super) (is (sorts.Word keywords.Super)) refl)))
    (apart (Image field_set_of FieldSet) (is (sorts.Word keywords.Super)) no_more (image_begins field_set_of (refuses (is (sorts.Word keywords.Super))) (pair_begins _ (refuses (is (sorts.Word keywords.Super))) (name_begins (refuses (is (sorts.Word keywords.Super))) refl)))))
    sets_to sets_from (λ y. refl)

set_begins : BeginsWith IsSet begins_set
set_begins (sets.Field name value) word h = front_starts begins_set (IsWrittenName name) _ (name_begins begins_set refl name) word h
set_begins (sets.Super at list) word h = front_starts begins_set (IsPlaced (sorts.Word keywords.Super) at) _ (place_begins (sorts.Word keywords.Super) begins_set refl at) word h

-- ---- members

abbrev PredicateParts : ℕ × (Name × (Unit {0} × (List PredicatePart × (Unit {0} × Unit {0})))) → List PlainSymbol → Type 0
PredicateParts = Paired (IsPlaced (sorts.Word keywords.Predicate)) (Paired IsWrittenName (Paired (MarkOf sorts.BraceOpen) (Paired (AreMany IsPredicatePart) (Paired (MarkOf sorts.BraceClose) (May sorts.Semicolon)))))

abbrev predicate_of : ℕ × (Name × (Unit {0} × (List PredicatePart × (Unit {0} × Unit {0})))) → Member
predicate_of p = members.Predicate p.0 p.1.0 p.1.1.1.0

predicate_exact : IsExact (Image predicate_of PredicateParts) no_blocks (is sorts.Semicolon) predicate
unfolding predicate same refuses
predicate_exact = image_exact no_blocks predicate_of
    (place_exact (sorts.Word keywords.Predicate) >> name_exact >> mark_exact sorts.BraceOpen
    >> closed (flat (many_exact begins_type part_exact (part_begins begins_type refl refl refl refl refl) (λ sort holds. refl))) (mark_exact sorts.BraceClose >> may_mark_exact sorts.Semicolon)
    (pair_begins (May sorts.Semicolon) (refuses (wider begins_type no_more)) (mark_begins sorts.BraceClose (refuses (wider begins_type no_more)) refl)))
    (λ p. refl)

abbrev ConstructorParts : Unit {0} × (List Typed × (Unit {0} × (Unit {0} × (List Set × Unit {0})))) → List PlainSymbol → Type 0
ConstructorParts = Paired (MarkOf sorts.ParenOpen) (Paired (AreListed sorts.Comma IsTyped) (Paired (MarkOf sorts.ParenClose) (Paired (MarkOf sorts.BraceOpen) (Paired (AreMany IsSet) (MarkOf sorts.BraceClose)))))

abbrev constructor_with : Name → Unit {0} × (List Typed × (Unit {0} × (Unit {0} × (List Set × Unit {0})))) → Member
constructor_with first p = members.Constructor first p.1.0 p.1.1.1.1.0

constructor_after_exact : (first : Name) → IsExact (Image (constructor_with first) ConstructorParts) no_blocks no_more (constructor_after first)
unfolding constructor_after same refuses
constructor_after_exact first = image_exact no_blocks (constructor_with first)
    (mark_exact sorts.ParenOpen
    >> closed (flat (listed_exact begins_type sorts.Comma typed_exact (typed_begins begins_type refl refl refl refl refl) (λ other holds. refl)))
    (mark_exact sorts.ParenClose >> mark_exact sorts.BraceOpen >> closed (flat (many_exact begins_set set_exact set_begins (λ sort holds. refl))) (mark_exact sorts.BraceClose) (mark_begins sorts.BraceClose (refuses (wider begins_set no_more)) refl))
    (pair_begins _ (refuses (wider begins_type (wider (is sorts.Comma) no_more))) (mark_begins sorts.ParenClose (refuses (wider begins_type (wider (is sorts.Comma) no_more))) refl)))
    (λ p. refl)

constructor_begins : (test : Sort → Bool) → test sorts.ParenOpen ≡ true → (first : Name) → BeginsWith (Image (constructor_with first) ConstructorParts) test
constructor_begins test holds first y word (p, eq, h) = front_starts test (IsMark sorts.ParenOpen) _ (mark_begins sorts.ParenOpen test holds tt) word h

abbrev MemberAfter : Name → Member → List PlainSymbol → Type 0
MemberAfter first y w = Image (constructor_with first) ConstructorParts y w ⊎ Image members.Field (Image (field_with first) FieldParts) y w

member_after_exact : (first : Name) → IsExact (MemberAfter first) no_blocks no_more (member_after first)
unfolding member_after same refuses
member_after_exact first = choice_exact (is sorts.ParenOpen) (constructor_after_exact first) (image_exact no_blocks members.Field (field_after_exact first) (λ x. refl))
    (constructor_begins (is sorts.ParenOpen) refl first)
    (apart (Image members.Field (Image (field_with first) FieldParts)) (is sorts.ParenOpen) no_more (image_begins members.Field (refuses (is sorts.ParenOpen)) (field_after_begins (refuses (is sorts.ParenOpen)) refl refl refl first)))

abbrev NamedMembers : Member → List PlainSymbol → Type 0
NamedMembers y word = Bound IsWrittenName MemberAfter y word ⊎ Beside (is sorts.Name) (Image members.Field IsField) y word

abbrev Members : Member → List PlainSymbol → Type 0
Members y word = Image predicate_of PredicateParts y word ⊎ NamedMembers y word

members_to : (y : Member) (word : List PlainSymbol) → Members y word → IsMember y word
members_to y word (inl (p, eq, h)) = subst (λ (z : Member). IsMember z word) (sym eq) h
members_to y word (inr (inl (first, h))) = elim h.4 as (λ f. IsMember y word) [
  | inl make ↦ subst (λ (z : Member). IsMember z word) (sym make.1) (h.0, h.1, h.2, h.3, make.2)
  | inr field ↦ subst (λ (z : Member). IsMember z word) (sym (field.1 ∙ ap members.Field field.2.1)) (field_to first field.2.0 word (h.0, h.1, h.2, h.3, field.2.2))
]
members_to y word (inr (inr h)) = subst (λ (z : Member). IsMember z word) (sym h.0.1) h.0.2

members_from : (y : Member) (word : List PlainSymbol) → IsMember y word → Members y word
members_from (members.Predicate at name list) word h = inl ((at, (name, (tt, (list, (tt, tt))))), refl, h)
members_from (members.Constructor name formals list) word h = inr (inl (name, (h.0, h.1, h.2, h.3, inl ((tt, (formals, (tt, (tt, (list, tt))))), refl, h.4))))
members_from (members.Field t) word h = elim (fields_of t.declared.at t.declared.base t.declared.bounds t.name word h) as (λ f. Members (members.Field t) word) [
  | inl g ↦ inr (inl (g.0, (g.1.0, g.1.1, g.1.2, g.1.3, inr (t, refl, g.1.4))))
  | inr g ↦ inr (inr ((t, refl, g.0), g.1))
]

predicate_begins : (test : Sort → Bool) → test (sorts.Word keywords.Predicate) ≡ true → BeginsWith (Image predicate_of PredicateParts) test
predicate_begins test holds y word (p, eq, h) = front_starts test (IsPlaced (sorts.Word keywords.Predicate) p.0) _ (place_begins (sorts.Word keywords.Predicate) test holds p.0) word h

pub member_begins : (test : Sort → Bool) → test (sorts.Word keywords.Predicate) ≡ true → test (sorts.Word keywords.Int) ≡ true → test (sorts.Word keywords.Float) ≡ true → test (sorts.Word keywords.Bool) ≡ true → test (sorts.Word keywords.Str) ≡ true → test sorts.Name ≡ true → BeginsWith IsMember test
member_begins test p i f b s n (members.Field t) word h = field_begins test i f b s n t word h
member_begins test p i f b s n (members.Predicate at name list) word h = front_starts test (IsPlaced (sorts.Word keywords.Predicate) at) _ (place_begins (sorts.Word keywords.Predicate) test p at) word h
member_begins test p i f b s n (members.Constructor name formals list) word h = front_starts test (IsWrittenName name) _ (name_begins test n name) word h

named_members_begin : (test : Sort → Bool) → test (sorts.Word keywords.Int) ≡ true → test (sorts.Word keywords.Float) ≡ true → test (sorts.Word keywords.Bool) ≡ true → test (sorts.Word keywords.Str) ≡ true → test sorts.Name ≡ true → BeginsWith NamedMembers test
named_members_begin test i f b s n y word (inl h) = bound_begins MemberAfter test (name_begins test n) y word h
named_members_begin test i f b s n y word (inr h) = field_begins test i f b s n h.0.0 word h.0.2

pub member_exact : IsExact IsMember no_blocks (is sorts.Semicolon) member
unfolding member member_named same refuses
member_exact = relabelled_exact IsMember no_blocks
    (choice_exact (is (sorts.Word keywords.Predicate)) predicate_exact
    (widened_exact (is sorts.Semicolon)
    (beside_exact (is sorts.Name)
    (bound_exact MemberAfter no_blocks no_more member_after name_exact member_after_exact (λ first. follows_none (MemberAfter first) no_more))
    (image_exact no_blocks members.Field field_exact (λ x. refl))
    (bound_begins MemberAfter (is sorts.Name) (name_begins (is sorts.Name) refl))
    (λ y word after h none out. some_still (Image members.Field IsField) (is sorts.Name) any (image_begins members.Field any (field_begins any refl refl refl refl refl)) y word after h none))
    (λ sort out. refl))
    (predicate_begins (is (sorts.Word keywords.Predicate)) refl)
    (apart NamedMembers (is (sorts.Word keywords.Predicate)) (is sorts.Semicolon) (named_members_begin (refuses (is (sorts.Word keywords.Predicate))) refl refl refl refl refl)))
    members_to members_from (λ y. refl)
