-- No two locals or slots of the text of a rule are declared at one place.
use Rattle.std.proofs.Common.{◌≡◌, ℕ, zero, suc, ◌<◌, ◌⊎◌, inl, inr, Bool, true, false, List, [], ◌∷◌, ◌++◌, refl, sym, subst, append_assoc, arith}
use Rattle.std.specs.Prelude.{Option, Some, None, All, AllPairs, is_some, slice_get, if◌then◌else◌}
use Rattle.std.specs.List.{flat_map}
use Rattle.std.specs.Option.{option_map_or}
use Rattle.std.proofs.lemmas.Bool.{cases_order}
use Rattle.std.proofs.lemmas.List.Elements.{All-cons, All-head, All-nil, All-tail}
use Rattle.std.proofs.lemmas.List.Kept.{AllPairs-cons}
use Rattle.model_core.proofs.Distinct.{pairs_back}
use Rattle.model_core.proofs.Items.{item_all, item_is, item_within}
use Rattle.nddl_ast.specs.declared.declaration.Decl.{Decl}
use Rattle.nddl_ast.specs.declared.declaration.Decl.TheVariants as decls
use Rattle.nddl_ast.specs.declared.declaration.Member.{Member}
use Rattle.nddl_ast.specs.declared.declaration.Member.TheVariants as members
use Rattle.nddl_ast.specs.declared.declaration.PredicatePart.{PredicatePart}
use Rattle.nddl_ast.specs.declared.declaration.PredicatePart.TheVariants as parts
use Rattle.nddl_ast.specs.declared.expression.Expr.{Expr}
use Rattle.nddl_ast.specs.declared.expression.Expr.TheVariants as exprs
use Rattle.nddl_ast.specs.declared.name.Name.{Name}
use Rattle.nddl_ast.specs.declared.statement.Call.{Call}
use Rattle.nddl_ast.specs.declared.statement.Variable.{Variable}
use Rattle.nddl_ast.specs.Block.{statements_of}
use Rattle.nddl_ast.specs.Tree.{Statements, Nothing, Declares, Calls, Asks, Tests, Chooses, Repeats}
use Rattle.nddl_rule_check.specs.Constraints.{relation_named}
use Rattle.nddl_symbols.specs.Joined.{joined_decls}
use Rattle.nddl_laws.specs.Nodes.{ask_nodes, call_nodes, condition_nodes, decl_nodes, expr_nodes, member_nodes, names_nodes, parent_nodes, part_nodes, path_nodes, start_nodes, statements_nodes, type_nodes, variable_nodes}
use Rattle.nddl_laws.specs.Trees.{IsJoinedDecl}
use Rattle.nddl_laws.proofs.Each.{each_joined}
use Rattle.nddl_rules.specs.declared.places.TextPlace.{TextPlace}
use Rattle.nddl_rules.specs.Collected.{decl_statements, member_statements, part_statements, text_statements}
use Rattle.nddl_unroll.specs.Places.{asked_place, call_place, place_if_more}
use Rattle.nddl_lowering_laws.specs.Scoped.{AreApart, local_places, slot_places}
use Rattle.nddl_lowering_laws.specs.Seen.{PlacesAreApart}
use Rattle.nddl_lowering_laws.proofs.EachTree.{trees_so}

-- ---- lists that are parts of others

-- these are some of those, in their order
abbrev AreOf : List ℕ → List ℕ → Type 0
AreOf [] nodes = Unit {0}
AreOf (place ∷ places) [] = ⊥
AreOf (place ∷ places) (node ∷ nodes) = ((place ≡ node) × AreOf places nodes) ⊎ AreOf (place ∷ places) nodes

of_more : (places : List ℕ) (node : ℕ) (nodes : List ℕ) → AreOf places nodes → AreOf places (node ∷ nodes)
of_more [] node nodes are = tt
of_more (place ∷ places) node nodes are = inr are

of_back : (places front back : List ℕ) → AreOf places back → AreOf places (front ++ back)
of_back places [] back are = are
of_back places (node ∷ front) back are = of_more places node (front ++ back) (of_back places front back are)

of_both : (one other front back : List ℕ) → AreOf one front → AreOf other back → AreOf (one ++ other) (front ++ back)
of_both [] other front back first second = of_back other front back second
of_both (place ∷ one) other [] back first second = absurd first
of_both (place ∷ one) other (node ∷ front) back (inl here) second = inl (here.0, of_both one other front back here.1 second)
of_both (place ∷ one) other (node ∷ front) back (inr later) second = inr (of_both (place ∷ one) other front back later second)

of_front : (places front back : List ℕ) → AreOf places front → AreOf places (front ++ back)
of_front [] front back are = tt
of_front (place ∷ places) [] back are = absurd are
of_front (place ∷ places) (node ∷ front) back (inl here) = inl (here.0, of_front places front back here.1)
of_front (place ∷ places) (node ∷ front) back (inr later) = inr (of_front (place ∷ places) front back later)

abbrev AreRising : List ℕ → Type 0
AreRising nodes = AllPairs (λ one other. one < other) nodes

of_above : (least : ℕ) (places nodes : List ℕ) → AreOf places nodes → All (λ node. least < node) nodes → All (λ place. least < place) places
of_above least [] nodes are above = All-nil (λ place. least < place)
of_above least (place ∷ places) [] are above = absurd are
of_above least (place ∷ places) (node ∷ nodes) (inl here) above =
    let first : least < node = All-head (λ n. least < n) node nodes above in
    let same : place ≡ node = here.0 in
    All-cons (λ n. least < n) place places (omega (arith, first, same))
    (of_above least places nodes here.1 (All-tail (λ n. least < n) node nodes above))
of_above least (place ∷ places) (node ∷ nodes) (inr later) above =
    of_above least (place ∷ places) nodes later (All-tail (λ n. least < n) node nodes above)

first_below : (node : ℕ) (nodes : List ℕ) → AreRising (node ∷ nodes) → All (λ other. node < other) nodes
first_below node nodes rising k d within = rising 0 (suc k) d (omega arith) (omega (arith, within))

of_rising : (places nodes : List ℕ) → AreOf places nodes → AreRising nodes → AreRising places
of_rising [] nodes are rising = λ i j d below within. absurd (omega (arith, within))
of_rising (place ∷ places) [] are rising = absurd are
of_rising (place ∷ places) (node ∷ nodes) (inl here) rising =
    let rest = pairs_back (λ one other. one < other) (node ∷ []) nodes rising in
    let above = of_above node places nodes here.1 (first_below node nodes rising) in
    AllPairs-cons (λ (one other : ℕ). one < other) place places
    (subst (λ (least : ℕ). All (λ other. least < other) places) (sym here.0) above) (of_rising places nodes here.1 rest)
of_rising (place ∷ places) (node ∷ nodes) (inr later) rising =
    of_rising (place ∷ places) nodes later (pairs_back (λ one other. one < other) (node ∷ []) nodes rising)

rising_apart : (places : List ℕ) → AreRising places → AreApart places
rising_apart places rising one other at first second = by (cases_order one other)
  where
    by : (one ≡ other) ⊎ ((one < other) ⊎ (other < one)) → one ≡ other
    by (inl same) = same
    by (inr (inl less)) =
        absurd (omega (arith, rising one other at less (item_within places other at second), item_is places one at at first, item_is places other at at second))
    by (inr (inr more)) =
        absurd (omega (arith, rising other one at more (item_within places one at first), item_is places one at at first, item_is places other at at second))

assoc : (one other more : List ℕ) → (one ++ other) ++ more ≡ one ++ (other ++ more)
assoc one other more = append_assoc one other more

-- ---- places at nodes

variable_of : (variable : Variable) → AreOf (variable.name.at ∷ []) (variable_nodes variable)
variable_of variable =
    of_back (variable.name.at ∷ []) (type_nodes variable.declared) (variable.name.at ∷ start_nodes variable.init) (inl (refl, tt))

locals_of : (stmts : Statements) → AreOf (local_places stmts) (statements_nodes stmts)
locals_of Nothing = tt
locals_of (Declares variable more) =
    of_both (variable.name.at ∷ []) (local_places more) (variable_nodes variable) (statements_nodes more) (variable_of variable) (locals_of more)
locals_of (Calls call more) = of_back (local_places more) (call_nodes call) (statements_nodes more) (locals_of more)
locals_of (Asks ask more) = of_back (local_places more) (ask_nodes ask) (statements_nodes more) (locals_of more)
locals_of (Tests at condition then_at inside more) =
    of_both (local_places inside) (local_places more) (at ∷ (condition_nodes condition ++ then_at ∷ statements_nodes inside))
    (statements_nodes more)
    (of_more (local_places inside) at (condition_nodes condition ++ then_at ∷ statements_nodes inside)
    (of_back (local_places inside) (condition_nodes condition) (then_at ∷ statements_nodes inside)
    (of_more (local_places inside) then_at (statements_nodes inside) (locals_of inside))))
    (locals_of more)
locals_of (Chooses at condition then_at inside else_at other more) =
    let blocks = (then_at ∷ statements_nodes inside) ++ statements_nodes other in
    let those = local_places inside ++ local_places other in
    subst (λ (list : List ℕ). AreOf list ((at ∷ (condition_nodes condition ++ blocks)) ++ statements_nodes more))
    (assoc (local_places inside) (local_places other) (local_places more))
    (of_both those (local_places more) (at ∷ (condition_nodes condition ++ blocks)) (statements_nodes more)
    (of_more those at (condition_nodes condition ++ blocks)
    (of_back those (condition_nodes condition) blocks
    (of_both (local_places inside) (local_places other) (then_at ∷ statements_nodes inside) (statements_nodes other)
    (of_more (local_places inside) then_at (statements_nodes inside) (locals_of inside)) (locals_of other))))
    (locals_of more))
locals_of (Repeats at name class body_at body more) =
    of_both (local_places body) (local_places more) (at ∷ (name.at ∷ (class.at ∷ (body_at ∷ statements_nodes body)))) (statements_nodes more)
    (of_back (local_places body) (at ∷ (name.at ∷ (class.at ∷ (body_at ∷ [])))) (statements_nodes body) (locals_of body))
    (locals_of more)

named_of : (at : ℕ) (names : List Name) (nodes : List ℕ) → AreOf (place_if_more at names) (at ∷ nodes)
named_of at [] nodes = tt
named_of at (name ∷ more) nodes = inl (refl, tt)

asked_of : (at : ℕ) (some : List Expr) (nodes : List ℕ) → AreOf (asked_place at some) (at ∷ nodes)
asked_of at [] nodes = tt
asked_of at (exprs.Literal literal ∷ more) nodes = tt
asked_of at (exprs.Path path ∷ (next ∷ more)) nodes = tt
asked_of at (exprs.Path path ∷ []) nodes = named_of at path.rest nodes

call_if : (call : Call) (so : Bool) → AreOf (if so then asked_place call.path.first.at call.arguments else []) (call_nodes call)
call_if call true = asked_of call.path.first.at call.arguments (names_nodes call.path.rest ++ flat_map expr_nodes call.arguments)
call_if call false = tt

call_of : (call : Call) → AreOf (call_place call) (call_nodes call)
call_of call = call_if call (is_some (relation_named call.path.first.text))

slots_of : (stmts : Statements) → AreOf (slot_places stmts) (statements_nodes stmts)
slots_of Nothing = tt
slots_of (Declares variable more) = of_back (slot_places more) (variable_nodes variable) (statements_nodes more) (slots_of more)
slots_of (Calls call more) =
    of_both (call_place call) (slot_places more) (call_nodes call) (statements_nodes more) (call_of call) (slots_of more)
slots_of (Asks ask more) =
    of_both (ask.label.at ∷ []) (slot_places more) (ask_nodes ask) (statements_nodes more)
    (of_more (ask.label.at ∷ []) ask.word.at (path_nodes ask.path ++ ask.label.at ∷ [])
    (of_back (ask.label.at ∷ []) (path_nodes ask.path) (ask.label.at ∷ []) (inl (refl, tt))))
    (slots_of more)
slots_of (Tests at condition then_at inside more) =
    of_both (slot_places inside) (slot_places more) (at ∷ (condition_nodes condition ++ then_at ∷ statements_nodes inside))
    (statements_nodes more)
    (of_more (slot_places inside) at (condition_nodes condition ++ then_at ∷ statements_nodes inside)
    (of_back (slot_places inside) (condition_nodes condition) (then_at ∷ statements_nodes inside)
    (of_more (slot_places inside) then_at (statements_nodes inside) (slots_of inside))))
    (slots_of more)
slots_of (Chooses at condition then_at inside else_at other more) =
    let blocks = (then_at ∷ statements_nodes inside) ++ statements_nodes other in
    let those = slot_places inside ++ slot_places other in
    subst (λ (list : List ℕ). AreOf list ((at ∷ (condition_nodes condition ++ blocks)) ++ statements_nodes more))
    (assoc (slot_places inside) (slot_places other) (slot_places more))
    (of_both those (slot_places more) (at ∷ (condition_nodes condition ++ blocks)) (statements_nodes more)
    (of_more those at (condition_nodes condition ++ blocks)
    (of_back those (condition_nodes condition) blocks
    (of_both (slot_places inside) (slot_places other) (then_at ∷ statements_nodes inside) (statements_nodes other)
    (of_more (slot_places inside) then_at (statements_nodes inside) (slots_of inside)) (slots_of other))))
    (slots_of more))
slots_of (Repeats at name class body_at body more) =
    of_both (slot_places body) (slot_places more) (at ∷ (name.at ∷ (class.at ∷ (body_at ∷ statements_nodes body)))) (statements_nodes more)
    (of_back (slot_places body) (at ∷ (name.at ∷ (class.at ∷ (body_at ∷ [])))) (statements_nodes body) (slots_of body))
    (slots_of more)

-- ---- declarations

-- the places of both sorts are at these nodes
abbrev BothOf : Statements → List ℕ → Type 0
BothOf stmts nodes = AreOf (local_places stmts) nodes × AreOf (slot_places stmts) nodes

both_back : (stmts : Statements) (front back : List ℕ) → BothOf stmts back → BothOf stmts (front ++ back)
both_back stmts front back are = (of_back (local_places stmts) front back are.0, of_back (slot_places stmts) front back are.1)

both_front : (stmts : Statements) (front back : List ℕ) → BothOf stmts front → BothOf stmts (front ++ back)
both_front stmts front back are = (of_front (local_places stmts) front back are.0, of_front (slot_places stmts) front back are.1)

parts_of : (some : List PredicatePart) → BothOf (statements_of (part_statements some)) (flat_map part_nodes some)
parts_of [] = (tt, tt)
parts_of (parts.Parameter typed ∷ more) =
    both_back (statements_of (part_statements more)) (part_nodes (parts.Parameter typed)) (flat_map part_nodes more) (parts_of more)
parts_of (parts.Constraint call ∷ more) =
    let rest = statements_of (part_statements more) in
    let behind = parts_of more in (
      of_back (local_places rest) (call_nodes call) (flat_map part_nodes more) behind.0,
      of_both (call_place call) (slot_places rest) (call_nodes call) (flat_map part_nodes more) (call_of call) behind.1,
    )

member_of : (member : Member) → BothOf (member_statements member) (member_nodes member)
member_of (members.Predicate at name some) =
    both_back (statements_of (part_statements some)) (at ∷ (name.at ∷ [])) (flat_map part_nodes some) (parts_of some)
member_of (members.Field typed) = (tt, tt)
member_of (members.Constructor name formals sets) = (tt, tt)

members_of : (place : ℕ) (some : List Member) → BothOf (option_map_or member_statements (slice_get some place) Nothing) (flat_map member_nodes some)
members_of zero [] = (tt, tt)
members_of (suc place) [] = (tt, tt)
members_of zero (member ∷ more) = both_front (member_statements member) (member_nodes member) (flat_map member_nodes more) (member_of member)
members_of (suc place) (member ∷ more) =
    both_back (option_map_or member_statements (slice_get more place) Nothing) (member_nodes member) (flat_map member_nodes more)
    (members_of place more)

decl_of : (member : Option ℕ) (decl : Decl) → BothOf (decl_statements member decl) (decl_nodes decl)
decl_of None (decls.Rule class predicate body) =
    both_back body.statements (class.at ∷ (predicate.at ∷ (body.at ∷ []))) (statements_nodes body.statements)
    (locals_of body.statements, slots_of body.statements)
decl_of (Some place) (decls.Class at name parent some) =
    let those = option_map_or member_statements (slice_get some place) Nothing in
    both_back those (at ∷ (name.at ∷ parent_nodes parent)) (flat_map member_nodes some) (members_of place some)
decl_of None decl = (tt, tt)
decl_of (Some place) decl = (tt, tt)

-- ---- rules

abbrev HaveApart : Statements → Type 0
HaveApart stmts = AreApart (local_places stmts) × AreApart (slot_places stmts)

none_apart : AreApart []
none_apart one other at first second = absurd (let never : None ≡ Some at = first in cc)

found_apart : (member : Option ℕ) (found : Option Decl) → ((decl : Decl) → found ≡ Some decl → IsJoinedDecl decl)
    → HaveApart (option_map_or (decl_statements member) found Nothing)
found_apart member None each = (none_apart, none_apart)
found_apart member (Some decl) each =
    let rising = (each decl refl).rising in
    let are = decl_of member decl in
    let stmts = decl_statements member decl in (
      rising_apart (local_places stmts) (of_rising (local_places stmts) (decl_nodes decl) are.0 rising),
      rising_apart (slot_places stmts) (of_rising (slot_places stmts) (decl_nodes decl) are.1 rising),
    )

text_apart : (program : List Decl) → All IsJoinedDecl program → (place : TextPlace) → HaveApart (text_statements program place)
text_apart program joined place =
    found_apart place.member (slice_get program place.decl) (λ decl is. item_all IsJoinedDecl program place.decl decl joined is)

pub places_apart : PlacesAreApart
places_apart table files trees given are =
    trees_so (λ tree. HaveApart tree.body) table files trees are
    (λ number pred file place. text_apart (joined_decls files) (each_joined files given) place)
