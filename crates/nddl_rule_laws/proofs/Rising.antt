-- The places where the text of a rule declares things are nodes of it, in their order, so none stands twice.
use Rattle.std.proofs.Common.{◌≡◌, ℕ, zero, suc, ◌<◌, Bool, true, false, List, [], ◌∷◌, ◌++◌, append_assoc, append-nil, refl, sym, ◌∙◌, ap, subst, ◌⊎◌, inl, inr, arith}
use Rattle.std.specs.Prelude.{⊤, Option, Some, All, AllPairs, is_some, slice_get, if◌then◌else◌}
use Rattle.std.proofs.lemmas.Option.{none-some, same_Some}
use Rattle.std.specs.List.{flat_map}
use Rattle.std.proofs.lemmas.List.Elements.{All-cons, All-head, All-nil, All-tail}
use Rattle.std.proofs.lemmas.List.Kept.{AllPairs-cons}
use Rattle.model_core.proofs.Distinct.{pairs_back, place_once}
use Rattle.nddl_ast.specs.declared.declaration.Decl.TheVariants as decls
use Rattle.nddl_ast.specs.declared.declaration.Member.{Member}
use Rattle.nddl_ast.specs.declared.declaration.Member.TheVariants as members
use Rattle.nddl_ast.specs.declared.declaration.PredicatePart.{PredicatePart}
use Rattle.nddl_ast.specs.declared.declaration.PredicatePart.TheVariants as parts
use Rattle.nddl_ast.specs.declared.expression.Expr.{Expr}
use Rattle.nddl_ast.specs.declared.expression.Expr.TheVariants as exprs
use Rattle.nddl_ast.specs.declared.name.Name.{Name}
use Rattle.nddl_ast.specs.declared.statement.Call.{Call}
use Rattle.nddl_ast.specs.Block.{statements_of}
use Rattle.nddl_ast.specs.Tree.{Statements, Nothing, Declares, Calls, Asks, Tests, Chooses, Repeats}
use Rattle.nddl_rule_check.specs.Constraints.{relation_named}
use Rattle.nddl_terms.specs.declared.stands.TextPlaces.{TextPlaces}
use Rattle.nddl_terms.specs.Readings.{no_places}
use Rattle.nddl_laws.specs.Nodes.{ask_nodes, call_nodes, condition_nodes, decl_nodes, expr_nodes, member_nodes, parent_nodes, part_nodes, path_nodes, start_nodes, statements_nodes, type_nodes, typed_nodes, variable_nodes}
use Rattle.nddl_rules.specs.Collected.{part_statements}
use Rattle.nddl_unroll.specs.Places.{asked_place, call_place, place_if_more, text_places, with_local_place, with_slot_places, with_turn_place}
use Rattle.nddl_rule_laws.proofs.Kept.{Once}

-- ---- some of a list

-- these are some of those, in their order
abbrev AreAmong : List ℕ → List ℕ → Type 0
AreAmong [] nodes = ⊤
AreAmong (x ∷ some) [] = ⊥
AreAmong (x ∷ some) (node ∷ nodes) = ((x ≡ node) × AreAmong some nodes) ⊎ AreAmong (x ∷ some) nodes

later : (some : List ℕ) (node : ℕ) (nodes : List ℕ) → AreAmong some nodes → AreAmong some (node ∷ nodes)
later [] node nodes are = tt
later (x ∷ some) node nodes are = inr are

behind : (some front nodes : List ℕ) → AreAmong some nodes → AreAmong some (front ++ nodes)
behind some [] nodes are = are
behind some (node ∷ front) nodes are = later some node (front ++ nodes) (behind some front nodes are)

before : (some front back : List ℕ) → AreAmong some front → AreAmong some (front ++ back)
before [] front back are = tt
before (x ∷ some) [] back are = absurd are
before (x ∷ some) (node ∷ front) back (inl here) = inl (here.0, before some front back here.1)
before (x ∷ some) (node ∷ front) back (inr rest) = inr (before (x ∷ some) front back rest)

both : (one other front back : List ℕ) → AreAmong one front → AreAmong other back → AreAmong (one ++ other) (front ++ back)
both [] other front back first second = behind other front back second
both (x ∷ one) other [] back first second = absurd first
both (x ∷ one) other (node ∷ front) back (inl here) second = inl (here.0, both one other front back here.1 second)
both (x ∷ one) other (node ∷ front) back (inr rest) second = inr (both (x ∷ one) other front back rest second)

above : (least : ℕ) (some nodes : List ℕ) → AreAmong some nodes → All (λ node. least < node) nodes → All (λ x. least < x) some
above least [] nodes are all = All-nil (λ x. least < x)
above least (x ∷ some) [] are all = absurd are
above least (x ∷ some) (node ∷ nodes) (inl here) all =
    let first : least < node = All-head (λ n. least < n) node nodes all in
    let same : x ≡ node = here.0 in
    All-cons (λ n. least < n) x some (omega (arith, first, same)) (above least some nodes here.1 (All-tail (λ n. least < n) node nodes all))
above least (x ∷ some) (node ∷ nodes) (inr rest) all = above least (x ∷ some) nodes rest (All-tail (λ n. least < n) node nodes all)

rising_among : (some nodes : List ℕ) → AreAmong some nodes → AllPairs (λ one other. one < other) nodes → AllPairs (λ one other. one < other) some
rising_among [] nodes are rising = λ i j d less within. absurd (omega (arith, within))
rising_among (x ∷ some) [] are rising = absurd are
rising_among (x ∷ some) (node ∷ nodes) (inl here) rising =
    let rest = pairs_back (λ one other. one < other) (node ∷ []) nodes rising in
    let first : All (λ other. node < other) nodes = λ k d within. rising 0 (suc k) d (omega arith) (omega (arith, within)) in
    AllPairs-cons (λ (one other : ℕ). one < other) x some
    (subst (λ least. All (λ (other : ℕ). least < other) some) (sym here.0) (above node some nodes here.1 first))
    (rising_among some nodes here.1 rest)
rising_among (x ∷ some) (node ∷ nodes) (inr rest) rising =
    rising_among (x ∷ some) nodes rest (pairs_back (λ one other. one < other) (node ∷ []) nodes rising)

once_among : (some nodes : List ℕ) → AreAmong some nodes → AllPairs (λ one other. one < other) nodes → Once some
once_among some nodes are rising =
    let pairs = rising_among some nodes are rising in
    λ one other at here there. place_once some
    (λ i j d less within same. let e = pairs i j d less within in omega (arith, e, same)) one other at here there

-- ---- the places of each sort

abbrev turns_of : Statements → List ℕ
turns_of Nothing = []
turns_of (Declares variable more) = turns_of more
turns_of (Calls call more) = turns_of more
turns_of (Asks ask more) = turns_of more
turns_of (Tests at condition then_at inside more) = turns_of inside ++ turns_of more
turns_of (Chooses at condition then_at inside else_at other more) = (turns_of inside ++ turns_of other) ++ turns_of more
turns_of (Repeats at name class body_at body more) = (name.at ∷ turns_of body) ++ turns_of more

abbrev locals_of : Statements → List ℕ
locals_of Nothing = []
locals_of (Declares variable more) = (variable.name.at ∷ []) ++ locals_of more
locals_of (Calls call more) = locals_of more
locals_of (Asks ask more) = locals_of more
locals_of (Tests at condition then_at inside more) = locals_of inside ++ locals_of more
locals_of (Chooses at condition then_at inside else_at other more) = (locals_of inside ++ locals_of other) ++ locals_of more
locals_of (Repeats at name class body_at body more) = locals_of body ++ locals_of more

abbrev slots_of : Statements → List ℕ
slots_of Nothing = []
slots_of (Declares variable more) = slots_of more
slots_of (Calls call more) = call_place call ++ slots_of more
slots_of (Asks ask more) = (ask.label.at ∷ []) ++ slots_of more
slots_of (Tests at condition then_at inside more) = slots_of inside ++ slots_of more
slots_of (Chooses at condition then_at inside else_at other more) = (slots_of inside ++ slots_of other) ++ slots_of more
slots_of (Repeats at name class body_at body more) = slots_of body ++ slots_of more

-- these come behind those that are there
record AreBehind (statements : Statements) (old new : TextPlaces) : Type 0 where
  turns : new.turns ≡ old.turns ++ turns_of statements
  locals : new.locals ≡ old.locals ++ locals_of statements
  slots : new.slots ≡ old.slots ++ slots_of statements

two : (a b c x y : List ℕ) → b ≡ a ++ x → c ≡ b ++ y → c ≡ a ++ (x ++ y)
two a b c x y first second = second ∙ (ap (λ list. list ++ y) first ∙ append_assoc a x y)

text_behind : (statements : Statements) (places : TextPlaces) → AreBehind statements places (text_places statements places)
text_behind Nothing places = record {
  turns = sym (append-nil places.turns);
  locals = sym (append-nil places.locals);
  slots = sym (append-nil places.slots);
}
text_behind (Declares variable more) places =
    let next = with_local_place variable.name.at places in
    let rest = text_behind more next in
    record {
      turns = rest.turns;
      locals = two places.locals next.locals (text_places more next).locals (variable.name.at ∷ []) (locals_of more) refl rest.locals;
      slots = rest.slots;
    }
text_behind (Calls call more) places =
    let next = with_slot_places (call_place call) places in
    let rest = text_behind more next in
    record {
      turns = rest.turns;
      locals = rest.locals;
      slots = two places.slots next.slots (text_places more next).slots (call_place call) (slots_of more) refl rest.slots;
    }
text_behind (Asks ask more) places =
    let next = with_slot_places (ask.label.at ∷ []) places in
    let rest = text_behind more next in
    record {
      turns = rest.turns;
      locals = rest.locals;
      slots = two places.slots next.slots (text_places more next).slots (ask.label.at ∷ []) (slots_of more) refl rest.slots;
    }
text_behind (Tests at condition then_at inside more) places =
    let next = text_places inside places in
    let last = text_places more next in
    let first = text_behind inside places in
    let rest = text_behind more next in
    record {
      turns = two places.turns next.turns last.turns (turns_of inside) (turns_of more) first.turns rest.turns;
      locals = two places.locals next.locals last.locals (locals_of inside) (locals_of more) first.locals rest.locals;
      slots = two places.slots next.slots last.slots (slots_of inside) (slots_of more) first.slots rest.slots;
    }
text_behind (Chooses at condition then_at inside else_at other more) places =
    let next = text_places inside places in
    let further = text_places other next in
    let last = text_places more further in
    let first = text_behind inside places in
    let second = text_behind other next in
    let rest = text_behind more further in
    record {
      turns = two places.turns further.turns last.turns (turns_of inside ++ turns_of other) (turns_of more)
          (two places.turns next.turns further.turns (turns_of inside) (turns_of other) first.turns second.turns) rest.turns;
      locals = two places.locals further.locals last.locals (locals_of inside ++ locals_of other) (locals_of more)
          (two places.locals next.locals further.locals (locals_of inside) (locals_of other) first.locals second.locals) rest.locals;
      slots = two places.slots further.slots last.slots (slots_of inside ++ slots_of other) (slots_of more)
          (two places.slots next.slots further.slots (slots_of inside) (slots_of other) first.slots second.slots) rest.slots;
    }
text_behind (Repeats at name class body_at body more) places =
    let next = with_turn_place name.at places in
    let further = text_places body next in
    let last = text_places more further in
    let first = text_behind body next in
    let rest = text_behind more further in
    record {
      turns = two places.turns further.turns last.turns (name.at ∷ turns_of body) (turns_of more)
          (two places.turns next.turns further.turns (name.at ∷ []) (turns_of body) refl first.turns) rest.turns;
      locals = two places.locals further.locals last.locals (locals_of body) (locals_of more) first.locals rest.locals;
      slots = two places.slots further.slots last.slots (slots_of body) (slots_of more) first.slots rest.slots;
    }

-- ---- they are nodes

call_among : (call : Call) → AreAmong (call_place call) (call_nodes call)
call_among call = by (is_some (relation_named call.path.first.text)) call.arguments
  where
    one : (names : List Name)
        → AreAmong (place_if_more call.path.first.at names) (path_nodes call.path ++ flat_map expr_nodes call.arguments)
    one [] = tt
    one (name ∷ more) = inl (refl, tt)

    by : (b : Bool) (some : List Expr)
        → AreAmong (if b then asked_place call.path.first.at some else []) (path_nodes call.path ++ flat_map expr_nodes call.arguments)
    by false some = tt
    by true [] = tt
    by true (exprs.Path path ∷ []) = one path.rest
    by true (exprs.Literal literal ∷ []) = tt
    by true (exprs.Path path ∷ other ∷ more) = tt
    by true (exprs.Literal literal ∷ other ∷ more) = tt

-- behind the nodes of what an `if` tests
tested : (some : List ℕ) (at then_at : ℕ) (condition inside : List ℕ) → AreAmong some inside
    → AreAmong some (at ∷ (condition ++ then_at ∷ inside))
tested some at then_at condition inside are =
    later some at (condition ++ then_at ∷ inside) (behind some condition (then_at ∷ inside) (later some then_at inside are))

chosen : (one other : List ℕ) (at then_at : ℕ) (condition inside outside : List ℕ) → AreAmong one inside → AreAmong other outside
    → AreAmong (one ++ other) (at ∷ (condition ++ ((then_at ∷ inside) ++ outside)))
chosen one other at then_at condition inside outside first second =
    let rest = both one other (then_at ∷ inside) outside (later one then_at inside first) second in
    later (one ++ other) at (condition ++ ((then_at ∷ inside) ++ outside)) (behind (one ++ other) condition ((then_at ∷ inside) ++ outside) rest)

turns_among : (statements : Statements) → AreAmong (turns_of statements) (statements_nodes statements)
turns_among Nothing = tt
turns_among (Declares variable more) = behind (turns_of more) (variable_nodes variable) (statements_nodes more) (turns_among more)
turns_among (Calls call more) = behind (turns_of more) (call_nodes call) (statements_nodes more) (turns_among more)
turns_among (Asks ask more) = behind (turns_of more) (ask_nodes ask) (statements_nodes more) (turns_among more)
turns_among (Tests at condition then_at inside more) =
    both (turns_of inside) (turns_of more) (at ∷ (condition_nodes condition ++ then_at ∷ statements_nodes inside)) (statements_nodes more)
    (tested (turns_of inside) at then_at (condition_nodes condition) (statements_nodes inside) (turns_among inside)) (turns_among more)
turns_among (Chooses at condition then_at inside else_at other more) =
    both (turns_of inside ++ turns_of other) (turns_of more)
    (at ∷ (condition_nodes condition ++ ((then_at ∷ statements_nodes inside) ++ statements_nodes other))) (statements_nodes more)
    (chosen (turns_of inside) (turns_of other) at then_at (condition_nodes condition) (statements_nodes inside) (statements_nodes other)
    (turns_among inside) (turns_among other)) (turns_among more)
turns_among (Repeats at name class body_at body more) =
    both (name.at ∷ turns_of body) (turns_of more) (at ∷ name.at ∷ class.at ∷ body_at ∷ statements_nodes body) (statements_nodes more)
    (inr (inl (refl, behind (turns_of body) (class.at ∷ body_at ∷ []) (statements_nodes body) (turns_among body)))) (turns_among more)

locals_among : (statements : Statements) → AreAmong (locals_of statements) (statements_nodes statements)
locals_among Nothing = tt
locals_among (Declares variable more) =
    both (variable.name.at ∷ []) (locals_of more) (variable_nodes variable) (statements_nodes more)
    (behind (variable.name.at ∷ []) (type_nodes variable.declared) (variable.name.at ∷ start_nodes variable.init) (inl (refl, tt))) (locals_among more)
locals_among (Calls call more) = behind (locals_of more) (call_nodes call) (statements_nodes more) (locals_among more)
locals_among (Asks ask more) = behind (locals_of more) (ask_nodes ask) (statements_nodes more) (locals_among more)
locals_among (Tests at condition then_at inside more) =
    both (locals_of inside) (locals_of more) (at ∷ (condition_nodes condition ++ then_at ∷ statements_nodes inside)) (statements_nodes more)
    (tested (locals_of inside) at then_at (condition_nodes condition) (statements_nodes inside) (locals_among inside)) (locals_among more)
locals_among (Chooses at condition then_at inside else_at other more) =
    both (locals_of inside ++ locals_of other) (locals_of more)
    (at ∷ (condition_nodes condition ++ ((then_at ∷ statements_nodes inside) ++ statements_nodes other))) (statements_nodes more)
    (chosen (locals_of inside) (locals_of other) at then_at (condition_nodes condition) (statements_nodes inside) (statements_nodes other)
    (locals_among inside) (locals_among other)) (locals_among more)
locals_among (Repeats at name class body_at body more) =
    both (locals_of body) (locals_of more) (at ∷ name.at ∷ class.at ∷ body_at ∷ statements_nodes body) (statements_nodes more)
    (behind (locals_of body) (at ∷ name.at ∷ class.at ∷ body_at ∷ []) (statements_nodes body) (locals_among body)) (locals_among more)

slots_among : (statements : Statements) → AreAmong (slots_of statements) (statements_nodes statements)
slots_among Nothing = tt
slots_among (Declares variable more) = behind (slots_of more) (variable_nodes variable) (statements_nodes more) (slots_among more)
slots_among (Calls call more) = both (call_place call) (slots_of more) (call_nodes call) (statements_nodes more) (call_among call) (slots_among more)
slots_among (Asks ask more) =
    both (ask.label.at ∷ []) (slots_of more) (ask_nodes ask) (statements_nodes more)
    (later (ask.label.at ∷ []) ask.word.at (path_nodes ask.path ++ ask.label.at ∷ [])
    (behind (ask.label.at ∷ []) (path_nodes ask.path) (ask.label.at ∷ []) (inl (refl, tt)))) (slots_among more)
slots_among (Tests at condition then_at inside more) =
    both (slots_of inside) (slots_of more) (at ∷ (condition_nodes condition ++ then_at ∷ statements_nodes inside)) (statements_nodes more)
    (tested (slots_of inside) at then_at (condition_nodes condition) (statements_nodes inside) (slots_among inside)) (slots_among more)
slots_among (Chooses at condition then_at inside else_at other more) =
    both (slots_of inside ++ slots_of other) (slots_of more)
    (at ∷ (condition_nodes condition ++ ((then_at ∷ statements_nodes inside) ++ statements_nodes other))) (statements_nodes more)
    (chosen (slots_of inside) (slots_of other) at then_at (condition_nodes condition) (statements_nodes inside) (statements_nodes other)
    (slots_among inside) (slots_among other)) (slots_among more)
slots_among (Repeats at name class body_at body more) =
    both (slots_of body) (slots_of more) (at ∷ name.at ∷ class.at ∷ body_at ∷ statements_nodes body) (statements_nodes more)
    (behind (slots_of body) (at ∷ name.at ∷ class.at ∷ body_at ∷ []) (statements_nodes body) (slots_among body)) (slots_among more)

-- so no place of a text stands twice
pub record AreOnce (places : TextPlaces) : Type 0 where
  pub turns : Once places.turns
  pub locals : Once places.locals
  pub slots : Once places.slots

pub text_once : (statements : Statements) → AllPairs (λ one other. one < other) (statements_nodes statements) → AreOnce (text_places statements no_places)
text_once statements rising =
    let are = text_behind statements no_places in
    record {
      turns = subst Once (sym are.turns) (once_among (turns_of statements) (statements_nodes statements) (turns_among statements) rising);
      locals = subst Once (sym are.locals) (once_among (locals_of statements) (statements_nodes statements) (locals_among statements) rising);
      slots = subst Once (sym are.slots) (once_among (slots_of statements) (statements_nodes statements) (slots_among statements) rising);
    }

-- ---- the constraints in the body of a predicate

itself : (some : List ℕ) → AreAmong some some
itself [] = tt
itself (x ∷ some) = inl (refl, itself some)

parts_among : (some : List PredicatePart) → AreAmong (statements_nodes (statements_of (part_statements some))) (flat_map part_nodes some)
parts_among [] = tt
parts_among (parts.Parameter typed ∷ more) =
    behind (statements_nodes (statements_of (part_statements more))) (typed_nodes typed) (flat_map part_nodes more) (parts_among more)
parts_among (parts.Constraint call ∷ more) =
    both (call_nodes call) (statements_nodes (statements_of (part_statements more))) (call_nodes call) (flat_map part_nodes more) (itself (call_nodes call)) (parts_among more)

member_among : (some : List Member) (place pred_at : ℕ) (name : Name) (inside : List PredicatePart) → slice_get some place ≡ Some (members.Predicate pred_at name inside)
    → AreAmong (statements_nodes (statements_of (part_statements inside))) (flat_map member_nodes some)
member_among [] place pred_at name inside there = absurd (none-some (members.Predicate pred_at name inside) there)
member_among (member ∷ more) zero pred_at name inside there =
    let some = statements_nodes (statements_of (part_statements inside)) in
    before some (member_nodes member) (flat_map member_nodes more)
    (subst (λ m. AreAmong some (member_nodes m)) (sym (same_Some member (members.Predicate pred_at name inside) there))
    (behind some (pred_at ∷ name.at ∷ []) (flat_map part_nodes inside) (parts_among inside)))
member_among (member ∷ more) (suc place) pred_at name inside there =
    behind (statements_nodes (statements_of (part_statements inside))) (member_nodes member) (flat_map member_nodes more)
    (member_among more place pred_at name inside there)

-- their nodes rise where those of the class do
pub body_rises : (at : ℕ) (class : Name) (parent : Option Name) (some : List Member) (place pred_at : ℕ) (name : Name) (inside : List PredicatePart)
    → slice_get some place ≡ Some (members.Predicate pred_at name inside)
    → AllPairs (λ one other. one < other) (decl_nodes (decls.Class at class parent some))
    → AllPairs (λ one other. one < other) (statements_nodes (statements_of (part_statements inside)))
body_rises at class parent some place pred_at name inside there rising =
    let own = statements_nodes (statements_of (part_statements inside)) in
    rising_among own (at ∷ class.at ∷ (parent_nodes parent ++ flat_map member_nodes some))
    (behind own (at ∷ class.at ∷ []) (parent_nodes parent ++ flat_map member_nodes some)
    (behind own (parent_nodes parent) (flat_map member_nodes some) (member_among some place pred_at name inside there))) rising
