-- Which places have the numbers of locals and slots in the text of a rule.
use Rattle.std.proofs.Common.{◌≡◌, ℕ, ◌+◌, ◌&&◌, ◌||◌, Bool, true, false, List, [], ◌∷◌, ◌++◌, length, refl, sym, ◌∙◌, ap, subst, append_assoc, append-nil, arith}
use Rattle.std.specs.Prelude.{Some, is_some, slice_get, if◌then◌else◌}
use Rattle.std.proofs.lemmas.List.{length-append}
use Rattle.nddl_ast.specs.declared.expression.Expr.{Expr}
use Rattle.nddl_ast.specs.declared.expression.Expr.TheVariants as exprs
use Rattle.nddl_ast.specs.declared.name.Name.{Name}
use Rattle.nddl_ast.specs.declared.statement.Call.{Call}
use Rattle.nddl_ast.specs.Tree.{Statements, Nothing, Declares, Calls, Asks, Tests, Chooses, Repeats}
use Rattle.nddl_rule_check.specs.Constraints.{relation_named}
use Rattle.nddl_terms.specs.declared.stands.TextPlaces.{TextPlaces}
use Rattle.nddl_rules.specs.declared.sight.Tally.{Tally}
use Rattle.nddl_rules.specs.Blocks.{call_tally, has_long_path, has_more, slot_if, tallied}
use Rattle.nddl_rules.specs.Tally.{local_more, slot_more, turn_more}
use Rattle.nddl_unroll.specs.Places.{asked_place, call_place, place_if_more, text_places, with_local_place, with_slot_places, with_turn_place}
use Rattle.nddl_lowering_laws.specs.Scoped.{HasFineCalls, IsFineCall, local_places, slot_places}

-- ---- the places of a text

pub text_locals : (stmts : Statements) (places : TextPlaces) → (text_places stmts places).locals ≡ places.locals ++ local_places stmts
text_locals Nothing places = sym (append-nil places.locals)
text_locals (Declares variable more) places =
    text_locals more (with_local_place variable.name.at places)
    ∙ append_assoc places.locals (variable.name.at ∷ []) (local_places more)
text_locals (Calls call more) places = text_locals more (with_slot_places (call_place call) places)
text_locals (Asks ask more) places = text_locals more (with_slot_places (ask.label.at ∷ []) places)
text_locals (Tests at condition then_at inside more) places =
    text_locals more (text_places inside places)
    ∙ (ap (λ (list : List ℕ). list ++ local_places more) (text_locals inside places)
    ∙ append_assoc places.locals (local_places inside) (local_places more))
text_locals (Chooses at condition then_at inside else_at other more) places =
    text_locals more (text_places other (text_places inside places))
    ∙ (ap (λ (list : List ℕ). list ++ local_places more) (text_locals other (text_places inside places))
    ∙ (ap (λ (list : List ℕ). (list ++ local_places other) ++ local_places more) (text_locals inside places)
    ∙ (append_assoc (places.locals ++ local_places inside) (local_places other) (local_places more)
    ∙ append_assoc places.locals (local_places inside) (local_places other ++ local_places more))))
text_locals (Repeats at name class body_at body more) places =
    text_locals more (text_places body (with_turn_place name.at places))
    ∙ (ap (λ (list : List ℕ). list ++ local_places more) (text_locals body (with_turn_place name.at places))
    ∙ append_assoc places.locals (local_places body) (local_places more))

pub text_slots : (stmts : Statements) (places : TextPlaces) → (text_places stmts places).slots ≡ places.slots ++ slot_places stmts
text_slots Nothing places = sym (append-nil places.slots)
text_slots (Declares variable more) places = text_slots more (with_local_place variable.name.at places)
text_slots (Calls call more) places =
    text_slots more (with_slot_places (call_place call) places) ∙ append_assoc places.slots (call_place call) (slot_places more)
text_slots (Asks ask more) places =
    text_slots more (with_slot_places (ask.label.at ∷ []) places) ∙ append_assoc places.slots (ask.label.at ∷ []) (slot_places more)
text_slots (Tests at condition then_at inside more) places =
    text_slots more (text_places inside places)
    ∙ (ap (λ (list : List ℕ). list ++ slot_places more) (text_slots inside places)
    ∙ append_assoc places.slots (slot_places inside) (slot_places more))
text_slots (Chooses at condition then_at inside else_at other more) places =
    text_slots more (text_places other (text_places inside places))
    ∙ (ap (λ (list : List ℕ). list ++ slot_places more) (text_slots other (text_places inside places))
    ∙ (ap (λ (list : List ℕ). (list ++ slot_places other) ++ slot_places more) (text_slots inside places)
    ∙ (append_assoc (places.slots ++ slot_places inside) (slot_places other) (slot_places more)
    ∙ append_assoc places.slots (slot_places inside) (slot_places other ++ slot_places more))))
text_slots (Repeats at name class body_at body more) places =
    text_slots more (text_places body (with_turn_place name.at places))
    ∙ (ap (λ (list : List ℕ). list ++ slot_places more) (text_slots body (with_turn_place name.at places))
    ∙ append_assoc places.slots (slot_places body) (slot_places more))

-- ---- counts

slot_if_locals : (so : Bool) (tally : Tally) → (slot_if so tally).locals ≡ tally.locals
slot_if_locals true tally = refl
slot_if_locals false tally = refl

pub call_locals : (call : Call) (tally : Tally) → (call_tally tally call).locals ≡ tally.locals
call_locals call tally = slot_if_locals (is_some (relation_named call.path.first.text) && has_long_path call.arguments) tally

pub tallied_locals : (stmts : Statements) (tally : Tally) → (tallied tally stmts).locals ≡ tally.locals + length (local_places stmts)
tallied_locals Nothing tally = omega arith
tallied_locals (Declares variable more) tally = let rest = tallied_locals more (local_more tally) in omega (arith, rest)
tallied_locals (Calls call more) tally =
    let rest = tallied_locals more (call_tally tally call) in
    omega (arith, rest, call_locals call tally)
tallied_locals (Asks ask more) tally = let rest = tallied_locals more (slot_more tally) in omega (arith, rest)
tallied_locals (Tests at condition then_at inside more) tally =
    let first = tallied_locals inside tally in
    let rest = tallied_locals more (tallied tally inside) in
    omega (arith, first, rest, length-append (local_places inside) (local_places more))
tallied_locals (Chooses at condition then_at inside else_at other more) tally =
    let first = tallied_locals inside tally in
    let second = tallied_locals other (tallied tally inside) in
    let rest = tallied_locals more (tallied (tallied tally inside) other) in
    omega (
      arith,
      first,
      second,
      rest,
      length-append (local_places inside) (local_places other ++ local_places more),
      length-append (local_places other) (local_places more),
    )
tallied_locals (Repeats at name class body_at body more) tally =
    let first = tallied_locals body (turn_more tally) in
    let rest = tallied_locals more (tallied (turn_more tally) body) in
    omega (arith, first, rest, length-append (local_places body) (local_places more))

-- a path asks for a slot if it has more names than one
path_counts : (at : ℕ) (names : List Name) (tally : Tally)
    → (slot_if (has_more names) tally).slots ≡ tally.slots + length (place_if_more at names)
path_counts at [] tally = omega arith
path_counts at (name ∷ more) tally = omega arith

or_false : (so : Bool) → (so || false) ≡ so
or_false true = refl
or_false false = refl

one_counts : (at : ℕ) (expr : Expr) (tally : Tally)
    → (slot_if (has_long_path (expr ∷ [])) tally).slots ≡ tally.slots + length (asked_place at (expr ∷ []))
one_counts at (exprs.Path path) tally =
    ap (λ (so : Bool). (slot_if so tally).slots) (or_false (has_more path.rest)) ∙ path_counts at path.rest tally
one_counts at (exprs.Literal literal) tally = omega arith

call_case : (at : ℕ) (some : List Expr) (tally : Tally) (so : Bool) → (so ≡ true → (expr : Expr) × (some ≡ expr ∷ []))
    → (slot_if (so && has_long_path some) tally).slots ≡ tally.slots + length (if so then asked_place at some else [])
call_case at some tally true single =
    let one = single refl in
    subst (λ (list : List Expr). (slot_if (has_long_path list) tally).slots ≡ tally.slots + length (asked_place at list)) (sym one.1)
    (one_counts at one.0 tally)
call_case at some tally false single = omega arith

pub call_counts : (call : Call) (tally : Tally) → IsFineCall call → (call_tally tally call).slots ≡ tally.slots + length (call_place call)
call_counts call tally fine = call_case call.path.first.at call.arguments tally (is_some (relation_named call.path.first.text)) fine.relation

pub tallied_slots : (stmts : Statements) (tally : Tally) → HasFineCalls stmts
    → (tallied tally stmts).slots ≡ tally.slots + length (slot_places stmts)
tallied_slots Nothing tally fine = omega arith
tallied_slots (Declares variable more) tally fine = let rest = tallied_slots more (local_more tally) fine in omega (arith, rest)
tallied_slots (Calls call more) tally fine =
    let first = call_counts call tally fine.0 in
    let rest = tallied_slots more (call_tally tally call) fine.1 in
    omega (arith, first, rest, length-append (call_place call) (slot_places more))
tallied_slots (Asks ask more) tally fine = let rest = tallied_slots more (slot_more tally) fine.1 in omega (arith, rest)
tallied_slots (Tests at condition then_at inside more) tally fine =
    let first = tallied_slots inside tally fine.0 in
    let rest = tallied_slots more (tallied tally inside) fine.1 in
    omega (arith, first, rest, length-append (slot_places inside) (slot_places more))
tallied_slots (Chooses at condition then_at inside else_at other more) tally fine =
    let first = tallied_slots inside tally fine.0 in
    let second = tallied_slots other (tallied tally inside) fine.1.0 in
    let rest = tallied_slots more (tallied (tallied tally inside) other) fine.1.1 in
    omega (
      arith,
      first,
      second,
      rest,
      length-append (slot_places inside) (slot_places other ++ slot_places more),
      length-append (slot_places other) (slot_places more),
    )
tallied_slots (Repeats at name class body_at body more) tally fine =
    let first = tallied_slots body (turn_more tally) fine.0 in
    let rest = tallied_slots more (tallied (turn_more tally) body) fine.1 in
    omega (arith, first, rest, length-append (slot_places body) (slot_places more))

-- ---- parts of a list

-- these stand in the list from this place on
pub record Placed (list : List ℕ) (number : ℕ) (own : List ℕ) : Type 0 where
  pub front : List ℕ
  pub back : List ℕ
  pub is : list ≡ front ++ (own ++ back)
  pub size : length front ≡ number

behind_front : (front : List ℕ) (at : ℕ) (more : List ℕ) → slice_get (front ++ at ∷ more) (length front) ≡ Some at
behind_front [] at more = refl
behind_front (first ∷ front) at more = behind_front front at more

pub placed_first : (list : List ℕ) (number at : ℕ) (own : List ℕ) → Placed list number (at ∷ own) → slice_get list number ≡ Some at
placed_first list number at own placed =
    ap (λ (some : List ℕ). slice_get some number) placed.is
    ∙ (ap (λ (n : ℕ). slice_get (placed.front ++ at ∷ (own ++ placed.back)) n) (sym placed.size)
    ∙ behind_front placed.front at (own ++ placed.back))

pub placed_left : (list : List ℕ) (number : ℕ) (one other : List ℕ) → Placed list number (one ++ other) → Placed list number one
placed_left list number one other placed = record {
  front = placed.front;
  back = other ++ placed.back;
  is = placed.is ∙ ap (λ (some : List ℕ). placed.front ++ some) (append_assoc one other placed.back);
  size = placed.size;
}

pub placed_right : (list : List ℕ) (number next : ℕ) (one other : List ℕ) → Placed list number (one ++ other) → next ≡ number + length one
    → Placed list next other
placed_right list number next one other placed is = record {
  front = placed.front ++ one;
  back = placed.back;
  is =
      placed.is
      ∙ (ap (λ (some : List ℕ). placed.front ++ some) (append_assoc one other placed.back)
      ∙ sym (append_assoc placed.front one (other ++ placed.back)));
  size = let front = placed.size in omega (arith, front, is, length-append placed.front one);
}

pub placed_whole : (list : List ℕ) → Placed list 0 list
placed_whole list = record { front = []; back = []; is = sym (append-nil list); size = refl }
