-- Where the text of a rule declares things: each place has the number that is counted for it.
use Rattle.std.proofs.Common.{◌≡◌, ℕ, ◌+◌, ◌≤◌, Bool, true, false, ◌&&◌, ◌||◌, List, [], ◌∷◌, ◌++◌, length, append_assoc, append-nil, refl, sym, ◌∙◌, ap, subst, arith}
use Rattle.std.specs.Prelude.{⊤, Some, is_some, slice_get, if◌then◌else◌}
use Rattle.std.specs.List.{list_any}
use Rattle.eu_forest.proofs.Lists.{get-append_left, get-append_last}
use Rattle.nddl_ast.specs.declared.expression.Expr.{Expr}
use Rattle.nddl_ast.specs.declared.expression.Expr.TheVariants as exprs
use Rattle.nddl_ast.specs.declared.name.Name.{Name}
use Rattle.nddl_ast.specs.declared.statement.Call.{Call}
use Rattle.nddl_ast.specs.Tree.{Statements, Nothing, Declares, Calls, Asks, Tests, Chooses, Repeats}
use Rattle.nddl_rule_check.specs.Constraints.{relation_named}
use Rattle.nddl_terms.specs.declared.stands.TextPlaces.{TextPlaces}
use Rattle.nddl_terms.specs.Readings.{no_places}
use Rattle.nddl_rules.specs.declared.sight.Tally.{Tally}
use Rattle.nddl_rules.specs.Blocks.{asks_slot, call_tally, has_more, is_long_path, slot_if, tallied}
use Rattle.nddl_rules.specs.Tally.{local_more, no_tally, slot_more, turn_more}
use Rattle.nddl_unroll.specs.Places.{asked_place, call_place, place_if_more, text_places, with_local_place, with_slot_places, with_turn_place}

-- ---- numbers

-- no more are counted before than behind
pub record IsWithin (one other : Tally) : Type 0 where
  pub turns : one.turns ≤ other.turns
  pub locals : one.locals ≤ other.locals
  pub slots : one.slots ≤ other.slots

pub within_itself : (tally : Tally) → IsWithin tally tally
within_itself tally = record { turns = omega arith; locals = omega arith; slots = omega arith }

pub within_both : (one between other : Tally) → IsWithin one between → IsWithin between other → IsWithin one other
within_both one between other first second = record {
  turns = omega (arith, first.turns, second.turns);
  locals = omega (arith, first.locals, second.locals);
  slots = omega (arith, first.slots, second.slots);
}

pub local_within : (tally : Tally) → IsWithin tally (local_more tally)
local_within tally = record { turns = omega arith; locals = omega arith; slots = omega arith }

pub slot_within : (tally : Tally) → IsWithin tally (slot_more tally)
slot_within tally = record { turns = omega arith; locals = omega arith; slots = omega arith }

pub turn_within : (tally : Tally) → IsWithin tally (turn_more tally)
turn_within tally = record { turns = omega arith; locals = omega arith; slots = omega arith }

if_within : (b : Bool) (tally : Tally) → IsWithin tally (slot_if b tally)
if_within true tally = slot_within tally
if_within false tally = within_itself tally

pub call_within : (tally : Tally) (call : Call) → IsWithin tally (call_tally tally call)
call_within tally call = if_within (asks_slot call) tally

-- statements count on
pub tallied_within : (tally : Tally) (statements : Statements) → IsWithin tally (tallied tally statements)
tallied_within tally Nothing = within_itself tally
tallied_within tally (Declares variable more) =
    within_both tally (local_more tally) (tallied (local_more tally) more) (local_within tally) (tallied_within (local_more tally) more)
tallied_within tally (Calls call more) =
    within_both tally (call_tally tally call) (tallied (call_tally tally call) more) (call_within tally call) (tallied_within (call_tally tally call) more)
tallied_within tally (Asks ask more) =
    within_both tally (slot_more tally) (tallied (slot_more tally) more) (slot_within tally) (tallied_within (slot_more tally) more)
tallied_within tally (Tests at condition then_at chosen more) =
    within_both tally (tallied tally chosen) (tallied (tallied tally chosen) more) (tallied_within tally chosen) (tallied_within (tallied tally chosen) more)
tallied_within tally (Chooses at condition then_at chosen else_at left more) =
    let first = tallied tally chosen in
    let second = tallied first left in
    within_both tally first (tallied second more) (tallied_within tally chosen)
    (within_both first second (tallied second more) (tallied_within first left) (tallied_within second more))
tallied_within tally (Repeats at name class body_at body more) =
    let inside = tallied (turn_more tally) body in
    within_both tally (turn_more tally) (tallied inside more) (turn_within tally)
    (within_both (turn_more tally) inside (tallied inside more) (tallied_within (turn_more tally) body) (tallied_within inside more))

-- ---- places

module _ (places : TextPlaces) where
  -- each statement declares what has the next number at the place of this number
  abbrev pub AreAt : Tally → Statements → Type 0
  AreAt tally Nothing = ⊤
  AreAt tally (Declares variable more) =
      (slice_get places.locals tally.locals ≡ Some variable.name.at) × AreAt (local_more tally) more
  AreAt tally (Calls call more) =
      (asks_slot call ≡ true → slice_get places.slots tally.slots ≡ Some call.path.first.at) × AreAt (call_tally tally call) more
  AreAt tally (Asks ask more) = (slice_get places.slots tally.slots ≡ Some ask.label.at) × AreAt (slot_more tally) more
  AreAt tally (Tests at condition then_at chosen more) = AreAt tally chosen × AreAt (tallied tally chosen) more
  AreAt tally (Chooses at condition then_at chosen else_at left more) =
      AreAt tally chosen × (AreAt (tallied tally chosen) left × AreAt (tallied (tallied tally chosen) left) more)
  AreAt tally (Repeats at name class body_at body more) =
      (slice_get places.turns tally.turns ≡ Some name.at) × (AreAt (turn_more tally) body × AreAt (tallied (turn_more tally) body) more)

-- ---- calls of one argument

-- a relation has one argument
abbrev pub IsSingle : Call → Type 0
IsSingle call = is_some (relation_named call.path.first.text) ≡ true → (expr : Expr) × (call.arguments ≡ expr ∷ [])

-- each does
abbrev pub AreSingle : Statements → Type 0
AreSingle Nothing = ⊤
AreSingle (Declares variable more) = AreSingle more
AreSingle (Calls call more) = IsSingle call × AreSingle more
AreSingle (Asks ask more) = AreSingle more
AreSingle (Tests at condition then_at chosen more) = AreSingle chosen × AreSingle more
AreSingle (Chooses at condition then_at chosen else_at left more) = AreSingle chosen × (AreSingle left × AreSingle more)
AreSingle (Repeats at name class body_at body more) = AreSingle body × AreSingle more

-- a call asks for a slot just if it has a place for one
abbrev place_if : Bool → ℕ → List ℕ
place_if true at = at ∷ []
place_if false at = []

argument_place : (at : ℕ) (expr : Expr) → asked_place at (expr ∷ []) ≡ place_if (list_any is_long_path (expr ∷ [])) at
argument_place at (exprs.Path path) = by path.rest
  where
    by : (names : List Name) → place_if_more at names ≡ place_if (has_more names || false) at
    by [] = refl
    by (name ∷ more) = refl
argument_place at (exprs.Literal literal) = refl

call_places : (call : Call) → IsSingle call → call_place call ≡ place_if (asks_slot call) call.path.first.at
call_places call single = by (is_some (relation_named call.path.first.text)) single
  where
    by : (b : Bool) → (b ≡ true → (expr : Expr) × (call.arguments ≡ expr ∷ []))
        → (if b then asked_place call.path.first.at call.arguments else []) ≡ place_if (b && list_any is_long_path call.arguments) call.path.first.at
    by false one = refl
    by true one =
        let it = one refl in
        let P : List Expr → Type 0 = λ some. asked_place call.path.first.at some ≡ place_if (list_any is_long_path some) call.path.first.at in
        subst P (sym it.1) (argument_place call.path.first.at it.0)

-- ---- what comes behind

-- these places come first
pub record GoesOn (old new : TextPlaces) : Type 0 where
  pub turns : (more : List ℕ) × (new.turns ≡ old.turns ++ more)
  pub locals : (more : List ℕ) × (new.locals ≡ old.locals ++ more)
  pub slots : (more : List ℕ) × (new.slots ≡ old.slots ++ more)

goes_itself : (places : TextPlaces) → GoesOn places places
goes_itself places = record {
  turns = ([], sym (append-nil places.turns));
  locals = ([], sym (append-nil places.locals));
  slots = ([], sym (append-nil places.slots));
}

list_on : (old between new : List ℕ) → (more : List ℕ) × (between ≡ old ++ more) → (more : List ℕ) × (new ≡ between ++ more)
    → (more : List ℕ) × (new ≡ old ++ more)
list_on old between new first second =
    (first.0 ++ second.0, second.1 ∙ (ap (λ list. list ++ second.0) first.1 ∙ append_assoc old first.0 second.0))

goes_both : (old between new : TextPlaces) → GoesOn old between → GoesOn between new → GoesOn old new
goes_both old between new first second = record {
  turns = list_on old.turns between.turns new.turns first.turns second.turns;
  locals = list_on old.locals between.locals new.locals first.locals second.locals;
  slots = list_on old.slots between.slots new.slots first.slots second.slots;
}

local_on : (at : ℕ) (places : TextPlaces) → GoesOn places (with_local_place at places)
local_on at places = record {
  turns = ([], sym (append-nil places.turns));
  locals = (at ∷ [], refl);
  slots = ([], sym (append-nil places.slots));
}

slots_on : (some : List ℕ) (places : TextPlaces) → GoesOn places (with_slot_places some places)
slots_on some places = record {
  turns = ([], sym (append-nil places.turns));
  locals = ([], sym (append-nil places.locals));
  slots = (some, refl);
}

turn_on : (at : ℕ) (places : TextPlaces) → GoesOn places (with_turn_place at places)
turn_on at places = record {
  turns = (at ∷ [], refl);
  locals = ([], sym (append-nil places.locals));
  slots = ([], sym (append-nil places.slots));
}

text_on : (statements : Statements) (places : TextPlaces) → GoesOn places (text_places statements places)
text_on Nothing places = goes_itself places
text_on (Declares variable more) places =
    let next = with_local_place variable.name.at places in
    goes_both places next (text_places more next) (local_on variable.name.at places) (text_on more next)
text_on (Calls call more) places =
    let next = with_slot_places (call_place call) places in
    goes_both places next (text_places more next) (slots_on (call_place call) places) (text_on more next)
text_on (Asks ask more) places =
    let next = with_slot_places (ask.label.at ∷ []) places in
    goes_both places next (text_places more next) (slots_on (ask.label.at ∷ []) places) (text_on more next)
text_on (Tests at condition then_at inside more) places =
    let next = text_places inside places in
    goes_both places next (text_places more next) (text_on inside places) (text_on more next)
text_on (Chooses at condition then_at inside else_at other more) places =
    let next = text_places inside places in
    let last = text_places other next in
    goes_both places next (text_places more last) (text_on inside places)
    (goes_both next last (text_places more last) (text_on other next) (text_on more last))
text_on (Repeats at name class body_at body more) places =
    let next = with_turn_place name.at places in
    let last = text_places body next in
    goes_both places next (text_places more last) (turn_on name.at places)
    (goes_both next last (text_places more last) (text_on body next) (text_on more last))

-- ---- numbers and places go together

-- so many places have come
pub record AreCounted (places : TextPlaces) (tally : Tally) : Type 0 where
  pub turns : length places.turns ≡ tally.turns
  pub locals : length places.locals ≡ tally.locals
  pub slots : length places.slots ≡ tally.slots

longer : (some : List ℕ) (at : ℕ) → length (some ++ at ∷ []) ≡ length some + 1
longer [] at = refl
longer (x ∷ some) at = let rest = longer some at in omega (arith, rest)

-- the next one stands there
next_at : (some all : List ℕ) (at count : ℕ) → length some ≡ count → (more : List ℕ) × (all ≡ (some ++ at ∷ []) ++ more) → slice_get all count ≡ Some at
next_at some all at count as_many goes =
    ap (slice_get all) (sym as_many)
    ∙ (ap (λ list. slice_get list (length some)) goes.1 ∙ get-append_left (some ++ at ∷ []) goes.0 (length some) at (get-append_last some at))

slot_counted : (b : Bool) (at : ℕ) (places : TextPlaces) (tally : Tally) → AreCounted places tally
    → AreCounted (with_slot_places (place_if b at) places) (slot_if b tally)
slot_counted true at places tally are = record {
  turns = are.turns;
  locals = are.locals;
  slots = longer places.slots at ∙ ap (λ n. n + 1) are.slots;
}
slot_counted false at places tally are = record {
  turns = are.turns;
  locals = are.locals;
  slots = ap length (append-nil places.slots) ∙ are.slots;
}

call_counted : (call : Call) (places : TextPlaces) (tally : Tally) → IsSingle call → AreCounted places tally
    → AreCounted (with_slot_places (call_place call) places) (call_tally tally call)
call_counted call places tally single are =
    subst (λ some. AreCounted (with_slot_places some places) (call_tally tally call)) (sym (call_places call single))
    (slot_counted (asks_slot call) call.path.first.at places tally are)

pub text_counted : (statements : Statements) (places : TextPlaces) (tally : Tally) → AreSingle statements → AreCounted places tally
    → AreCounted (text_places statements places) (tallied tally statements)
text_counted Nothing places tally single are = are
text_counted (Declares variable more) places tally single are =
    text_counted more (with_local_place variable.name.at places) (local_more tally) single
    (record { turns = are.turns; locals = longer places.locals variable.name.at ∙ ap (λ n. n + 1) are.locals; slots = are.slots })
text_counted (Calls call more) places tally single are =
    text_counted more (with_slot_places (call_place call) places) (call_tally tally call) single.1 (call_counted call places tally single.0 are)
text_counted (Asks ask more) places tally single are =
    text_counted more (with_slot_places (ask.label.at ∷ []) places) (slot_more tally) single (slot_counted true ask.label.at places tally are)
text_counted (Tests at condition then_at inside more) places tally single are =
    text_counted more (text_places inside places) (tallied tally inside) single.1 (text_counted inside places tally single.0 are)
text_counted (Chooses at condition then_at inside else_at other more) places tally single are =
    let next = text_places inside places in
    text_counted more (text_places other next) (tallied (tallied tally inside) other) single.1.1
    (text_counted other next (tallied tally inside) single.1.0 (text_counted inside places tally single.0 are))
text_counted (Repeats at name class body_at body more) places tally single are =
    let next = with_turn_place name.at places in
    text_counted more (text_places body next) (tallied (turn_more tally) body) single.1
    (text_counted body next (turn_more tally) single.0
    (record { turns = longer places.turns name.at ∙ ap (λ n. n + 1) are.turns; locals = are.locals; slots = are.slots }))

-- the places that a text gives are where it declares what has their numbers
pub text_at : (all : TextPlaces) (statements : Statements) (places : TextPlaces) (tally : Tally) → AreSingle statements → AreCounted places tally
    → GoesOn (text_places statements places) all → AreAt all tally statements
text_at all Nothing places tally single are goes = tt
text_at all (Declares variable more) places tally single are goes =
    let next = with_local_place variable.name.at places in
    let on = goes_both next (text_places more next) all (text_on more next) goes in (
      next_at places.locals all.locals variable.name.at tally.locals are.locals on.locals,
      text_at all more next (local_more tally) single
          (record { turns = are.turns; locals = longer places.locals variable.name.at ∙ ap (λ n. n + 1) are.locals; slots = are.slots }) goes,
    )
text_at all (Calls call more) places tally single are goes =
    let next = with_slot_places (call_place call) places in
    let on = goes_both next (text_places more next) all (text_on more next) goes in (
      (λ asks.
          let one : call_place call ≡ call.path.first.at ∷ [] =
          call_places call single.0 ∙ ap (λ b. place_if b call.path.first.at) asks in
          let there : (more : List ℕ) × (all.slots ≡ (places.slots ++ call.path.first.at ∷ []) ++ more) =
          (on.slots.0, on.slots.1 ∙ ap (λ some. (places.slots ++ some) ++ on.slots.0) one) in
          next_at places.slots all.slots call.path.first.at tally.slots are.slots there),
      text_at all more next (call_tally tally call) single.1 (call_counted call places tally single.0 are) goes,
    )
text_at all (Asks ask more) places tally single are goes =
    let next = with_slot_places (ask.label.at ∷ []) places in
    let on = goes_both next (text_places more next) all (text_on more next) goes in (
      next_at places.slots all.slots ask.label.at tally.slots are.slots on.slots,
      text_at all more next (slot_more tally) single (slot_counted true ask.label.at places tally are) goes,
    )
text_at all (Tests at condition then_at inside more) places tally single are goes =
    let next = text_places inside places in
    let on = goes_both next (text_places more next) all (text_on more next) goes in (
      text_at all inside places tally single.0 are on,
      text_at all more next (tallied tally inside) single.1 (text_counted inside places tally single.0 are) goes,
    )
text_at all (Chooses at condition then_at inside else_at other more) places tally single are goes =
    let next = text_places inside places in
    let last = text_places other next in
    let on = goes_both last (text_places more last) all (text_on more last) goes in
    let before = goes_both next last all (text_on other next) on in
    let counted = text_counted inside places tally single.0 are in (
      text_at all inside places tally single.0 are before,
      (
        text_at all other next (tallied tally inside) single.1.0 counted on,
        text_at all more last (tallied (tallied tally inside) other) single.1.1 (text_counted other next (tallied tally inside) single.1.0 counted) goes,
      ),
    )
text_at all (Repeats at name class body_at body more) places tally single are goes =
    let next = with_turn_place name.at places in
    let last = text_places body next in
    let on = goes_both last (text_places more last) all (text_on more last) goes in
    let before = goes_both next last all (text_on body next) on in
    let counted : AreCounted next (turn_more tally) =
    record { turns = longer places.turns name.at ∙ ap (λ n. n + 1) are.turns; locals = are.locals; slots = are.slots } in (
      next_at places.turns all.turns name.at tally.turns are.turns before.turns,
      (
        text_at all body next (turn_more tally) single.0 counted on,
        text_at all more last (tallied (turn_more tally) body) single.1 (text_counted body next (turn_more tally) single.0 counted) goes,
      ),
    )

-- those of the text of a rule
pub rule_at : (statements : Statements) → AreSingle statements → AreAt (text_places statements no_places) no_tally statements
rule_at statements single =
    text_at (text_places statements no_places) statements no_places no_tally single
    (record { turns = refl; locals = refl; slots = refl }) (goes_itself (text_places statements no_places))
