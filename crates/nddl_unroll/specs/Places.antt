-- Where the text of a rule declares things.
use Rattle.std.specs.Prelude.{ℕ, List, [], ◌∷◌, ◌++◌, is_some, if◌then◌else◌}
use Rattle.nddl_ast.specs.declared.expression.Expr.{Expr}
use Rattle.nddl_ast.specs.declared.expression.Expr.TheVariants as exprs
use Rattle.nddl_ast.specs.declared.name.Name.{Name}
use Rattle.nddl_ast.specs.declared.statement.Call.{Call}
use Rattle.nddl_ast.specs.Tree.{Statements, Nothing, Declares, Calls, Asks, Tests, Chooses, Repeats}
use Rattle.nddl_rule_check.specs.Constraints.{relation_named}
use Rattle.nddl_terms.specs.declared.stands.TextPlaces.{TextPlaces}

-- the place, if a path has more names than one, and so asks for a token
abbrev pub place_if_more : ℕ → List Name → List ℕ
place_if_more at [] = []
place_if_more at (name ∷ more) = at ∷ []

-- the place of a relation that asks for a token without a label
abbrev pub asked_place : ℕ → List Expr → List ℕ
asked_place at (exprs.Path path ∷ []) = place_if_more at path.rest
asked_place at some = []

abbrev pub call_place : Call → List ℕ
call_place call =
    if is_some (relation_named call.path.first.text) then asked_place call.path.first.at call.arguments else []

-- a variable of `foreach` more
abbrev pub with_turn_place : ℕ → TextPlaces → TextPlaces
with_turn_place at places = record places { turns = places.turns ++ at ∷ [] }

-- a local more
abbrev pub with_local_place : ℕ → TextPlaces → TextPlaces
with_local_place at places = record places { locals = places.locals ++ at ∷ [] }

-- slots more
abbrev pub with_slot_places : List ℕ → TextPlaces → TextPlaces
with_slot_places some places = record places { slots = places.slots ++ some }

-- These places, and then those where statements declare variables of `foreach` and locals, and ask for slots, in order of the
-- text.
abbrev pub text_places : Statements → TextPlaces → TextPlaces
text_places Nothing places = places
text_places (Declares variable more) places = text_places more (with_local_place variable.name.at places)
text_places (Calls call more) places = text_places more (with_slot_places (call_place call) places)
text_places (Asks ask more) places = text_places more (with_slot_places (ask.label.at ∷ []) places)
text_places (Tests at condition then_at inside more) places = text_places more (text_places inside places)
text_places (Chooses at condition then_at inside else_at other more) places =
    text_places more (text_places other (text_places inside places))
text_places (Repeats at name class body_at body more) places =
    text_places more (text_places body (with_turn_place name.at places))
