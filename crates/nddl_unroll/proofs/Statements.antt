-- What is counted of calls, relations and locals is enough.
use Rattle.std.proofs.Common.{◌≡◌, ℕ, ◌+◌, ◌-◌, ◌≤◌, List, [], ◌∷◌, length, take, refl, ap, arith}
use Rattle.std.specs.Prelude.{Option, Some, None, Bool, true, false, slice_get, if◌then◌else◌}
use Rattle.std.specs.Option.{option_and_then, option_map_or}
use Rattle.std.proofs.lemmas.List.{length-take}
use Rattle.model_core.specs.declared.item.Item.TheVariants.{Constraint, Relation}
use Rattle.domain_core.specs.declared.kind.Kind.{Kind}
use Rattle.domain_core.specs.declared.kind.Kind.TheVariants.{Eq}
use Rattle.model_core.specs.declared.item.Rel.{Rel}
use Rattle.model_core.specs.declared.item.Term.{Term}
use Rattle.model_core.specs.declared.item.Term.TheVariants as terms
use Rattle.model_core.specs.declared.variable.ValueKind.{ValueKind}
use Rattle.nddl_rule_check.specs.Constraints.{constraint_named, relation_named}
use Rattle.nddl_ast.specs.declared.expression.Expr.{Expr}
use Rattle.nddl_ast.specs.declared.expression.Expr.TheVariants as exprs
use Rattle.nddl_ast.specs.declared.expression.Init.{Init}
use Rattle.nddl_ast.specs.declared.expression.Init.TheVariants as inits
use Rattle.nddl_ast.specs.declared.name.Name.{Name}
use Rattle.nddl_ast.specs.declared.name.Path.{Path}
use Rattle.nddl_ast.specs.declared.statement.Ask.{Ask}
use Rattle.nddl_ast.specs.declared.statement.Call.{Call}
use Rattle.nddl_ast.specs.declared.statement.Variable.{Variable}
use Rattle.nddl_terms.specs.declared.tree.Meaning.{Meaning}
use Rattle.nddl_terms.specs.declared.tree.Meaning.TheVariants as meanings
use Rattle.nddl_terms.specs.declared.growth.Growth.{Growth}
use Rattle.nddl_terms.specs.declared.lexicon.Lexicon.{Lexicon}
use Rattle.nddl_terms.specs.declared.lexicon.Shape.{Shape}
use Rattle.nddl_terms.specs.declared.stands.Made.{Made}
use Rattle.nddl_terms.specs.declared.stands.Stand.{Stand}
use Rattle.nddl_terms.specs.declared.stands.Stand.TheVariants.{Value, Slot, Class, Nothing}
use Rattle.nddl_terms.specs.Growth.{with_item, with_slot}
use Rattle.nddl_terms.specs.Lexicon.{pred_class, pred_named}
use Rattle.nddl_terms.specs.Paths.{rest_stand}
use Rattle.nddl_terms.specs.Readings.{Readings}
use Rattle.nddl_terms.specs.Names.{name_read_at}
use Rattle.nddl_terms.specs.Stands.{file_stand, first_stand, meaning_stand, stand_or_nothing}
use Rattle.nddl_unroll.specs.Amounts.{no_amounts, one_local, some_items}
use Rattle.nddl_unroll.specs.Counting.{ask_amounts, asked_amounts, call_amounts, constraint_amounts, labelled_amounts, local_amounts, named_amounts, own_amounts, related_amounts, relation_amounts}
use Rattle.nddl_unroll.specs.Meant.{IsSlotStand}
use Rattle.nddl_unroll.specs.Reads.{begins_with_class, expr_reads, front_reads, is_class_meaning, is_class_stand}
use Rattle.nddl_lower.specs.Arguments.{argument, with_constraint, with_items}
use Rattle.nddl_lower.specs.Compared.{compared_terms}
use Rattle.nddl_lower.specs.Locals.{next_local, type_shape, with_begun, with_declared, with_named_at, with_text_local}
use Rattle.nddl_lower.specs.Calls.{with_ask, with_call, with_constraint_named, with_related, with_relation_to}
use Rattle.nddl_lower.specs.Slots.{asked_labelled, asked_nothing, asked_of_owner, asked_own, asked_path, object_items, pred_slot, wanted_of, with_asked, with_asked_at, with_relation, with_wanted_token}
use Rattle.nddl_unroll.proofs.Counted.{Enough, constraint_enough, expr_adds}
use Rattle.nddl_unroll.proofs.Extras.{Adds, EachMade, Extra, IsKnownStand, IsLocalStand, Sound, adds_any, adds_item, adds_items, adds_local, adds_slot, adds_then, adds_within, each_more, extra_and, extra_items, extra_local, extra_reads, extra_slot, no_extra}
use Rattle.nddl_unroll.proofs.Paths.{path_adds}

-- nothing is added
pub enough_nothing : Enough (λ turns growth. growth) no_amounts
enough_nothing = record {
  extra = no_extra;
  adds = λ turns known growth sound. adds_any no_extra growth;
  counts = record { slots = omega arith; locals = omega arith; items = omega arith; guards = omega arith };
}

-- what stands for a slot is noted
adds_asked : (at number pred : ℕ) (growth : Growth) → Adds no_extra growth (with_asked_at at (Slot number pred) growth)
adds_asked at number pred growth = record {
  slots = omega arith;
  locals = omega arith;
  items = omega arith;
  guards = omega arith;
  sound = λ is. record { named = is.named; asked = each_more IsSlotStand growth.asked (record { at = at; stand = Slot number pred }) is.asked tt; unnamed = is.unnamed };
}

-- how many items say what the object of a slot equals
abbrev pub object_count : Option Term → ℕ
object_count None = 0
object_count (Some term) = 1

object_add : (number : ℕ) (object : Option Term) (growth : Growth) → Adds (extra_items (object_count object)) growth (with_items (object_items number object) growth)
object_add number None growth = adds_items [] growth
object_add number (Some term) growth = adds_items (object_items number (Some term)) growth

-- a slot with its object and its relation
token_adds : (lexicon : Lexicon) (at : ℕ) (relation : Rel) (pred : ℕ) (object : Option Term) (growth : Growth)
    → Adds (extra_and extra_slot (extra_items (object_count object + 1))) growth (with_wanted_token lexicon at relation pred object growth)
token_adds lexicon at relation pred object growth =
    let number = length growth.slots in
    let noted = with_asked_at at (Slot number pred) growth in
    let slotted = with_slot (pred_slot lexicon pred) noted in
    let equal = with_items (object_items number object) slotted in
    adds_then extra_slot (extra_items (object_count object + 1)) growth slotted (with_wanted_token lexicon at relation pred object growth)
    (adds_then no_extra extra_slot growth noted slotted (adds_asked at number pred growth) (adds_slot (pred_slot lexicon pred) noted))
    (adds_then (extra_items (object_count object)) (extra_items 1) slotted equal (with_item (Relation relation number) equal)
    (object_add number object slotted) (adds_item (Relation relation number) equal))

-- ---- what stands before a predicate

object_few : (object : Option Term) → object_count object ≤ 1
object_few None = omega arith
object_few (Some term) = omega arith

-- nothing comes of what is nothing
nothing_more : (reading : Readings) (names : List Name) (growth : Growth) → (rest_stand reading Nothing names growth).stand ≡ Nothing
nothing_more reading [] growth = refl
nothing_more reading (name ∷ more) growth = nothing_more reading more growth

-- a class has no object that the slot's has to equal, nor has what stands behind it
class_object : (reading : Readings) (class : ℕ) (names : List Name) (growth : Growth) (name : List ℕ)
    → object_count (wanted_of reading.lexicon (rest_stand reading (Class class) names growth).stand name).object ≡ 0
class_object reading class [] growth name = refl
class_object reading class (next ∷ more) growth name =
    ap (λ stand. object_count (wanted_of reading.lexicon stand name).object) (nothing_more reading more growth)

-- how many items say what the object equals, at most
abbrev pub most_objects : Bool → ℕ
most_objects true = 0
most_objects false = 1

few_anyway : (so : Bool) (object : Option Term) → (so ≡ true → object_count object ≡ 0) → object_count object ≤ most_objects so
few_anyway true object none = let zero = none refl in omega (arith, zero)
few_anyway false object none = object_few object

file_class : (reading : Readings) (found : Option Stand) (names : List Name) (growth : Growth) (name : List ℕ) → is_class_stand found ≡ true
    → object_count (wanted_of reading.lexicon (rest_stand reading (stand_or_nothing found) names growth).stand name).object ≡ 0
file_class reading (Some (Class class)) names growth name is = class_object reading class names growth name
file_class reading found names growth name is = absurd (cc)

-- where a path begins with a class, the slot's object equals nothing
pub class_first : (reading : Readings) (turns : List Made) (before : Growth) (found : Option Meaning) (names : List Name) (growth : Growth) (name : List ℕ)
    → is_class_meaning reading.lexicon found ≡ true
    → object_count (wanted_of reading.lexicon
    (rest_stand reading (stand_or_nothing (option_and_then (meaning_stand reading turns before) found)) names growth).stand name).object ≡ 0
class_first reading turns before (Some (meanings.Scope place)) names growth name is =
    file_class reading (file_stand reading.lexicon place) names growth name is
class_first reading turns before (Some (meanings.BuiltIn class)) names growth name is = class_object reading class names growth name
class_first reading turns before found names growth name is = absurd (cc)

-- ---- relations to further tokens

asked_adds : (lexicon : Lexicon) (at : ℕ) (relation : Rel) (most : ℕ) (pred : Option ℕ) (object : Option Term) (growth : Growth) → object_count object ≤ most
    → Adds (extra_and extra_slot (extra_items (most + 1))) growth (option_map_or (λ found. with_wanted_token lexicon at relation found object growth) pred growth)
asked_adds lexicon at relation most None object growth few = adds_any (extra_and extra_slot (extra_items (most + 1))) growth
asked_adds lexicon at relation most (Some pred) object growth few =
    adds_within (extra_and extra_slot (extra_items (object_count object + 1))) (extra_and extra_slot (extra_items (most + 1))) growth
    (with_wanted_token lexicon at relation pred object growth)
    (record { slots = omega arith; locals = omega arith; items = omega (arith, few); guards = omega arith })
    (token_adds lexicon at relation pred object growth)

abbrev pub path_extra : Readings → Path → Extra
path_extra reading path =
    extra_and (extra_reads (front_reads reading.lexicon reading.names path (length path.rest - 1)))
    (extra_and extra_slot (extra_items (most_objects (begins_with_class reading.lexicon reading.names path) + 1)))

last_adds : (reading : Readings) (turns : List Made) (at : ℕ) (relation : Rel) (path : Path) (last : Option Name) (growth : Growth)
    → Sound growth → EachMade IsKnownStand turns
    → Adds (path_extra reading path) growth (with_asked reading.lexicon at relation (option_map_or
    (λ name. asked_of_owner reading.lexicon (rest_stand reading (first_stand reading turns growth path.first.at)
    (take (length path.rest - 1) path.rest) growth) name.text) last (asked_nothing growth)))
last_adds reading turns at relation path None growth sound known = adds_any (path_extra reading path) growth
last_adds reading turns at relation path (Some name) growth sound known =
    let front = take (length path.rest - 1) path.rest in
    let fewer : length front ≤ length path.rest - 1 = omega (arith, length-take (length path.rest - 1) path.rest) in
    let owner = rest_stand reading (first_stand reading turns growth path.first.at) front growth in
    let wanted = wanted_of reading.lexicon owner.stand name.text in
    let most = most_objects (begins_with_class reading.lexicon reading.names path) in
    let few = few_anyway (begins_with_class reading.lexicon reading.names path) wanted.object
    (class_first reading turns growth (name_read_at path.first.at reading.names) front growth name.text) in
    adds_then (extra_reads (front_reads reading.lexicon reading.names path (length path.rest - 1)))
    (extra_and extra_slot (extra_items (most + 1))) growth owner.growth
    (option_map_or (λ found. with_wanted_token reading.lexicon at relation found wanted.object owner.growth) wanted.pred owner.growth)
    (path_adds reading turns path front (length path.rest - 1) growth fewer sound known)
    (asked_adds reading.lexicon at relation most wanted.pred wanted.object owner.growth few)

pub items_for : (so : Bool) → most_objects so + 1 ≡ (if so then 1 else 2)
items_for true = refl
items_for false = refl

pub asked_enough : (reading : Readings) (at : ℕ) (relation : Rel) (path : Path)
    → Enough (λ turns growth. with_asked reading.lexicon at relation (asked_path reading turns path growth)) (asked_amounts reading.lexicon reading.names path)
asked_enough reading at relation path = record {
  extra = path_extra reading path;
  adds = λ turns known growth sound. last_adds reading turns at relation path (slice_get path.rest (length path.rest - 1)) growth sound known;
  counts =
      let items = items_for (begins_with_class reading.lexicon reading.names path) in
      record {
        slots = omega arith;
        locals = omega arith;
        items = omega (arith, items);
        guards = omega arith;
      };
}

-- a predicate alone
pub own_enough : (reading : Readings) (at : ℕ) (relation : Rel) (name : Name)
    → Enough (λ turns growth. with_asked reading.lexicon at relation (record { wanted = asked_own reading name; growth = growth })) own_amounts
own_enough reading at relation name = record {
  extra = extra_and extra_slot (extra_items 1);
  adds = λ turns known growth sound.
      asked_adds reading.lexicon at relation 0 (pred_named reading.lexicon (pred_class reading.lexicon reading.pred) name.text) None growth (omega arith);
  counts = record { slots = omega arith; locals = omega arith; items = omega arith; guards = omega arith };
}

-- ---- relations to slots that there are

relation_adds : (relation : Rel) (stand : Stand) (growth : Growth) → Adds (extra_items 1) growth (with_relation relation stand growth)
relation_adds relation (Slot number pred) growth = adds_item (Relation relation number) growth
relation_adds relation stand growth = adds_any (extra_items 1) growth

label_enough : (reading : Readings) (at : ℕ) (relation : Rel)
    → Enough (λ turns growth. with_relation relation (first_stand reading turns growth at) growth) (some_items 1)
label_enough reading at relation = record {
  extra = extra_items 1;
  adds = λ turns known growth sound. relation_adds relation (first_stand reading turns growth at) growth;
  counts = record { slots = omega arith; locals = omega arith; items = omega arith; guards = omega arith };
}

related_enough : (reading : Readings) (at : ℕ) (relation : Rel) (path : Path) (names : List Name)
    → Enough (λ turns growth. with_related reading turns at relation path names growth) (related_amounts reading.lexicon reading.names path names)
related_enough reading at relation path [] = label_enough reading path.first.at relation
related_enough reading at relation path (name ∷ more) = asked_enough reading at relation path

relation_enough : (reading : Readings) (at : ℕ) (relation : Rel) (some : List Expr)
    → Enough (λ turns growth. with_relation_to reading turns at relation some growth) (relation_amounts reading.lexicon reading.names some)
relation_enough reading at relation [] = enough_nothing
relation_enough reading at relation (exprs.Path path ∷ []) = related_enough reading at relation path path.rest
relation_enough reading at relation (exprs.Path path ∷ (next ∷ more)) = enough_nothing
relation_enough reading at relation (exprs.Literal literal ∷ more) = enough_nothing

-- ---- calls

named_enough : (reading : Readings) (some : List Expr) (found : Option Kind)
    → Enough (λ turns growth. option_map_or (λ kind. with_constraint reading turns kind some growth) found growth)
    (option_map_or (λ kind. constraint_amounts reading.lexicon reading.names kind some) found no_amounts)
named_enough reading some None = enough_nothing
named_enough reading some (Some kind) = constraint_enough reading kind some

called_enough : (reading : Readings) (call : Call) (found : Option Rel)
    → Enough (λ turns growth. option_map_or (λ relation. with_relation_to reading turns call.path.first.at relation call.arguments growth) found
    (with_constraint_named reading turns call.path.first call.arguments growth))
    (option_map_or (λ relation. relation_amounts reading.lexicon reading.names call.arguments) found
    (named_amounts reading.lexicon reading.names call.path.first call.arguments))
called_enough reading call None = named_enough reading call.arguments (constraint_named call.path.first.text)
called_enough reading call (Some relation) = relation_enough reading call.path.first.at relation call.arguments

pub call_enough : (reading : Readings) (call : Call)
    → Enough (λ turns growth. with_call reading turns call growth) (call_amounts reading.lexicon reading.names call)
call_enough reading call = called_enough reading call (relation_named call.path.first.text)

labelled_enough : (reading : Readings) (at : ℕ) (relation : Rel) (path : Path) (names : List Name)
    → Enough (λ turns growth. with_asked reading.lexicon at relation (asked_labelled reading turns path names growth))
    (labelled_amounts reading.lexicon reading.names path names)
labelled_enough reading at relation path [] = own_enough reading at relation path.first
labelled_enough reading at relation path (name ∷ more) = asked_enough reading at relation path

ask_case : (reading : Readings) (ask : Ask) (found : Option Rel)
    → Enough (λ turns growth. option_map_or (λ relation. with_asked reading.lexicon ask.label.at relation
    (asked_labelled reading turns ask.path ask.path.rest growth)) found growth)
    (option_map_or (λ relation. labelled_amounts reading.lexicon reading.names ask.path ask.path.rest) found no_amounts)
ask_case reading ask None = enough_nothing
ask_case reading ask (Some relation) = labelled_enough reading ask.label.at relation ask.path ask.path.rest

pub ask_enough : (reading : Readings) (ask : Ask)
    → Enough (λ turns growth. with_ask reading turns ask growth) (ask_amounts reading.lexicon reading.names ask)
ask_enough reading ask = ask_case reading ask (relation_named ask.word.text)

-- ---- locals

named_adds : (at number : ℕ) (kind : ValueKind) (class : ℕ) (growth : Growth)
    → Adds no_extra growth (with_named_at at (Value (terms.Local number) kind class) growth)
named_adds at number kind class growth = record {
  slots = omega arith;
  locals = omega arith;
  items = omega arith;
  guards = omega arith;
  sound = λ is. record { named = each_more IsLocalStand growth.named (record { at = at; stand = Value (terms.Local number) kind class }) is.named tt; asked = is.asked; unnamed = is.unnamed };
}

declared_adds : (at : ℕ) (shape : Shape) (growth : Growth) → Adds extra_local growth (with_declared at shape growth)
declared_adds at shape growth =
    let noted = with_named_at at (next_local shape growth) growth in
    adds_then no_extra extra_local growth noted (with_declared at shape growth)
    (named_adds at (length growth.locals) shape.kind shape.class growth) (adds_local shape noted)

-- whatever the shape is in these turns, with what the rule has by then
local_alone : (at : ℕ) (shape : List Made → Growth → Shape) → Enough (λ turns growth. with_declared at (shape turns growth) growth) one_local
local_alone at shape = record {
  extra = extra_local;
  adds = λ turns known growth sound. declared_adds at (shape turns growth) growth;
  counts = record { slots = omega arith; locals = omega arith; items = omega arith; guards = omega arith };
}

begun_enough : (reading : Readings) (at : ℕ) (shape : List Made → Growth → Shape) (init : Option Init)
    → Enough (λ turns growth. with_begun reading turns at (shape turns growth) init growth) (local_amounts reading.lexicon reading.names init)
begun_enough reading at shape None = local_alone at shape
begun_enough reading at shape (Some (inits.New creation)) = local_alone at shape
begun_enough reading at shape (Some (inits.Expr expr)) = record {
  extra = extra_and (extra_reads (expr_reads reading.lexicon reading.names expr)) (extra_and extra_local (extra_items 1));
  adds = λ turns known growth sound.
      let given = argument reading turns expr growth in
      let declared = with_declared at (shape turns growth) given.growth in
      let begun = with_begun reading turns at (shape turns growth) (Some (inits.Expr expr)) growth in
      adds_then (extra_reads (expr_reads reading.lexicon reading.names expr)) (extra_and extra_local (extra_items 1)) growth given.growth
      begun (expr_adds reading turns expr growth sound known)
      (adds_then extra_local (extra_items 1) given.growth declared begun
      (declared_adds at (shape turns growth) given.growth)
      (adds_item (Constraint Eq (compared_terms (next_local (shape turns growth) given.growth ∷ given.stand ∷ []))) declared));
  counts = record { slots = omega arith; locals = omega arith; items = omega arith; guards = omega arith };
}

pub local_enough : (reading : Readings) (variable : Variable)
    → Enough (λ turns growth. with_text_local reading turns variable growth) (local_amounts reading.lexicon reading.names variable.init)
local_enough reading variable =
    begun_enough reading variable.name.at (λ turns growth. type_shape reading turns growth variable.declared) variable.init
