-- What is counted of single statements is what they add, where all that is read in them means something.
use Rattle.std.proofs.Common.{◌≡◌, ℕ, ◌+◌, ◌-◌, ◌^◌, ◌≤◌, min, List, [], ◌∷◌, length, take, refl, subst, arith}
use Rattle.std.specs.Prelude.{Bool, true, false, Option, Some, None, IfSome, IsSome, MatchOption, slice_get}
use Rattle.std.specs.Option.{option_map_or}
use Rattle.std.proofs.lemmas.List.{length-take}
use Rattle.domain_core.specs.declared.kind.Kind.{Kind}
use Rattle.domain_core.specs.declared.kind.Kind.TheVariants as kinds
use Rattle.model_core.specs.declared.item.Item.TheVariants.{Constraint, Relation}
use Rattle.model_core.specs.declared.item.Rel.{Rel}
use Rattle.model_core.specs.declared.item.Term.{Term}
use Rattle.model_core.specs.declared.item.Term.TheVariants as terms
use Rattle.model_core.specs.declared.variable.ValueKind.{ValueKind}
use Rattle.nddl_ast.specs.declared.expression.Expr.{Expr}
use Rattle.nddl_ast.specs.declared.expression.Expr.TheVariants as exprs
use Rattle.nddl_ast.specs.declared.expression.Init.{Init}
use Rattle.nddl_ast.specs.declared.expression.Init.TheVariants as inits
use Rattle.nddl_ast.specs.declared.name.Name.{Name}
use Rattle.nddl_ast.specs.declared.name.Path.{Path}
use Rattle.nddl_ast.specs.declared.statement.Ask.{Ask}
use Rattle.nddl_ast.specs.declared.statement.Call.{Call}
use Rattle.nddl_ast.specs.declared.statement.Condition.{Condition}
use Rattle.nddl_ast.specs.declared.statement.Condition.TheVariants as conditions
use Rattle.nddl_ast.specs.declared.statement.Variable.{Variable}
use Rattle.nddl_rule_check.specs.Constraints.{constraint_named, relation_named}
use Rattle.nddl_terms.specs.declared.tree.ReadName.{ReadName}
use Rattle.nddl_terms.specs.declared.growth.Growth.{Growth}
use Rattle.nddl_terms.specs.declared.lexicon.Lexicon.{Lexicon}
use Rattle.nddl_terms.specs.declared.lexicon.Shape.{Shape}
use Rattle.nddl_terms.specs.declared.stands.Made.{Made}
use Rattle.nddl_terms.specs.declared.stands.Stand.{Stand}
use Rattle.nddl_terms.specs.declared.stands.Stand.TheVariants.{Value, Slot, Root, Class, Nothing}
use Rattle.nddl_terms.specs.Growth.{with_item, with_slot}
use Rattle.nddl_terms.specs.Lexicon.{pred_class, pred_named}
use Rattle.nddl_terms.specs.Names.{name_read_at}
use Rattle.nddl_terms.specs.Paths.{rest_stand}
use Rattle.nddl_terms.specs.Readings.{Readings}
use Rattle.nddl_terms.specs.Stands.{first_stand}
use Rattle.nddl_lower.specs.Arguments.{argument, condition_guard, constraint_items, given_arguments, with_constraint, with_items}
use Rattle.nddl_lower.specs.Calls.{with_ask, with_call, with_constraint_named, with_related, with_relation_to}
use Rattle.nddl_lower.specs.Compared.{compared_terms, constraint_terms}
use Rattle.nddl_lower.specs.Locals.{next_local, type_shape, with_begun, with_declared, with_named_at, with_text_local}
use Rattle.nddl_lower.specs.Slots.{asked_labelled, asked_nothing, asked_of_owner, asked_own, asked_path, object_items, pred_slot, wanted_of, with_asked, with_asked_at, with_relation, with_wanted_token}
use Rattle.nddl_unroll.specs.declared.amounts.Amounts.{Amounts}
use Rattle.nddl_unroll.specs.Amounts.{amounts_and, no_amounts, one_local, some_items}
use Rattle.nddl_unroll.specs.Counting.{ask_amounts, asked_amounts, call_amounts, condition_reads, constraint_amounts, constraint_count, labelled_amounts, local_amounts, named_amounts, own_amounts, pairs_of, related_amounts, relation_amounts}
use Rattle.nddl_unroll.specs.Meant.{AreBothMeant, AreExprsMeant, IsAskMeant, IsCallMeant, IsConditionMeant, IsConstraintMeant, IsExprMeant, IsInitMeant, IsRelatedMeant, IsRelationMeant, IsSlotStand, IsSomething}
use Rattle.nddl_unroll.specs.Reads.{all_reads, begins_with_class, expr_reads, front_reads}
use Rattle.nddl_unroll.proofs.Counted.{as_many, expr_adds, items_are, sum_condition, sum_items, sum_pairs, sum_reads}
use Rattle.nddl_unroll.proofs.ExactPaths.{IsClass, class_before, class_meant, path_gives, something_led}
use Rattle.nddl_unroll.proofs.Extras.{EachMade, Extra, Gives, IsKnownStand, Sound, extra_and, extra_items, extra_local, extra_reads, extra_slot, gives_item, gives_items, gives_local, gives_none, gives_slot, gives_then, no_extra}
use Rattle.nddl_unroll.proofs.Statements.{class_first, items_for, most_objects, object_count, path_extra}

-- so much is these amounts, which stay at the greatest number
pub record IsJust (extra : Extra) (amounts : Amounts) : Type 0 where
  pub slots : amounts.slots ≡ min extra.slots (2 ^ 64 - 1)
  pub locals : amounts.locals ≡ min extra.locals (2 ^ 64 - 1)
  pub items : amounts.items ≡ min extra.items (2 ^ 64 - 1)
  pub guards : amounts.guards ≡ min extra.guards (2 ^ 64 - 1)
  pub turns : amounts.turns ≡ min extra.turns (2 ^ 64 - 1)

pub just_and : (one other : Extra) (some more : Amounts) → IsJust one some → IsJust other more → IsJust (extra_and one other) (amounts_and some more)
just_and one other some more first second = record {
  slots = omega (arith, first.slots, second.slots);
  locals = omega (arith, first.locals, second.locals);
  items = omega (arith, first.items, second.items);
  guards = omega (arith, first.guards, second.guards);
  turns = omega (arith, first.turns, second.turns);
}

-- what a statement adds is what is counted of it, in whatever turns in which all in it means something; none is a turn itself
pub record Just (Step : List Made → Growth → Growth) (Meant : List Made → Growth → Type 0) (amounts : Amounts) : Type 0 where
  pub extra : Extra
  pub gives : (turns : List Made) → EachMade IsKnownStand turns → (growth : Growth) → Sound growth → Meant turns growth
      → Gives extra growth (Step turns growth)
  pub turns : extra.turns ≡ 0
  pub counts : IsJust extra amounts

-- nothing is added
pub just_nothing : (Meant : List Made → Growth → Type 0) → Just (λ turns growth. growth) Meant no_amounts
just_nothing Meant = record {
  extra = no_extra;
  gives = λ turns known growth sound is. gives_none growth;
  turns = refl;
  counts = record { slots = omega arith; locals = omega arith; items = omega arith; guards = omega arith; turns = omega arith };
}

-- ---- arguments

expr_gives : (reading : Readings) (turns : List Made) (expr : Expr) (growth : Growth) → Sound growth → EachMade IsKnownStand turns
    → IsExprMeant reading turns expr growth
    → Gives (extra_reads (expr_reads reading.lexicon reading.names expr)) growth (argument reading turns expr growth).growth
expr_gives reading turns (exprs.Path path) growth sound known is =
    path_gives reading turns path path.rest (length path.rest) growth refl sound known is
expr_gives reading turns (exprs.Literal literal) growth sound known is = gives_none growth

reads_are : (lexicon : Lexicon) (names : List ReadName) (some : List Expr) (total : ℕ) → total ≤ 2 ^ 64 - 1
    → all_reads lexicon names some total ≡ min (total + sum_reads lexicon names some) (2 ^ 64 - 1)
reads_are lexicon names [] total within = omega (arith, within)
reads_are lexicon names (expr ∷ more) total within =
    let rest = reads_are lexicon names more (min (total + expr_reads lexicon names expr) (2 ^ 64 - 1)) (omega arith) in omega (arith, rest)

arguments_give : (reading : Readings) (turns : List Made) (some : List Expr) (growth : Growth) → Sound growth → EachMade IsKnownStand turns
    → AreExprsMeant reading turns some growth
    → Gives (extra_reads (sum_reads reading.lexicon reading.names some)) growth (given_arguments reading turns some growth).growth
arguments_give reading turns [] growth sound known are = gives_none growth
arguments_give reading turns (expr ∷ more) growth sound known are =
    let next = (argument reading turns expr growth).growth in
    gives_then (extra_reads (expr_reads reading.lexicon reading.names expr)) (extra_reads (sum_reads reading.lexicon reading.names more))
    growth next (given_arguments reading turns more next).growth (expr_gives reading turns expr growth sound known are.0)
    (arguments_give reading turns more next ((expr_adds reading turns expr growth sound known).sound sound) known are.1)

-- ---- constraints

pairs_are : (some : List Expr) (total : ℕ) → total ≤ 2 ^ 64 - 1 → pairs_of some total ≡ min (total + sum_pairs some) (2 ^ 64 - 1)
pairs_are [] total within = omega (arith, within)
pairs_are (expr ∷ more) total within =
    let rest = pairs_are more (min (total + length more) (2 ^ 64 - 1)) (omega arith) in omega (arith, rest)

count_is : (kind : Kind) (some : List Expr) → constraint_count kind some ≡ min (sum_items kind some) (2 ^ 64 - 1)
count_is kinds.AllDiff some = let are = pairs_are some 0 (omega arith) in omega (arith, are)
count_is kind some = omega arith

constraint_just : (reading : Readings) (kind : Kind) (some : List Expr)
    → Just (λ turns growth. with_constraint reading turns kind some growth) (λ turns growth. AreExprsMeant reading turns some growth)
    (constraint_amounts reading.lexicon reading.names kind some)
constraint_just reading kind some = record {
  extra = extra_and (extra_reads (sum_reads reading.lexicon reading.names some)) (extra_items (sum_items kind some));
  gives = λ turns known growth sound are.
      let given = given_arguments reading turns some growth in
      gives_then (extra_reads (sum_reads reading.lexicon reading.names some)) (extra_items (sum_items kind some)) growth given.growth
      (with_constraint reading turns kind some growth) (arguments_give reading turns some growth sound known are)
      (subst (λ (count : ℕ). Gives (extra_items count) given.growth (with_constraint reading turns kind some growth))
      (items_are kind given.stands some (as_many reading turns some growth))
      (gives_items (constraint_items kind (constraint_terms kind given.stands)) given.growth));
  turns = refl;
  counts =
      let reads = reads_are reading.lexicon reading.names some 0 (omega arith) in
      let items = count_is kind some in
      record {
        slots = omega arith;
        locals = omega (arith, reads);
        items = omega (arith, reads, items);
        guards = omega arith;
        turns = omega arith;
      };
}

-- ---- guards

pub condition_is : (lexicon : Lexicon) (names : List ReadName) (condition : Condition)
    → min (condition_reads lexicon names condition) (2 ^ 64 - 1) ≡ min (sum_condition lexicon names condition) (2 ^ 64 - 1)
condition_is lexicon names (conditions.Truth expr) = refl
condition_is lexicon names (conditions.Equal one other) = omega arith
condition_is lexicon names (conditions.NotEqual one other) = omega arith

two_give : (reading : Readings) (turns : List Made) (one other : Expr) (growth : Growth) → Sound growth → EachMade IsKnownStand turns
    → AreBothMeant reading turns one other growth
    → Gives (extra_reads (expr_reads reading.lexicon reading.names one + expr_reads reading.lexicon reading.names other)) growth
    (argument reading turns other (argument reading turns one growth).growth).growth
two_give reading turns one other growth sound known are =
    let next = (argument reading turns one growth).growth in
    gives_then (extra_reads (expr_reads reading.lexicon reading.names one)) (extra_reads (expr_reads reading.lexicon reading.names other))
    growth next (argument reading turns other next).growth (expr_gives reading turns one growth sound known are.0)
    (expr_gives reading turns other next ((expr_adds reading turns one growth sound known).sound sound) known are.1)

pub condition_gives : (reading : Readings) (turns : List Made) (condition : Condition) (growth : Growth) → Sound growth → EachMade IsKnownStand turns
    → IsConditionMeant reading turns condition growth
    → Gives (extra_reads (sum_condition reading.lexicon reading.names condition)) growth (condition_guard reading turns condition growth).growth
condition_gives reading turns (conditions.Truth expr) growth sound known is = expr_gives reading turns expr growth sound known is
condition_gives reading turns (conditions.Equal one other) growth sound known is = two_give reading turns one other growth sound known is
condition_gives reading turns (conditions.NotEqual one other) growth sound known is = two_give reading turns one other growth sound known is

-- ---- slots

gives_asked : (at number pred : ℕ) (growth : Growth) → Gives no_extra growth (with_asked_at at (Slot number pred) growth)
gives_asked at number pred growth = record { slots = omega arith; locals = omega arith; items = omega arith; guards = omega arith }

object_gives : (number : ℕ) (object : Option Term) (growth : Growth) → Gives (extra_items (object_count object)) growth (with_items (object_items number object) growth)
object_gives number None growth = gives_items [] growth
object_gives number (Some term) growth = gives_items (object_items number (Some term)) growth

-- a slot with its object and its relation
token_gives : (lexicon : Lexicon) (at : ℕ) (relation : Rel) (pred : ℕ) (object : Option Term) (growth : Growth)
    → Gives (extra_and extra_slot (extra_items (object_count object + 1))) growth (with_wanted_token lexicon at relation pred object growth)
token_gives lexicon at relation pred object growth =
    let number = length growth.slots in
    let noted = with_asked_at at (Slot number pred) growth in
    let slotted = with_slot (pred_slot lexicon pred) noted in
    let equal = with_items (object_items number object) slotted in
    gives_then extra_slot (extra_items (object_count object + 1)) growth slotted (with_wanted_token lexicon at relation pred object growth)
    (gives_then no_extra extra_slot growth noted slotted (gives_asked at number pred growth) (gives_slot (pred_slot lexicon pred) noted))
    (gives_then (extra_items (object_count object)) (extra_items 1) slotted equal (with_item (Relation relation number) equal)
    (object_gives number object slotted) (gives_item (Relation relation number) equal))

asked_gives : (lexicon : Lexicon) (at : ℕ) (relation : Rel) (count : ℕ) (pred : Option ℕ) (object : Option Term) (growth : Growth)
    → object_count object ≡ count → IsSome pred
    → Gives (extra_and extra_slot (extra_items (count + 1))) growth (option_map_or (λ found. with_wanted_token lexicon at relation found object growth) pred growth)
asked_gives lexicon at relation count None object growth so_many is = absurd (cc)
asked_gives lexicon at relation count (Some pred) object growth so_many is =
    subst (λ (n : ℕ). Gives (extra_and extra_slot (extra_items (n + 1))) growth (with_wanted_token lexicon at relation pred object growth)) so_many
    (token_gives lexicon at relation pred object growth)

-- what has a predicate is something
wanted_something : (lexicon : Lexicon) (stand : Stand) (name : List ℕ) → IsSome (wanted_of lexicon stand name).pred → IsSomething stand
wanted_something lexicon Nothing name is = absurd (cc)
wanted_something lexicon (Value term kind class) name is = tt
wanted_something lexicon (Slot number pred) name is = tt
wanted_something lexicon (Root number pred) name is = tt
wanted_something lexicon (Class class) name is = tt

-- what has a predicate is a class, or has an object
has_object : (lexicon : Lexicon) (stand : Stand) (name : List ℕ) → IsSome (wanted_of lexicon stand name).pred → (IsClass stand → ⊥)
    → object_count (wanted_of lexicon stand name).object ≡ 1
has_object lexicon (Value term kind class) name is none = refl
has_object lexicon (Class class) name is none = absurd (none tt)
has_object lexicon (Slot number pred) name is none = absurd (cc)
has_object lexicon (Root number pred) name is none = absurd (cc)
has_object lexicon Nothing name is none = absurd (cc)

objects_are : (so : Bool) (lexicon : Lexicon) (stand : Stand) (name : List ℕ) → IsSome (wanted_of lexicon stand name).pred
    → (so ≡ true → object_count (wanted_of lexicon stand name).object ≡ 0) → (IsClass stand → so ≡ true)
    → object_count (wanted_of lexicon stand name).object ≡ most_objects so
objects_are true lexicon stand name is none classed = none refl
objects_are false lexicon stand name is none classed =
    has_object lexicon stand name is (λ class. let wrong : false ≡ true = classed class in absurd (cc))

last_gives : (reading : Readings) (turns : List Made) (at : ℕ) (relation : Rel) (path : Path) (last : Option Name) (growth : Growth)
    → Sound growth → EachMade IsKnownStand turns
    → IsSome (option_map_or (λ name. asked_of_owner reading.lexicon (rest_stand reading (first_stand reading turns growth path.first.at)
    (take (length path.rest - 1) path.rest) growth) name.text) last (asked_nothing growth)).wanted.pred
    → Gives (path_extra reading path) growth (with_asked reading.lexicon at relation (option_map_or
    (λ name. asked_of_owner reading.lexicon (rest_stand reading (first_stand reading turns growth path.first.at)
    (take (length path.rest - 1) path.rest) growth) name.text) last (asked_nothing growth)))
last_gives reading turns at relation path None growth sound known is = absurd (cc)
last_gives reading turns at relation path (Some name) growth sound known is =
    let front = take (length path.rest - 1) path.rest in
    let as_many : length front ≡ length path.rest - 1 = omega (arith, length-take (length path.rest - 1) path.rest) in
    let here = first_stand reading turns growth path.first.at in
    let owner = rest_stand reading here front growth in
    let wanted = wanted_of reading.lexicon owner.stand name.text in
    let so = begins_with_class reading.lexicon reading.names path in
    let objects = objects_are so reading.lexicon owner.stand name.text is
    (class_first reading turns growth (name_read_at path.first.at reading.names) front growth name.text)
    (λ class. class_meant reading turns growth (name_read_at path.first.at reading.names) sound known (class_before reading here front growth class)) in
    gives_then (extra_reads (front_reads reading.lexicon reading.names path (length path.rest - 1)))
    (extra_and extra_slot (extra_items (most_objects so + 1))) growth owner.growth
    (option_map_or (λ found. with_wanted_token reading.lexicon at relation found wanted.object owner.growth) wanted.pred owner.growth)
    (path_gives reading turns path front (length path.rest - 1) growth as_many sound known
    (something_led here owner.stand (wanted_something reading.lexicon owner.stand name.text is)))
    (asked_gives reading.lexicon at relation (most_objects so) wanted.pred wanted.object owner.growth objects is)

asked_just : (reading : Readings) (at : ℕ) (relation : Rel) (path : Path)
    → Just (λ turns growth. with_asked reading.lexicon at relation (asked_path reading turns path growth))
    (λ turns growth. IsSome (asked_path reading turns path growth).wanted.pred) (asked_amounts reading.lexicon reading.names path)
asked_just reading at relation path = record {
  extra = path_extra reading path;
  gives = λ turns known growth sound is. last_gives reading turns at relation path (slice_get path.rest (length path.rest - 1)) growth sound known is;
  turns = refl;
  counts =
      let items = items_for (begins_with_class reading.lexicon reading.names path) in
      record {
        slots = omega arith;
        locals = omega arith;
        items = omega (arith, items);
        guards = omega arith;
        turns = omega arith;
      };
}

-- a predicate alone
own_just : (reading : Readings) (at : ℕ) (relation : Rel) (name : Name)
    → Just (λ turns growth. with_asked reading.lexicon at relation (record { wanted = asked_own reading name; growth = growth }))
    (λ turns growth. IsSome (asked_own reading name).pred) own_amounts
own_just reading at relation name = record {
  extra = extra_and extra_slot (extra_items 1);
  gives = λ turns known growth sound is.
      asked_gives reading.lexicon at relation 0 (pred_named reading.lexicon (pred_class reading.lexicon reading.pred) name.text) None growth refl is;
  turns = refl;
  counts = record { slots = omega arith; locals = omega arith; items = omega arith; guards = omega arith; turns = omega arith };
}

-- ---- relations to slots that there are

relation_gives : (relation : Rel) (stand : Stand) (growth : Growth) → IsSlotStand stand → Gives (extra_items 1) growth (with_relation relation stand growth)
relation_gives relation (Slot number pred) growth is = gives_item (Relation relation number) growth
relation_gives relation stand growth is = absurd is

label_just : (reading : Readings) (at : ℕ) (relation : Rel)
    → Just (λ turns growth. with_relation relation (first_stand reading turns growth at) growth)
    (λ turns growth. IsSlotStand (first_stand reading turns growth at)) (some_items 1)
label_just reading at relation = record {
  extra = extra_items 1;
  gives = λ turns known growth sound is. relation_gives relation (first_stand reading turns growth at) growth is;
  turns = refl;
  counts = record { slots = omega arith; locals = omega arith; items = omega arith; guards = omega arith; turns = omega arith };
}

related_just : (reading : Readings) (at : ℕ) (relation : Rel) (path : Path) (names : List Name)
    → Just (λ turns growth. with_related reading turns at relation path names growth)
    (λ turns growth. IsRelatedMeant reading turns path names growth) (related_amounts reading.lexicon reading.names path names)
related_just reading at relation path [] = label_just reading path.first.at relation
related_just reading at relation path (name ∷ more) = asked_just reading at relation path

relation_just : (reading : Readings) (at : ℕ) (relation : Rel) (some : List Expr)
    → Just (λ turns growth. with_relation_to reading turns at relation some growth)
    (λ turns growth. IsRelationMeant reading turns some growth) (relation_amounts reading.lexicon reading.names some)
relation_just reading at relation [] = just_nothing _
relation_just reading at relation (exprs.Path path ∷ []) = related_just reading at relation path path.rest
relation_just reading at relation (exprs.Path path ∷ (next ∷ more)) = just_nothing _
relation_just reading at relation (exprs.Literal literal ∷ more) = just_nothing _

-- ---- calls

named_just : (reading : Readings) (some : List Expr) (found : Option Kind)
    → Just (λ turns growth. option_map_or (λ kind. with_constraint reading turns kind some growth) found growth)
    (λ turns growth. IfSome found (λ kind. AreExprsMeant reading turns some growth))
    (option_map_or (λ kind. constraint_amounts reading.lexicon reading.names kind some) found no_amounts)
named_just reading some None = just_nothing _
named_just reading some (Some kind) = constraint_just reading kind some

called_just : (reading : Readings) (call : Call) (found : Option Rel)
    → Just (λ turns growth. option_map_or (λ relation. with_relation_to reading turns call.path.first.at relation call.arguments growth) found
    (with_constraint_named reading turns call.path.first call.arguments growth))
    (λ turns growth. MatchOption found (IsConstraintMeant reading turns call.path.first call.arguments growth)
    (λ relation. IsRelationMeant reading turns call.arguments growth))
    (option_map_or (λ relation. relation_amounts reading.lexicon reading.names call.arguments) found
    (named_amounts reading.lexicon reading.names call.path.first call.arguments))
called_just reading call None = named_just reading call.arguments (constraint_named call.path.first.text)
called_just reading call (Some relation) = relation_just reading call.path.first.at relation call.arguments

pub call_just : (reading : Readings) (call : Call)
    → Just (λ turns growth. with_call reading turns call growth) (λ turns growth. IsCallMeant reading turns call growth)
    (call_amounts reading.lexicon reading.names call)
call_just reading call = called_just reading call (relation_named call.path.first.text)

labelled_just : (reading : Readings) (at : ℕ) (relation : Rel) (path : Path) (names : List Name)
    → Just (λ turns growth. with_asked reading.lexicon at relation (asked_labelled reading turns path names growth))
    (λ turns growth. IsSome (asked_labelled reading turns path names growth).wanted.pred)
    (labelled_amounts reading.lexicon reading.names path names)
labelled_just reading at relation path [] = own_just reading at relation path.first
labelled_just reading at relation path (name ∷ more) = asked_just reading at relation path

ask_case_just : (reading : Readings) (ask : Ask) (found : Option Rel)
    → Just (λ turns growth. option_map_or (λ relation. with_asked reading.lexicon ask.label.at relation
    (asked_labelled reading turns ask.path ask.path.rest growth)) found growth)
    (λ turns growth. IfSome found (λ relation. IsSome (asked_labelled reading turns ask.path ask.path.rest growth).wanted.pred))
    (option_map_or (λ relation. labelled_amounts reading.lexicon reading.names ask.path ask.path.rest) found no_amounts)
ask_case_just reading ask None = just_nothing _
ask_case_just reading ask (Some relation) = labelled_just reading ask.label.at relation ask.path ask.path.rest

pub ask_just : (reading : Readings) (ask : Ask)
    → Just (λ turns growth. with_ask reading turns ask growth) (λ turns growth. IsAskMeant reading turns ask growth)
    (ask_amounts reading.lexicon reading.names ask)
ask_just reading ask = ask_case_just reading ask (relation_named ask.word.text)

-- ---- locals

named_gives : (at number : ℕ) (kind : ValueKind) (class : ℕ) (growth : Growth)
    → Gives no_extra growth (with_named_at at (Value (terms.Local number) kind class) growth)
named_gives at number kind class growth = record { slots = omega arith; locals = omega arith; items = omega arith; guards = omega arith }

declared_gives : (at : ℕ) (shape : Shape) (growth : Growth) → Gives extra_local growth (with_declared at shape growth)
declared_gives at shape growth =
    let noted = with_named_at at (next_local shape growth) growth in
    gives_then no_extra extra_local growth noted (with_declared at shape growth)
    (named_gives at (length growth.locals) shape.kind shape.class growth) (gives_local shape noted)

local_just_alone : (at : ℕ) (shape : List Made → Growth → Shape) (Meant : List Made → Growth → Type 0)
    → Just (λ turns growth. with_declared at (shape turns growth) growth) Meant one_local
local_just_alone at shape Meant = record {
  extra = extra_local;
  gives = λ turns known growth sound is. declared_gives at (shape turns growth) growth;
  turns = refl;
  counts = record { slots = omega arith; locals = omega arith; items = omega arith; guards = omega arith; turns = omega arith };
}

begun_just : (reading : Readings) (at : ℕ) (shape : List Made → Growth → Shape) (init : Option Init)
    → Just (λ turns growth. with_begun reading turns at (shape turns growth) init growth)
    (λ turns growth. IsInitMeant reading turns init growth) (local_amounts reading.lexicon reading.names init)
begun_just reading at shape None = local_just_alone at shape _
begun_just reading at shape (Some (inits.New creation)) = local_just_alone at shape _
begun_just reading at shape (Some (inits.Expr expr)) = record {
  extra = extra_and (extra_reads (expr_reads reading.lexicon reading.names expr)) (extra_and extra_local (extra_items 1));
  gives = λ turns known growth sound is.
      let given = argument reading turns expr growth in
      let declared = with_declared at (shape turns growth) given.growth in
      let begun = with_begun reading turns at (shape turns growth) (Some (inits.Expr expr)) growth in
      gives_then (extra_reads (expr_reads reading.lexicon reading.names expr)) (extra_and extra_local (extra_items 1)) growth given.growth
      begun (expr_gives reading turns expr growth sound known is)
      (gives_then extra_local (extra_items 1) given.growth declared begun
      (declared_gives at (shape turns growth) given.growth)
      (gives_item (Constraint kinds.Eq (compared_terms (next_local (shape turns growth) given.growth ∷ given.stand ∷ []))) declared));
  turns = refl;
  counts = record { slots = omega arith; locals = omega arith; items = omega arith; guards = omega arith; turns = omega arith };
}

pub local_just : (reading : Readings) (variable : Variable)
    → Just (λ turns growth. with_text_local reading turns variable growth)
    (λ turns growth. IsInitMeant reading turns variable.init growth) (local_amounts reading.lexicon reading.names variable.init)
local_just reading variable =
    begun_just reading variable.name.at (λ turns growth. type_shape reading turns growth variable.declared) variable.init
