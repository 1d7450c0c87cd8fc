-- The problems of the examples are lawful.
use Rattle.std.proofs.Common.{◌≡◌, ℕ, suc, zero, ◌<◌, ◌≤◌, ◌^◌, Bool, true, false, List, [], ◌∷◌, length, Some, ℤ, pos, inl, inr, refl, sym, ap, ◌∙◌, subst, arith, ◌+◌, ◌++◌, map, get_or, fold, cond}
use Rattle.std.specs.Prelude.{Contains, All, AllPairs, ◌≢◌, ◌⊎◌, ⊤, ◌&&◌, not, slice_get, codes, count_by}
use Rattle.std.specs.List.{AllZip}
use Rattle.std.proofs.lemmas.Int.{ints}
use Rattle.domain_core.specs.Domain.{Range, Has}
use Rattle.eu_name.specs.declared.name.Part.TheVariants.{Param}
use Rattle.eu_name.specs.Word.{IsName}
use Rattle.model_core.specs.declared.class.Class.{Class}
use Rattle.model_core.specs.declared.class.Object.{Object}
use Rattle.model_core.specs.declared.class.ObjectKind.{ObjectKind}
use Rattle.model_core.specs.declared.class.ObjectKind.TheVariants as kind
use Rattle.model_core.specs.declared.class.Pred.{Pred}
use Rattle.model_core.specs.declared.class.PredKind.{PredKind}
use Rattle.model_core.specs.declared.class.PredKind.TheVariants as pred
use Rattle.model_core.specs.declared.item.Item.{Item}
use Rattle.model_core.specs.declared.item.Term.TheVariants as term
use Rattle.model_core.specs.declared.model.Model.{Model}
use Rattle.model_core.specs.declared.model.Problem.{Problem}
use Rattle.model_core.specs.declared.model.Root.{Root}
use Rattle.model_core.specs.declared.model.RootKind.{RootKind}
use Rattle.model_core.specs.declared.model.RootKind.TheVariants.{Goal, Rejectable, Fact}
use Rattle.model_core.specs.declared.rule.Guard.{Guard}
use Rattle.model_core.specs.declared.rule.Rule.{Rule}
use Rattle.model_core.specs.declared.rule.Side.{Side}
use Rattle.model_core.specs.declared.rule.Side.TheVariants.{Then, Otherwise}
use Rattle.model_core.specs.declared.rule.Turn.{Turn}
use Rattle.model_core.specs.declared.variable.Base.TheVariants.{Given, Void}
use Rattle.model_core.specs.declared.variable.ValueKind.TheVariants as kinds
use Rattle.model_core.specs.declared.variable.VarDecl.{VarDecl}
use Rattle.model_core.specs.Blocks.{Direct, OfLocal, OfBranch, Follows, direct, chosen}
use Rattle.model_core.specs.Entries.{Entries, NoEntry}
use Rattle.model_core.specs.Kinds.{OfProblem, OfRule, IsOfKind, IsObjectOf}
use Rattle.model_core.specs.Lawful.{IsLawful, IsHorizon, IsLawfulEnum, IsLawfulClass, IsLawfulObject, IsLawfulKind, IsLawfulVariable, IsLawfulItem, IsLawfulEntry, IsLawfulSlot, IsLawfulRule, AreFew, HasQuantity, IsLawfulPred, IsLawfulRoot, IsLawfulDecision, is_fact}
use Rattle.model_core.specs.Naming.{builtin_names, names_of, declared_names, file_names, IsObjectName, IsParameterName, token_part_words}
use Rattle.model_core.specs.Standing.{StandsAt, StandsOnce, LeadsToBlock, IsTermSeen}
use Rattle.model_core.specs.Variables.{IsGiven}
use Rattle.model_core.proofs.Words.{is_among, not_contained, is_plain, plain_name, all_differ, differing, are_word_bytes}
use Rattle.eu_name.proofs.Ordered.{contains_cases, contains_none, ordered_none, ordered_one}
use Rattle.law_examples.specs.Cases.{lone_goal, ruled, localised, two_facts, tool, battery, goal_and_fact, limited, at_most_one}
use Rattle.law_examples.specs.Globals.{declared_x, problem_with, problem_of, free_x, low_x, at_most_1}
use Rattle.law_examples.specs.Plans.{localised_rejectable}
use Rattle.law_examples.specs.Posted.{both_truths, declared_b, typed}
use Rattle.law_examples.specs.Refused.{alone, two_goals, mixed, facts_and_goal, many_roots}
use Rattle.law_examples.specs.Scenes.{the_object, both_objects, object_called, predicate_called, predicate_of, label_of, root_of, roots_from, scene_with, guarded, with_local}
use Rattle.law_examples.specs.Searched.{declared_to, twice_is, halved}
use Rattle.law_examples.specs.Worlds.{class_with, object_with, declared_c, declared_field, declared_v, declared_y, field_is, no_choice, one_choice, fielded, free_two, low_two}
use Rattle.law_examples.proofs.Closed.{guarded_follows}
use Rattle.law_examples.proofs.Domains.{object_domain, both_domain}
use Rattle.law_examples.proofs.Lists.{only_member, same_some}
use Rattle.law_examples.proofs.Locals.{way_is}

-- ---- lists

none : {X : Type 0} (P : X → Type 0) → All P []
none P k d within = absurd (omega (arith, within))

with_first : {X : Type 0} (P : X → Type 0) (x : X) (xs : List X) → P x → All P xs → All P (x ∷ xs)
with_first P x xs p ps zero d within = p
with_first P x xs p ps (suc k) d within = ps k d (omega (arith, within))

one : {X : Type 0} (P : X → Type 0) (x : X) → P x → All P (x ∷ [])
one P x p = with_first P x [] p (none P)

two : {X : Type 0} (P : X → Type 0) (x y : X) → P x → P y → All P (x ∷ y ∷ [])
two P x y p q = with_first P x (y ∷ []) p (one P y q)

at_place : {X : Type 0} (P : X → Type 0) (xs : List X) → All P xs → (k : ℕ) (x : X) → slice_get xs k ≡ Some x → P x
at_place P [] all k x at = absurd (cc)
at_place P (y ∷ xs) all zero x at = subst P (same_some y x at) (all 0 y (omega arith))
at_place P (y ∷ xs) all (suc k) x at = at_place P xs (λ n d within. all (suc n) d (omega (arith, within))) k x at

abbrev none_among : List (List ℕ) → Bool
none_among [] = true
none_among (name ∷ names) = not (is_among builtin_names name) && none_among names

and_true : (b c : Bool) → (b && c) ≡ true → (b ≡ true) × (c ≡ true)
and_true true c h = (refl, h)
and_true false c h = absurd (cc)

not_false : (b : Bool) → not b ≡ true → b ≡ false
not_false false h = refl
not_false true h = absurd (cc)

no_builtin : (names : List (List ℕ)) → none_among names ≡ true → All (λ name. Contains builtin_names name → ⊥) names
no_builtin [] test = none (λ name. Contains builtin_names name → ⊥)
no_builtin (name ∷ names) test =
    let parts = and_true (not (is_among builtin_names name)) (none_among names) test in
    with_first (λ name. Contains builtin_names name → ⊥) name names (not_contained builtin_names name (not_false (is_among builtin_names name) parts.0)) (no_builtin names parts.1)

-- ---- what all of them have

ten : (problem : Problem) → problem.start ≡ pos 0 → problem.end ≡ pos 10 → problem.steps ≡ 1 → IsHorizon problem
ten problem start end steps = record {
  start = omega (arith, ints, start);
  order = omega (arith, ints, start, end);
  end = (omega (arith, ints, end), omega (arith, ints, end));
  some_steps = omega (arith, steps);
  few_steps = omega (arith, steps);
}

small : (number : ℕ) → number ≤ 10 → number < 2 ^ 32
small number few = let e : 2 ^ 32 ≡ 4294967296 = refl in omega (arith, few, e)

int_variable : (model : Model) (name : List ℕ) (high : ℕ) → high ≤ 1000000 → IsLawfulVariable model (record { name = name; kind = kinds.Int; base = Given (Range (pos 0) (pos high)) })
int_variable model name high few = record {
  kind = tt;
  base = ((omega (arith, ints), omega (arith, ints)), (omega (arith, ints), omega (arith, ints, few)), omega (arith, ints));
  inside = record { values = λ v has. (omega (arith, ints, has.0), omega (arith, ints, has.1, few)); range = λ is. tt };
}

object_name : (name : List ℕ) → is_plain name ≡ true → IsObjectName name
object_name name test = (name ∷ [], omega arith, one IsName name (plain_name name test), refl)

class_lawful : (model : Model) (fields : List VarDecl) → All (IsLawfulVariable model) fields → All IsName (names_of fields) → AllPairs ◌≢◌ (names_of fields)
    → (number : ℕ) (class : Class) → slice_get (class_with fields ∷ []) number ≡ Some class → IsLawfulClass model number class
class_lawful model fields variables names distinct zero class at = subst (IsLawfulClass model 0) (same_some (class_with fields) class at) (record {
  name = plain_name (codes "C") refl;
  extends = λ parent e. absurd (cc);
  no_circle = λ parent e. absurd (cc);
  fields = variables;
  names = names;
  distinct = distinct;
})
class_lawful model fields variables names distinct (suc number) class at = absurd (cc)

no_field_names : AllPairs ◌≢◌ (names_of [])
no_field_names = differing [] refl

-- ---- problems of variables

module _ (classes : List Class) (objects : List Object) (globals : List VarDecl) (items : List Item) where
  abbrev world : Model
  world = problem_with classes objects globals items

  world_lawful : length classes ≤ 10 → length objects ≤ 10 → length globals ≤ 10 → length items ≤ 10
      → ((number : ℕ) (class : Class) → slice_get classes number ≡ Some class → IsLawfulClass world number class)
      → All (IsLawfulObject world) objects → All (IsLawfulVariable world) globals → All (λ variable. IsName variable.name) globals → All (IsLawfulItem world OfProblem) items
      → none_among (declared_names world) ≡ true → all_differ (file_names world) ≡ true → IsLawful world
  world_lawful few_classes few_objects few_globals few_items are_classes are_objects are_globals are_names are_items builtin differ = record {
    horizon = ten world.problem refl refl refl;
    few_enums = small 0 (omega arith);
    few_classes = small (length classes) few_classes;
    few_preds = small 0 (omega arith);
    few_rules = small 0 (omega arith);
    few_objects = omega (arith, few_objects);
    few_roots = omega arith;
    few_facts = omega arith;
    few_globals = omega (arith, few_globals);
    few_items = small (length items) few_items;
    enums = none IsLawfulEnum;
    classes = are_classes;
    objects = are_objects;
    preds = λ number found at. absurd (cc);
    pred_names = ordered_none (λ (one other : Pred). one.class ≡ other.class → one.name ≢ other.name);
    roots = none (IsLawfulRoot world);
    globals = are_globals;
    items = are_items;
    decisions = none (λ placed. IsLawfulDecision world placed.decision);
    names = λ number variable is. inl (at_place (λ (v : VarDecl). IsName v.name) globals are_names number variable is);
    not_builtin = no_builtin (declared_names world) builtin;
    distinct = differing (file_names world) differ;
  }

abbrev Named : VarDecl → Type 0
Named variable = IsName variable.name

no_class : (model : Model) (number : ℕ) (class : Class) → slice_get [] number ≡ Some class → IsLawfulClass model number class
no_class model number class at = absurd (cc)

pub empty_lawful : IsLawful (problem_of [] [])
empty_lawful =
    world_lawful [] [] [] [] (omega arith) (omega arith) (omega arith) (omega arith) (no_class (problem_of [] [])) (none (IsLawfulObject (problem_of [] []))) (none (IsLawfulVariable (problem_of [] []))) (none Named)
    (none (IsLawfulItem (problem_of [] []) OfProblem)) refl refl

x_lawful : (items : List Item) → length items ≤ 10 → All (IsLawfulItem (problem_of (declared_x ∷ []) items) OfProblem) items → IsLawful (problem_of (declared_x ∷ []) items)
x_lawful items few are_items =
    let model = problem_of (declared_x ∷ []) items in
    world_lawful [] [] (declared_x ∷ []) items (omega arith) (omega arith) (omega arith) few (no_class model) (none (IsLawfulObject model)) (one (IsLawfulVariable model) declared_x (int_variable model (codes "x") 2 (omega arith)))
    (one Named declared_x (plain_name (codes "x") refl)) are_items refl refl

-- x is at most 1
x_item : (globals : List VarDecl) → IsLawfulItem (problem_of (declared_x ∷ globals) (at_most_1 ∷ [])) OfProblem at_most_1
x_item globals =
    let is_int = two (IsOfKind (problem_of (declared_x ∷ globals) (at_most_1 ∷ [])) OfProblem kinds.Int) (term.Global 0) (term.Lit (pos 1)) (declared_x, refl, refl) (omega (arith, ints), omega (arith, ints)) in
    (refl, (kinds.Int, tt, is_int))

pub free_lawful : IsLawful free_x
free_lawful = x_lawful [] (omega arith) (none (IsLawfulItem free_x OfProblem))

pub low_lawful : IsLawful low_x
low_lawful = x_lawful (at_most_1 ∷ []) (omega arith) (one (IsLawfulItem low_x OfProblem) at_most_1 (x_item []))

-- x is from 0 to a number that is twice x
pub halved_lawful : (number : ℕ) → number ≤ 10 → IsLawful (halved number)
halved_lawful number few =
    let variable : IsOfKind (halved number) OfProblem kinds.Int (term.Global 0) = (declared_to number, refl, refl) in
    let value : IsOfKind (halved number) OfProblem kinds.Int (term.Lit (pos number)) = (omega (arith, ints), omega (arith, ints, few)) in
    world_lawful [] [] (declared_to number ∷ []) (twice_is number ∷ []) (omega arith) (omega arith) (omega arith) (omega arith) (no_class (halved number)) (none (IsLawfulObject (halved number)))
    (one (IsLawfulVariable (halved number)) (declared_to number) (int_variable (halved number) (codes "x") number (omega (arith, few))))
    (one Named (declared_to number) (plain_name (codes "x") refl))
    (one (IsLawfulItem (halved number) OfProblem) (twice_is number) (
      refl,
      (
        kinds.Int,
        tt,
        with_first (IsOfKind (halved number) OfProblem kinds.Int) (term.Global 0) (term.Global 0 ∷ term.Lit (pos number) ∷ []) variable
            (two (IsOfKind (halved number) OfProblem kinds.Int) (term.Global 0) (term.Lit (pos number)) variable value),
      ),
    ))
    refl refl

x_and_y_lawful : (items : List Item) → length items ≤ 10 → All (IsLawfulItem (problem_of (declared_x ∷ declared_y ∷ []) items) OfProblem) items → IsLawful (problem_of (declared_x ∷ declared_y ∷ []) items)
x_and_y_lawful items few are_items =
    let model = problem_of (declared_x ∷ declared_y ∷ []) items in
    world_lawful [] [] (declared_x ∷ declared_y ∷ []) items (omega arith) (omega arith) (omega arith) few (no_class model) (none (IsLawfulObject model))
    (two (IsLawfulVariable model) declared_x declared_y (int_variable model (codes "x") 2 (omega arith)) (int_variable model (codes "y") 2 (omega arith)))
    (two Named declared_x declared_y (plain_name (codes "x") refl) (plain_name (codes "y") refl)) are_items refl refl

pub free_two_lawful : IsLawful free_two
free_two_lawful = x_and_y_lawful [] (omega arith) (none (IsLawfulItem free_two OfProblem))

pub low_two_lawful : IsLawful low_two
low_two_lawful = x_and_y_lawful (at_most_1 ∷ []) (omega arith) (one (IsLawfulItem low_two OfProblem) at_most_1 (x_item (declared_y ∷ [])))

pub typed_lawful : IsLawful typed
typed_lawful =
    world_lawful [] [] (declared_x ∷ declared_b ∷ []) [] (omega arith) (omega arith) (omega arith) (omega arith) (no_class typed) (none (IsLawfulObject typed))
    (two (IsLawfulVariable typed) declared_x declared_b (int_variable typed (codes "x") 2 (omega arith)) (record {
      kind = tt;
      base = both_domain;
      inside = record { values = truth; range = λ is. absurd is };
    }))
    (two Named declared_x declared_b (plain_name (codes "x") refl) (plain_name (codes "b") refl)) (none (IsLawfulItem typed OfProblem)) refl refl
  where
    truth : (value : ℤ) → Has both_truths value → (value ≡ pos 0) ⊎ (value ≡ pos 1)
    truth value c = elim (contains_cases (pos 0) value (pos 1 ∷ []) c) [
      | inl same ↦ inl (sym same)
      | inr later ↦ inr (sym (only_member (pos 1) value later))
    ]

pub void_lawful : IsLawful no_choice
void_lawful =
    world_lawful (class_with [] ∷ []) [] (declared_c Void ∷ []) [] (omega arith) (omega arith) (omega arith) (omega arith)
    (class_lawful no_choice [] (none (IsLawfulVariable no_choice)) (none IsName) no_field_names) (none (IsLawfulObject no_choice))
    (one (IsLawfulVariable no_choice) (declared_c Void) (record { kind = tt; base = tt; inside = refl })) (one Named (declared_c Void) (plain_name (codes "c") refl)) (none (IsLawfulItem no_choice OfProblem)) refl refl

pub given_lawful : IsLawful one_choice
given_lawful =
    world_lawful (class_with [] ∷ []) (object_with (codes "o") [] ∷ []) (declared_c (Given the_object) ∷ []) [] (omega arith) (omega arith) (omega arith) (omega arith)
    (class_lawful one_choice [] (none (IsLawfulVariable one_choice)) (none IsName) no_field_names)
    (one (IsLawfulObject one_choice) (object_with (codes "o") []) (record { name = object_name (codes "o") refl; class = class_with []; is_class = refl; fields = tt; kind = tt }))
    (one (IsLawfulVariable one_choice) (declared_c (Given the_object)) (record {
      kind = tt;
      base = object_domain;
      inside = record { values = λ v c. (_, (0, sym (only_member (pos 0) v c), refl)); range = λ is. absurd is };
    }))
    (one Named (declared_c (Given the_object)) (plain_name (codes "c") refl)) (none (IsLawfulItem one_choice OfProblem)) refl refl

fielded_object : (value : ℤ) → Has both_objects value → IsObjectOf fielded 0 value
fielded_object value c = elim (contains_cases (pos 0) value (pos 1 ∷ []) c) [
  | inl same ↦ (_, (0, sym same, refl), ([], refl))
  | inr later ↦ (_, (1, sym (only_member (pos 1) value later), refl), ([], refl))
]

field_object : (name : List ℕ) (value : ℕ) → is_plain name ≡ true → value ≤ 10 → IsLawfulObject fielded (object_with name (pos value ∷ []))
field_object name value test few = record {
  name = object_name name test;
  class = class_with (declared_field ∷ []);
  is_class = refl;
  fields = ((omega (arith, ints), omega (arith, ints, few)), tt);
  kind = tt;
}

pub field_lawful : IsLawful fielded
field_lawful =
    world_lawful (class_with (declared_field ∷ []) ∷ []) fielded.objects (declared_c (Given both_objects) ∷ declared_v ∷ []) (field_is ∷ []) (omega arith) (omega arith) (omega arith) (omega arith)
    (class_lawful fielded (declared_field ∷ []) (one (IsLawfulVariable fielded) declared_field (int_variable fielded (codes "f") 9 (omega arith))) (one IsName (codes "f") (plain_name (codes "f") refl)) (differing (names_of (declared_field ∷ [])) refl))
    (two (IsLawfulObject fielded) _ _ (field_object (codes "o") 1 refl (omega arith)) (field_object (codes "p") 2 refl (omega arith)))
    (two (IsLawfulVariable fielded) (declared_c (Given both_objects)) declared_v (record {
      kind = tt;
      base = both_domain;
      inside = record { values = λ v c. let found = fielded_object v c in (found.0, found.1); range = λ is. absurd is };
    }) (int_variable fielded (codes "v") 9 (omega arith)))
    (two Named (declared_c (Given both_objects)) declared_v (plain_name (codes "c") refl) (plain_name (codes "v") refl))
    (one (IsLawfulItem fielded OfProblem) field_is (
      refl,
      record {
        class = 0;
        found = class_with (declared_field ∷ []);
        is_class = refl;
        variable = declared_field;
        declared = refl;
        of_kind = (declared_c (Given both_objects), refl, refl);
        of_class = (declared_c (Given both_objects), refl, fielded_object);
        value_kind = (declared_v, refl, refl);
      },
    )) refl refl

-- ---- problems of tokens

abbrev the_class : Class
the_class = class_with []

module _ (items : List Item) (object_kind : ObjectKind) (preds : List Pred) (rules : List Rule) (roots : List Root) where
  abbrev tokens_world : Model
  tokens_world = record {
    enums = [];
    classes = the_class ∷ [];
    objects = object_called (codes "o") object_kind ∷ object_called (codes "p") object_kind ∷ [];
    preds = preds;
    rules = rules;
    problem = record { start = pos 0; end = pos 10; steps = 1; roots = roots; globals = []; items = items; decisions = [] };
  }

  called_lawful : (name : List ℕ) → is_plain name ≡ true → IsLawfulKind object_kind → IsLawfulObject tokens_world (object_called name object_kind)
  called_lawful name test lawful_kind = record { name = object_name name test; class = the_class; is_class = refl; fields = tt; kind = lawful_kind }

  of_class : (value : ℤ) → Has both_objects value → IsObjectOf tokens_world 0 value
  of_class value c = elim (contains_cases (pos 0) value (pos 1 ∷ []) c) [
    | inl same ↦ (_, (0, sym same, refl), ([], refl))
    | inr later ↦ (_, (1, sym (only_member (pos 1) value later), refl), ([], refl))
  ]

  root_lawful : (label : List ℕ) (root_kind : RootKind) (number : ℕ) (name : List ℕ) (pred_kind : PredKind) (numbers : List ℕ) → is_plain label ≡ true
      → slice_get preds number ≡ Some (predicate_called name pred_kind numbers) → IsLawfulRoot tokens_world (record { label = label; kind = root_kind; pred = number; object = both_objects })
  root_lawful label root_kind number name pred_kind numbers test at = record {
    label = plain_name label test;
    pred = predicate_called name pred_kind numbers;
    is_pred = at;
    given = one (λ (variable : VarDecl). IsGiven variable.base) _ (Range (pos 0) (pos 1000000), refl);
    object = both_domain;
    inside = record { values = λ v c. let found = of_class v c in (found.0, found.1); range = λ is. absurd is };
    objects = of_class;
  }

  has_quantity : (pred_kind : PredKind) (name : List ℕ) (numbers : List ℕ) → HasQuantity pred_kind (predicate_called name pred_kind numbers).params
  has_quantity pred.Plain name numbers = tt
  has_quantity pred.Uses name numbers = refl
  has_quantity pred.Produce name numbers = refl
  has_quantity pred.Consume name numbers = refl

  pred_lawful : (number : ℕ) (name : List ℕ) (pred_kind : PredKind) (numbers : List ℕ) (listed : List Rule) → is_plain name ≡ true → AllZip (λ place rule. slice_get rules place ≡ Some rule) numbers listed → AreFew listed
      → All (IsLawfulRule tokens_world number) listed → IsLawfulPred tokens_world number (predicate_called name pred_kind numbers)
  pred_lawful number name pred_kind numbers listed test are few lawful = record {
    name = plain_name name test;
    class = the_class;
    is_class = refl;
    no_field = λ c. contains_none name c;
    params = one (IsLawfulVariable tokens_world) _ (int_variable tokens_world (codes "quantity") 1000000 (omega arith));
    few_params = omega arith;
    names = one IsParameterName (codes "quantity") (plain_name (codes "quantity") refl, not_contained token_part_words (codes "quantity") refl);
    distinct = differing (codes "quantity" ∷ []) refl;
    quantity = has_quantity pred_kind name numbers;
    rules = listed;
    are_rules = are;
    few = few;
    lawful = lawful;
  }

  tokens_lawful_by : IsLawfulKind object_kind → length items ≤ 10 → length preds ≤ 10 → length rules ≤ 10 → length roots ≤ 4096 → count_by (λ root. is_fact root.kind) roots ≤ 512
      → ((number : ℕ) (found : Pred) → slice_get preds number ≡ Some found → IsLawfulPred tokens_world number found)
      → AllPairs (λ (one other : Pred). one.class ≡ other.class → one.name ≢ other.name) preds → All (IsLawfulRoot tokens_world) roots → All (IsLawfulItem tokens_world OfProblem) items
      → All (λ name. Contains builtin_names name → ⊥) (declared_names tokens_world) → AllPairs ◌≢◌ (file_names tokens_world) → IsLawful tokens_world
  tokens_lawful_by lawful_kind few_items few_preds few_rules few_roots few_facts are_preds pred_names are_roots are_items builtin differ = record {
    horizon = ten tokens_world.problem refl refl refl;
    few_enums = small 0 (omega arith);
    few_classes = small 1 (omega arith);
    few_preds = small (length preds) few_preds;
    few_rules = small (length rules) few_rules;
    few_objects = omega arith;
    few_roots = few_roots;
    few_facts = few_facts;
    few_globals = omega arith;
    few_items = small (length items) few_items;
    enums = none IsLawfulEnum;
    classes = class_lawful tokens_world [] (none (IsLawfulVariable tokens_world)) (none IsName) no_field_names;
    objects = two (IsLawfulObject tokens_world) _ _ (called_lawful (codes "o") refl lawful_kind) (called_lawful (codes "p") refl lawful_kind);
    preds = are_preds;
    pred_names = pred_names;
    roots = are_roots;
    globals = none (IsLawfulVariable tokens_world);
    items = are_items;
    decisions = none (λ placed. IsLawfulDecision tokens_world placed.decision);
    names = λ number variable is. absurd (cc);
    not_builtin = builtin;
    distinct = differ;
  }

  tokens_lawful : IsLawfulKind object_kind → length items ≤ 10 → length preds ≤ 10 → length rules ≤ 10 → length roots ≤ 10 → count_by (λ root. is_fact root.kind) roots ≤ 512
      → ((number : ℕ) (found : Pred) → slice_get preds number ≡ Some found → IsLawfulPred tokens_world number found)
      → AllPairs (λ (one other : Pred). one.class ≡ other.class → one.name ≢ other.name) preds → All (IsLawfulRoot tokens_world) roots → All (IsLawfulItem tokens_world OfProblem) items
      → none_among (declared_names tokens_world) ≡ true → all_differ (file_names tokens_world) ≡ true → IsLawful tokens_world
  tokens_lawful lawful_kind few_items few_preds few_rules few_roots few_facts are_preds pred_names are_roots are_items builtin differ =
      tokens_lawful_by lawful_kind few_items few_preds few_rules (omega (arith, few_roots)) few_facts are_preds pred_names are_roots are_items
      (no_builtin (declared_names tokens_world) builtin) (differing (file_names tokens_world) differ)

-- what is known of the rules of a scene
record RulesAre (items : List Item) (object_kind : ObjectKind) (pred_kind : PredKind) (numbers : List ℕ) (rules : List Rule) (kinds : List RootKind) : Type 0 where
  listed : List Rule
  are : AllZip (λ place rule. slice_get rules place ≡ Some rule) numbers listed
  few : AreFew listed
  lawful : All (IsLawfulRule (scene_with items object_kind pred_kind numbers rules kinds) 0) listed
  few_rules : length rules ≤ 10

few_none : AreFew []
few_none = record { rules = omega arith; slots = (let p : 0 ≤ 128 = omega arith in p); locals = (let p : 0 ≤ 128 = omega arith in p); items = (let p : 0 ≤ 1024 = omega arith in p); guards = (let p : 0 ≤ 1024 = omega arith in p) }

no_rules : (items : List Item) (object_kind : ObjectKind) (pred_kind : PredKind) (kinds : List RootKind) → RulesAre items object_kind pred_kind [] [] kinds
no_rules items object_kind pred_kind kinds = record {
  listed = [];
  are = tt;
  few = few_none;
  lawful = none (IsLawfulRule (scene_with items object_kind pred_kind [] [] kinds) 0);
  few_rules = omega arith;
}

facts_one : (k : RootKind) → count_by (λ (root : Root). is_fact root.kind) (roots_from 0 (k ∷ [])) ≤ 512
facts_one Goal = let few : 0 ≤ 512 = omega arith in few
facts_one Rejectable = let few : 0 ≤ 512 = omega arith in few
facts_one Fact = let few : 1 ≤ 512 = omega arith in few

facts_two : (k l : RootKind) → count_by (λ (root : Root). is_fact root.kind) (roots_from 0 (k ∷ l ∷ [])) ≤ 512
facts_two Goal Goal = let few : 0 ≤ 512 = omega arith in few
facts_two Goal Rejectable = let few : 0 ≤ 512 = omega arith in few
facts_two Goal Fact = let few : 1 ≤ 512 = omega arith in few
facts_two Rejectable Goal = let few : 0 ≤ 512 = omega arith in few
facts_two Rejectable Rejectable = let few : 0 ≤ 512 = omega arith in few
facts_two Rejectable Fact = let few : 1 ≤ 512 = omega arith in few
facts_two Fact Goal = let few : 1 ≤ 512 = omega arith in few
facts_two Fact Rejectable = let few : 1 ≤ 512 = omega arith in few
facts_two Fact Fact = let few : 2 ≤ 512 = omega arith in few

module _ (items : List Item) (object_kind : ObjectKind) (pred_kind : PredKind) (numbers : List ℕ) (rules : List Rule) where
  one_pred : (kinds : List RootKind) → RulesAre items object_kind pred_kind numbers rules kinds → (number : ℕ) (found : Pred) → slice_get (predicate_of pred_kind numbers ∷ []) number ≡ Some found
      → IsLawfulPred (scene_with items object_kind pred_kind numbers rules kinds) number found
  one_pred kinds known zero found at =
      subst (IsLawfulPred (scene_with items object_kind pred_kind numbers rules kinds) 0) (same_some (predicate_of pred_kind numbers) found at)
      (pred_lawful items object_kind (predicate_of pred_kind numbers ∷ []) rules (roots_from 0 kinds) 0 (codes "P") pred_kind numbers known.listed refl known.are known.few known.lawful)
  one_pred kinds known (suc number) found at = absurd (cc)

  one_root_lawful : (root_kind : RootKind) → IsLawfulKind object_kind → length items ≤ 10 → RulesAre items object_kind pred_kind numbers rules (root_kind ∷ [])
      → All (IsLawfulItem (scene_with items object_kind pred_kind numbers rules (root_kind ∷ [])) OfProblem) items → IsLawful (scene_with items object_kind pred_kind numbers rules (root_kind ∷ []))
  one_root_lawful root_kind lawful_kind few known are_items =
      tokens_lawful items object_kind (predicate_of pred_kind numbers ∷ []) rules (roots_from 0 (root_kind ∷ [])) lawful_kind few (omega arith) known.few_rules (omega arith) (facts_one root_kind)
      (one_pred (root_kind ∷ []) known) (ordered_one (λ (one other : Pred). one.class ≡ other.class → one.name ≢ other.name) (predicate_of pred_kind numbers))
      (one (IsLawfulRoot (scene_with items object_kind pred_kind numbers rules (root_kind ∷ []))) (root_of 0 root_kind)
      (root_lawful items object_kind (predicate_of pred_kind numbers ∷ []) rules (roots_from 0 (root_kind ∷ [])) (label_of 0) root_kind 0 (codes "P") pred_kind numbers refl refl))
      are_items refl refl

  two_roots_lawful : (root_kind other_kind : RootKind) → IsLawfulKind object_kind → length items ≤ 10 → RulesAre items object_kind pred_kind numbers rules (root_kind ∷ other_kind ∷ [])
      → All (IsLawfulItem (scene_with items object_kind pred_kind numbers rules (root_kind ∷ other_kind ∷ [])) OfProblem) items → IsLawful (scene_with items object_kind pred_kind numbers rules (root_kind ∷ other_kind ∷ []))
  two_roots_lawful root_kind other_kind lawful_kind few known are_items =
      tokens_lawful items object_kind (predicate_of pred_kind numbers ∷ []) rules (roots_from 0 (root_kind ∷ other_kind ∷ [])) lawful_kind few (omega arith) known.few_rules (omega arith) (facts_two root_kind other_kind)
      (one_pred (root_kind ∷ other_kind ∷ []) known) (ordered_one (λ (one other : Pred). one.class ≡ other.class → one.name ≢ other.name) (predicate_of pred_kind numbers))
      (two (IsLawfulRoot (scene_with items object_kind pred_kind numbers rules (root_kind ∷ other_kind ∷ []))) (root_of 0 root_kind) (root_of 1 other_kind)
      (root_lawful items object_kind (predicate_of pred_kind numbers ∷ []) rules (roots_from 0 (root_kind ∷ other_kind ∷ [])) (label_of 0) root_kind 0 (codes "P") pred_kind numbers refl refl)
      (root_lawful items object_kind (predicate_of pred_kind numbers ∷ []) rules (roots_from 0 (root_kind ∷ other_kind ∷ [])) (label_of 1) other_kind 0 (codes "P") pred_kind numbers refl refl))
      are_items refl refl

-- without rules and constraints
plain_one : (object_kind : ObjectKind) (pred_kind : PredKind) (root_kind : RootKind) → IsLawfulKind object_kind → IsLawful (scene_with [] object_kind pred_kind [] [] (root_kind ∷ []))
plain_one object_kind pred_kind root_kind lawful_kind =
    one_root_lawful [] object_kind pred_kind [] [] root_kind lawful_kind (omega arith) (no_rules [] object_kind pred_kind (root_kind ∷ [])) (none (IsLawfulItem (scene_with [] object_kind pred_kind [] [] (root_kind ∷ [])) OfProblem))

plain_two : (object_kind : ObjectKind) (pred_kind : PredKind) (root_kind other_kind : RootKind) → IsLawfulKind object_kind → IsLawful (scene_with [] object_kind pred_kind [] [] (root_kind ∷ other_kind ∷ []))
plain_two object_kind pred_kind root_kind other_kind lawful_kind =
    two_roots_lawful [] object_kind pred_kind [] [] root_kind other_kind lawful_kind (omega arith) (no_rules [] object_kind pred_kind (root_kind ∷ other_kind ∷ []))
    (none (IsLawfulItem (scene_with [] object_kind pred_kind [] [] (root_kind ∷ other_kind ∷ [])) OfProblem))

pub lone_goal_lawful : IsLawful lone_goal
lone_goal_lawful = plain_one kind.Plain pred.Plain Goal tt

pub fact_lawful : IsLawful (alone Fact)
fact_lawful = plain_one kind.Plain pred.Plain Fact tt

pub rejectable_lawful : IsLawful (alone Rejectable)
rejectable_lawful = plain_one kind.Plain pred.Plain Rejectable tt

pub plain_facts_lawful : IsLawful (two_facts kind.Plain)
plain_facts_lawful = plain_two kind.Plain pred.Plain Fact Fact tt

pub timeline_facts_lawful : IsLawful (two_facts kind.Timeline)
timeline_facts_lawful = plain_two kind.Timeline pred.Plain Fact Fact tt

pub goal_and_fact_lawful : IsLawful goal_and_fact
goal_and_fact_lawful = plain_two kind.Plain pred.Plain Goal Fact tt

pub two_goals_lawful : IsLawful two_goals
two_goals_lawful = plain_two kind.Plain pred.Plain Goal Goal tt

pub small_tool_lawful : IsLawful (tool 1)
small_tool_lawful = plain_one (kind.Reusable (pos 1)) pred.Uses Fact ((omega (arith, ints), omega (arith, ints)), omega (arith, ints))

pub tool_lawful : IsLawful (tool 2)
tool_lawful = plain_one (kind.Reusable (pos 2)) pred.Uses Fact ((omega (arith, ints), omega (arith, ints)), omega (arith, ints))

pub battery_lawful : IsLawful battery
battery_lawful =
    plain_two (kind.Reservoir (pos 5) (pos 0) (pos 10)) pred.Consume Fact Rejectable
    ((omega (arith, ints), omega (arith, ints)), (omega (arith, ints), omega (arith, ints)), omega (arith, ints), omega (arith, ints))

limited_is_lawful : (root_kind : RootKind) → IsLawful (limited root_kind)
limited_is_lawful root_kind =
    one_root_lawful (at_most_one ∷ []) kind.Plain pred.Plain [] [] root_kind tt (omega arith) (no_rules (at_most_one ∷ []) kind.Plain pred.Plain (root_kind ∷ []))
    (one (IsLawfulItem (limited root_kind) OfProblem) at_most_one (
      refl,
      (
        kinds.Int,
        tt,
        two (IsOfKind (limited root_kind) OfProblem kinds.Int) (term.Root 0 (Param 0)) (term.Lit (pos 1))
            (root_of 0 root_kind, refl, (_, record { predicate = predicate_of pred.Plain []; is_predicate = refl; declared = refl }, refl)) (omega (arith, ints), omega (arith, ints)),
      ),
    ))

pub limited_lawful : IsLawful (limited Rejectable)
limited_lawful = limited_is_lawful Rejectable

pub limited_fact_lawful : IsLawful (limited Fact)
limited_fact_lawful = limited_is_lawful Fact

-- ---- two predicates

mixed_pred : (number : ℕ) (found : Pred) → slice_get mixed.preds number ≡ Some found → IsLawfulPred mixed number found
mixed_pred zero found at =
    subst (IsLawfulPred mixed 0) (same_some _ found at)
    (pred_lawful [] kind.Plain mixed.preds [] mixed.problem.roots 0 (codes "P") pred.Plain [] [] refl tt few_none (none (IsLawfulRule mixed 0)))
mixed_pred (suc zero) found at =
    subst (IsLawfulPred mixed 1) (same_some _ found at)
    (pred_lawful [] kind.Plain mixed.preds [] mixed.problem.roots 1 (codes "Q") pred.Plain [] [] refl tt few_none (none (IsLawfulRule mixed 1)))
mixed_pred (suc (suc number)) found at = absurd (cc)

two_pairs : {X : Type 0} (R : X → X → Type 0) (x y : X) → R x y → AllPairs R (x ∷ y ∷ [])
two_pairs R x y p zero zero d less within = absurd (omega (arith, less))
two_pairs R x y p zero (suc zero) d less within = p
two_pairs R x y p (suc i) zero d less within = absurd (omega (arith, less))
two_pairs R x y p (suc i) (suc zero) d less within = absurd (omega (arith, less))
two_pairs R x y p i (suc (suc j)) d less within = absurd (omega (arith, within))

pub mixed_lawful : IsLawful mixed
mixed_lawful =
    tokens_lawful [] kind.Plain mixed.preds [] mixed.problem.roots tt (omega arith) (omega arith) (omega arith) (omega arith) (let few : 1 ≤ 512 = omega arith in few) mixed_pred
    (two_pairs (λ (one other : Pred). one.class ≡ other.class → one.name ≢ other.name) _ _ (λ classes same. differing (codes "P" ∷ codes "Q" ∷ []) refl 0 1 [] (omega arith) (omega arith) same))
    (two (IsLawfulRoot mixed) _ _ (root_lawful [] kind.Plain mixed.preds [] mixed.problem.roots (label_of 0) Goal 0 (codes "P") pred.Plain [] refl refl)
    (root_lawful [] kind.Plain mixed.preds [] mixed.problem.roots (label_of 1) Fact 1 (codes "Q") pred.Plain [] refl refl))
    (none (IsLawfulItem mixed OfProblem)) refl refl

-- ---- rules

no_turns : (Allows : Guard → Side → Type 0) (path : List Turn) (entries : Entries) → Follows Allows NoEntry path entries → path ≡ []
no_turns Allows [] entries way = refl
no_turns Allows (turn ∷ path) entries way = let at = way.1.2.0 in absurd (cc)

guarded_short : (path : List Turn) (entries : Entries) → LeadsToBlock guarded.top path entries → length path < 16
guarded_short [] entries way = omega arith
guarded_short (turn ∷ path) entries way =
    let short = behind turn.entry turn.side way.0 way.1.0 way.1.1 way.1.2.0 way.1.2.1.1 in
    let e = ap length short in
    omega (arith, e)
  where
    behind : (place : ℕ) (side : Side) (guard : Guard) (then otherwise : Entries) → slice_get (direct guarded.top) place ≡ Some (OfBranch guard then otherwise) → LeadsToBlock (chosen side then otherwise) path entries → path ≡ []
    behind (suc place) side guard then otherwise at way = absurd (cc)
    behind zero Then guard then otherwise at way = let is : then ≡ NoEntry = cc in no_turns (λ guard side. ⊤) path entries (subst (λ e. LeadsToBlock e path entries) is way)
    behind zero Otherwise guard then otherwise at way = let is : otherwise ≡ NoEntry = cc in no_turns (λ guard side. ⊤) path entries (subst (λ e. LeadsToBlock e path entries) is way)

guarded_entry : (path : List Turn) (place : ℕ) (what : Direct) → StandsAt guarded.top path place what → (place < 2 ^ 16) × IsLawfulEntry ruled 0 guarded path what
guarded_entry path place what p = at (guarded_follows (λ guard side. ⊤) path p.block p.way)
  where
    in_top : (place : ℕ) → slice_get (direct guarded.top) place ≡ Some what → (place < 2 ^ 16) × IsLawfulEntry ruled 0 guarded path what
    in_top (suc place) stands = absurd (cc)
    in_top zero stands = (
      (let e : 2 ^ 16 ≡ 65536 = refl in omega (arith, e)),
      subst (IsLawfulEntry ruled 0 guarded path) (same_some _ what stands) (
        (
          kinds.Int,
          two (IsOfKind ruled (OfRule 0 guarded) kinds.Int) (term.Here (Param 0)) (term.Lit (pos 1))
              (_, record { predicate = predicate_of pred.Plain (0 ∷ []); is_predicate = refl; declared = refl }, refl) (omega (arith, ints), omega (arith, ints)),
        ),
        two (IsTermSeen guarded.top path) (term.Here (Param 0)) (term.Lit (pos 1)) tt tt,
      ),
    )

    in_none : slice_get (direct NoEntry) place ≡ Some what → ⊥
    in_none stands = cc

    at : (p.block ≡ guarded.top) ⊎ (p.block ≡ NoEntry) → (place < 2 ^ 16) × IsLawfulEntry ruled 0 guarded path what
    at (inl top) = in_top place (subst (λ e. slice_get (direct e) place ≡ Some what) top p.stands)
    at (inr none) = absurd (in_none (subst (λ e. slice_get (direct e) place ≡ Some what) none p.stands))

pub ruled_lawful : IsLawful ruled
ruled_lawful =
    one_root_lawful [] kind.Plain pred.Plain (0 ∷ []) (guarded ∷ []) Goal tt (omega arith) (record {
      listed = guarded ∷ [];
      are = (refl, tt);
      few = record { rules = omega arith; slots = (let p : 0 ≤ 128 = omega arith in p); locals = (let p : 0 ≤ 128 = omega arith in p); items = (let p : 0 ≤ 1024 = omega arith in p); guards = (let p : 1 ≤ 1024 = omega arith in p) };
      lawful = one (IsLawfulRule ruled 0) guarded (record {
        entries = guarded_entry;
        nested = guarded_short;
        slots = none (IsLawfulSlot ruled);
        slots_stand = λ number less. absurd (omega (arith, less));
        locals = none (IsLawfulVariable ruled);
        unnamed = none (λ (variable : VarDecl). variable.name ≡ []);
        locals_stand = λ number less. absurd (omega (arith, less));
      });
      few_rules = omega arith;
    }) (none (IsLawfulItem ruled OfProblem))

-- a rule with a local
abbrev localised_by : RootKind → Model
localised_by root_kind = scene_with [] kind.Plain pred.Plain (0 ∷ []) (with_local ∷ []) (root_kind ∷ [])

local_entry : (root_kind : RootKind) (path : List Turn) (place : ℕ) (what : Direct) → StandsAt with_local.top path place what → ((place < 2 ^ 16) × IsLawfulEntry (localised_by root_kind) 0 with_local path what) × ((path ≡ []) × (place ≡ 0))
local_entry root_kind path place what p = at place (subst (λ e. slice_get (direct e) place ≡ Some what) (way_is (λ guard side. ⊤) path p.block p.way).1 p.stands)
  where
    at : (place : ℕ) → slice_get (OfLocal 0 ∷ []) place ≡ Some what → ((place < 2 ^ 16) × IsLawfulEntry (localised_by root_kind) 0 with_local path what) × ((path ≡ []) × (place ≡ 0))
    at (suc place) stands = absurd (cc)
    at zero stands = (
      ((let e : 2 ^ 16 ≡ 65536 = refl in omega (arith, e)), subst (IsLawfulEntry (localised_by root_kind) 0 with_local path) (same_some (OfLocal 0) what stands) (_, refl)),
      ((way_is (λ guard side. ⊤) path p.block p.way).0, refl),
    )

local_stands : (number : ℕ) → number < 1 → StandsOnce with_local.top (OfLocal number)
local_stands zero less = record {
  path = [];
  place = 0;
  stands = record { block = with_local.top; way = refl; stands = refl };
  only = λ other number p. (local_entry Goal other number (OfLocal 0) p).1;
}
local_stands (suc number) less = absurd (omega (arith, less))

localised_is_lawful : (root_kind : RootKind) → IsLawful (localised_by root_kind)
localised_is_lawful root_kind =
    one_root_lawful [] kind.Plain pred.Plain (0 ∷ []) (with_local ∷ []) root_kind tt (omega arith) (record {
      listed = with_local ∷ [];
      are = (refl, tt);
      few = record { rules = omega arith; slots = (let p : 0 ≤ 128 = omega arith in p); locals = (let p : 1 ≤ 128 = omega arith in p); items = (let p : 0 ≤ 1024 = omega arith in p); guards = (let p : 0 ≤ 1024 = omega arith in p) };
      lawful = one (IsLawfulRule (localised_by root_kind) 0) with_local (record {
        entries = λ path place what p. (local_entry root_kind path place what p).0;
        nested = λ path block way. let e = ap length (way_is (λ guard side. ⊤) path block way).0 in omega (arith, e);
        slots = none (IsLawfulSlot (localised_by root_kind));
        slots_stand = λ number less. absurd (omega (arith, less));
        locals = one (IsLawfulVariable (localised_by root_kind)) _ (int_variable (localised_by root_kind) [] 2 (omega arith));
        unnamed = one (λ (variable : VarDecl). variable.name ≡ []) _ refl;
        locals_stand = local_stands;
      });
      few_rules = omega arith;
    }) (none (IsLawfulItem (localised_by root_kind) OfProblem))

pub localised_lawful : IsLawful localised
localised_lawful = localised_is_lawful Goal

pub localised_rejectable_lawful : IsLawful localised_rejectable
localised_rejectable_lawful = localised_is_lawful Rejectable

-- ---- many roots

label_word : (number : ℕ) → are_word_bytes (label_of number) ≡ true
label_word zero = refl
label_word (suc number) = label_word number

label_plain : (number : ℕ) → is_plain (label_of number) ≡ true
label_plain zero = refl
label_plain (suc number) = ap (λ b. b && true) (label_word number)

label_free : (number : ℕ) → is_among builtin_names (label_of number) ≡ false
label_free zero = refl
label_free (suc number) = refl

label_length : (number : ℕ) → length (label_of number) ≡ suc number
label_length zero = refl
label_length (suc number) = ap suc (label_length number)

label_first : (number : ℕ) → get_or (label_of number) 0 0 ≡ 103
label_first zero = refl
label_first (suc number) = refl

labels_apart : (one other : ℕ) → one < other → label_of one ≢ label_of other
labels_apart one other less same = omega (arith, less, ap length same, label_length one, label_length other)

-- the labels of so many facts and a goal, and the other names
abbrev labels_from : ℕ → ℕ → List (List ℕ)
labels_from first number = map (λ (root : Root). root.label) (roots_from first (facts_and_goal number))

abbrev others : List (List ℕ)
others = codes "o" ∷ codes "p" ∷ []

free_from : (first number : ℕ) → All (λ name. Contains builtin_names name → ⊥) (labels_from first number ++ others)
free_from first zero = with_first (λ name. Contains builtin_names name → ⊥) (label_of first) others (not_contained builtin_names (label_of first) (label_free first)) (no_builtin others refl)
free_from first (suc number) =
    with_first (λ name. Contains builtin_names name → ⊥) (label_of first) (labels_from (first + 1) number ++ others) (not_contained builtin_names (label_of first) (label_free first)) (free_from (first + 1) number)

abbrev named_from : ℕ → ℕ → List (List ℕ)
named_from first number = (labels_from first number ++ others) ++ codes "C" ∷ []

abbrev all_others : List (List ℕ)
all_others = codes "o" ∷ codes "p" ∷ codes "C" ∷ []

not_others : (label : ℕ) → All (λ name. label_of label ≢ name) all_others
not_others label =
    with_first (λ name. label_of label ≢ name) (codes "o") (codes "p" ∷ codes "C" ∷ []) (λ same. omega (arith, label_first label, ap (λ (n : List ℕ). get_or n 0 0) same))
    (two (λ name. label_of label ≢ name) (codes "p") (codes "C") (λ same. omega (arith, label_first label, ap (λ (n : List ℕ). get_or n 0 0) same)) (λ same. omega (arith, label_first label, ap (λ (n : List ℕ). get_or n 0 0) same)))

apart_from : (label first number : ℕ) → label < first → All (λ name. label_of label ≢ name) (named_from first number)
apart_from label first zero less = with_first (λ name. label_of label ≢ name) (label_of first) all_others (labels_apart label first less) (not_others label)
apart_from label first (suc number) less =
    with_first (λ name. label_of label ≢ name) (label_of first) (named_from (first + 1) number) (labels_apart label first less) (apart_from label (first + 1) number (omega (arith, less)))

paired : {X : Type 0} (R : X → X → Type 0) (x : X) (xs : List X) → All (R x) xs → AllPairs R xs → AllPairs R (x ∷ xs)
paired R x xs all rest zero zero d less within = absurd (omega (arith, less))
paired R x xs all rest zero (suc j) d less within = all j d (omega (arith, within))
paired R x xs all rest (suc i) zero d less within = absurd (omega (arith, less))
paired R x xs all rest (suc i) (suc j) d less within = rest i j d (omega (arith, less)) (omega (arith, within))

named_differ : (first number : ℕ) → AllPairs ◌≢◌ (named_from first number)
named_differ first zero = paired ◌≢◌ (label_of first) all_others (not_others first) (differing all_others refl)
named_differ first (suc number) = paired ◌≢◌ (label_of first) (named_from (first + 1) number) (apart_from first (first + 1) number (omega arith)) (named_differ (first + 1) number)

roots_length : (first number : ℕ) → length (roots_from first (facts_and_goal number)) ≡ suc number
roots_length first zero = refl
roots_length first (suc number) = ap suc (roots_length (first + 1) number)

facts_counted : (before first number : ℕ) → fold (λ (a : ℕ) (root : Root). a + cond (is_fact root.kind) 1 0) before (roots_from first (facts_and_goal number)) ≡ before + number
facts_counted before first zero = omega arith
facts_counted before first (suc number) = facts_counted (before + 1) (first + 1) number ∙ (let e : before + 1 + number ≡ before + suc number = omega arith in e)

module _ (roots : List Root) where
  abbrev facts_world : Model
  facts_world = tokens_world [] kind.Plain (predicate_of pred.Plain [] ∷ []) [] roots

  roots_lawful : (first number : ℕ) → All (IsLawfulRoot facts_world) (roots_from first (facts_and_goal number))
  roots_lawful first zero =
      one (IsLawfulRoot facts_world) (root_of first Goal) (root_lawful [] kind.Plain (predicate_of pred.Plain [] ∷ []) [] roots (label_of first) Goal 0 (codes "P") pred.Plain [] (label_plain first) refl)
  roots_lawful first (suc number) =
      with_first (IsLawfulRoot facts_world) (root_of first Fact) (roots_from (first + 1) (facts_and_goal number))
      (root_lawful [] kind.Plain (predicate_of pred.Plain [] ∷ []) [] roots (label_of first) Fact 0 (codes "P") pred.Plain [] (label_plain first) refl) (roots_lawful (first + 1) number)

few_are_lawful : (number : ℕ) → number ≤ 512 → IsLawful (many_roots number)
few_are_lawful number few =
    tokens_lawful_by [] kind.Plain (predicate_of pred.Plain [] ∷ []) [] (roots_from 0 (facts_and_goal number)) tt (omega arith) (omega arith) (omega arith)
    (omega (arith, few, roots_length 0 number)) (omega (arith, few, facts_counted 0 0 number))
    (one_pred [] kind.Plain pred.Plain [] [] (facts_and_goal number) (no_rules [] kind.Plain pred.Plain (facts_and_goal number)))
    (ordered_one (λ (one other : Pred). one.class ≡ other.class → one.name ≢ other.name) (predicate_of pred.Plain []))
    (roots_lawful (roots_from 0 (facts_and_goal number)) 0 number) (none (IsLawfulItem (many_roots number) OfProblem)) (free_from 0 number) (named_differ 0 number)

pub many_lawful : IsLawful (many_roots 512)
many_lawful = few_are_lawful 512 (omega arith)
