-- The fields of all that is there, and its names, are objects that are there.
use Rattle.std.proofs.Common.{◌≡◌, ℕ, zero, suc, ◌+◌, ◌≤◌, Bool, true, false, List, [], ◌∷◌, ◌++◌, length, map, refl, sym, ap, subst, arith}
use Rattle.std.specs.Prelude.{Option, Some, None, slice_get, slice_set, option_and_then, if◌then◌else◌}
use Rattle.std.specs.List.{cons_option}
use Rattle.std.specs.Option.{option_map_or}
use Rattle.std.specs.Str.{bytes_eq}
use Rattle.std.proofs.lemmas.List.{length-append}
use Rattle.model_core.specs.Naming.{full_name}
use Rattle.nddl_ast.specs.declared.expression.Init.TheVariants as inits
use Rattle.nddl_symbols.specs.declared.declared.Declared.{Declared}
use Rattle.nddl_symbols.specs.declared.scope.Meaning.{Meaning}
use Rattle.nddl_symbols.specs.Scope.{named_number}
use Rattle.nddl_hierarchy.specs.Facts.{Facts}
use Rattle.nddl_constructors.specs.Bodies.{field_in_line, field_kind}
use Rattle.nddl_constructors.specs.Wants.{class_wants}
use Rattle.nddl_construction.specs.declared.made.Datum.{Datum}
use Rattle.nddl_construction.specs.declared.made.Datum.TheVariants as datums
use Rattle.nddl_construction.specs.declared.made.MadeObject.{MadeObject}
use Rattle.nddl_construction.specs.declared.made.NamedObject.{NamedObject}
use Rattle.nddl_construction.specs.declared.made.NamedObject.TheVariants as named
use Rattle.nddl_construction.specs.Fields.{field_datum}
use Rattle.nddl_construction.specs.Reading.{fine_datum, named_datum}
use Rattle.nddl_objects.specs.Objects.{most_levels, with_named}
use Rattle.nddl_object_laws.specs.Carried.{Assignment, Passes, Sets, Carried, Carries, New, Numbered, There, all_assignments, assignment_carried, carried_by, grounds_there, has_place, made_count, makes_one, new_class, new_passed, new_values, numbered, numbered_carried, object_steps}
use Rattle.nddl_object_laws.specs.Made.{Doing, MakesObject, HasSettings, DoesNeither, assigned_value, assigned_values, carried_objects, declared_new, made_datum, nothing_there, new_object_with, there_behind}
use Rattle.nddl_object_laws.proofs.Counting.{carried_more, carried_none, count_append, counted, made_first, objects_append}
use Rattle.nddl_object_laws.proofs.Reading.{AreBelow, EachObjectBelow, IsBelow, IsClosed, below_more, data_below, down_below, fine_below, objects_append as below_append, objects_more}
use Rattle.nddl_object_laws.proofs.Steps.{EachAssignmentBelow, IsAssignmentBelow, assignments_below}

if_below : (count : ℕ) (test : Bool) (one other : Option Datum) → IsBelow count one → IsBelow count other
    → IsBelow count (if test then one else other)
if_below count true one other first second = first
if_below count false one other first second = second

module _ (facts : Facts) (there : There) (closed : IsClosed there) where
  abbrev before : ℕ
  before = length there.objects

  -- what is made where these `new`s are carried out has fields below the number of objects by then
  abbrev MakesBelow : ℕ → List MadeObject → Type 0
  MakesBelow number objects = EachObjectBelow (number + length objects) objects

  -- what a `new` stands for is there once it is carried out
  datum_below : (levels number count : ℕ) (new : New)
      → number + made_count facts (carried_by levels facts there number new) ≤ count → IsBelow count (made_datum facts levels number new.creation)
  datum_below levels number count new least = by (makes_one facts levels number new.creation) refl
    where
      by : (made : Bool) → makes_one facts levels number new.creation ≡ made → IsBelow count (if made then Some (datums.Object number) else None)
      by true is = let some = made_first facts there levels number new is in omega (arith, some, least)
      by false is = tt

  module _ (levels : ℕ) (name : List ℕ) (inner : (number : ℕ) (new : New) → before ≤ number → AreBelow before new.scene.values
      → MakesBelow number (carried_objects facts (carried_by levels facts there number new))) where
    abbrev carries : Carries
    carries = carried_by levels facts there

    value_below : (number count : ℕ) (assignment : Assignment) → before ≤ number → IsAssignmentBelow before assignment
        → number + made_count facts (assignment_carried carries name number assignment) ≤ count
        → IsBelow count (assigned_value facts there levels number assignment).value
    value_below number count (Passes field datum) least is most =
        let low : before ≤ count = omega (arith, least, most) in below_more before count datum low is
    value_below number count (Sets entry scene field (inits.Expr expr)) least is most =
        let low : before ≤ count = omega (arith, least, most) in
        below_more before count (fine_datum (grounds_there facts there) scene there.objects (field_kind (field_in_line facts entry field)) expr) low
        (fine_below facts there closed scene (field_kind (field_in_line facts entry field)) expr is)
    value_below number count (Sets entry scene field (inits.New creation)) least is most =
        datum_below levels number count (record { scene = scene; name = full_name name field; entry = None; creation = creation }) most

    step_below : (number count : ℕ) (assignment : Assignment) → before ≤ number → IsAssignmentBelow before assignment
        → number + made_count facts (assignment_carried carries name number assignment) ≤ count
        → EachObjectBelow count (carried_objects facts (assignment_carried carries name number assignment))
    step_below number count (Passes field datum) least is most = tt
    step_below number count (Sets entry scene field (inits.Expr expr)) least is most = tt
    step_below number count (Sets entry scene field (inits.New creation)) least is most =
        let one : New = record { scene = scene; name = full_name name field; entry = None; creation = creation } in
        let many = counted facts (carries number one) in
        let within : number + length (carried_objects facts (carries number one)) ≤ count = omega (arith, many, most) in
        objects_more (number + length (carried_objects facts (carries number one))) count (carried_objects facts (carries number one)) within
        (inner number one least is)

    values_below : (some : List Assignment) (number count : ℕ) → before ≤ number → EachAssignmentBelow before some
        → number + made_count facts (numbered_carried carries name (numbered facts carries name number some)) ≤ count
        → (field : List ℕ) → IsBelow count (field_datum field (assigned_values facts there levels (numbered facts carries name number some)))
    values_below [] number count least are most field = tt
    values_below (assignment ∷ more) number count least are most field =
        let here : List Carried = assignment_carried carries name number assignment in
        let next : ℕ = number + made_count facts here in
        let rest : List Carried = numbered_carried carries name (numbered facts carries name next more) in
        let both = count_append facts here rest in
        let here_most : number + made_count facts here ≤ count = omega (arith, both, most) in
        let next_least : before ≤ next = omega (arith, least) in
        let rest_most : next + made_count facts rest ≤ count = omega (arith, both, most) in
        if_below count (bytes_eq field (assigned_value facts there levels number assignment).name)
        (assigned_value facts there levels number assignment).value
        (field_datum field (assigned_values facts there levels (numbered facts carries name next more)))
        (value_below number count assignment least are.0 here_most)
        (values_below more next count next_least are.1 rest_most field)

    steps_below : (some : List Assignment) (number count : ℕ) → before ≤ number → EachAssignmentBelow before some
        → number + made_count facts (numbered_carried carries name (numbered facts carries name number some)) ≤ count
        → EachObjectBelow count (carried_objects facts (numbered_carried carries name (numbered facts carries name number some)))
    steps_below [] number count least are most = tt
    steps_below (assignment ∷ more) number count least are most =
        let here : List Carried = assignment_carried carries name number assignment in
        let next : ℕ = number + made_count facts here in
        let rest : List Carried = numbered_carried carries name (numbered facts carries name next more) in
        let both = count_append facts here rest in
        let here_most : number + made_count facts here ≤ count = omega (arith, both, most) in
        let next_least : before ≤ next = omega (arith, least) in
        let rest_most : next + made_count facts rest ≤ count = omega (arith, both, most) in
        let B : List MadeObject → Type 0 = λ objects. EachObjectBelow count objects in
        subst B (sym (objects_append facts here rest))
        (below_append count (carried_objects facts here) (carried_objects facts rest) (step_below number count assignment least are.0 here_most)
        (steps_below more next count next_least are.1 rest_most))

  -- what a `new` makes
  module _ (levels : ℕ) (inner : (number : ℕ) (new : New) → before ≤ number → AreBelow before new.scene.values
      → MakesBelow number (carried_objects facts (carried_by levels facts there number new)))
      (number : ℕ) (new : New) (least : before ≤ number) (are : AreBelow before new.scene.values) where
    abbrev steps_of : Meaning → List Numbered
    steps_of class = object_steps facts there (carried_by levels facts there) number new class

    abbrev object_of : Meaning → MadeObject
    object_of class = new_object_with new class (assigned_values facts there levels (steps_of class))

    abbrev made_by_class : Option Meaning → Bool → List MadeObject
    made_by_class found room =
        cons_option (option_and_then (λ class. if room then Some (object_of class) else None) found)
        (carried_objects facts (numbered_carried (carried_by levels facts there) new.name
        (option_map_or (λ class. if room then steps_of class else []) found [])))

    class_below : (class : Meaning) → MakesBelow number (made_by_class (Some class) true)
    class_below class =
        let nested : List Carried = numbered_carried (carried_by levels facts there) new.name (steps_of class) in
        let count : ℕ = number + suc (length (carried_objects facts nested)) in
        let many = counted facts nested in
        let next : before ≤ number + 1 = omega (arith, least) in
        let most : number + 1 + made_count facts nested ≤ count = omega (arith, many) in
        let low : EachAssignmentBelow before (all_assignments facts (new_passed facts there new class)) =
        assignments_below facts before (new_passed facts there new class)
        (down_below facts there closed class (new_values facts there new class)
        (data_below facts there closed new.scene (class_wants facts class) 0 new.creation.arguments are)) in (
          values_below levels new.name inner (all_assignments facts (new_passed facts there new class)) (number + 1) count next low most,
          steps_below levels new.name inner (all_assignments facts (new_passed facts there new class)) (number + 1) count next low most,
        )

    any_below : (found : Option Meaning) (room : Bool) → MakesBelow number (made_by_class found room)
    any_below None room = tt
    any_below (Some class) true = class_below class
    any_below (Some class) false = tt

    deeper_below : MakesBelow number (carried_objects facts (carried_by (suc levels) facts there number new))
    deeper_below =
        let M : List MadeObject → Type 0 = λ objects. MakesBelow number objects in
        subst M (sym (ap (carried_objects facts) (carried_more levels facts there number new))) (any_below (new_class facts new) (has_place number))

  pub makes_below : (levels number : ℕ) (new : New) → before ≤ number → AreBelow before new.scene.values
      → MakesBelow number (carried_objects facts (carried_by levels facts there number new))
  makes_below zero number new least are =
      let M : List MadeObject → Type 0 = λ objects. MakesBelow number objects in
      subst M (sym (ap (carried_objects facts) (carried_none facts there number new))) tt
  makes_below (suc levels) number new least are =
      deeper_below levels (λ other one low values. makes_below levels other one low values) number new least are

  -- ---- names

  named_below : (count : ℕ) (names : List NamedObject) (entry : ℕ) (datum : Option Datum) → IsBelow count datum
      → ((number : ℕ) → IsBelow count (named_datum (slice_get names number)))
      → (number : ℕ) → IsBelow count (named_datum (slice_get (slice_set names entry (named.Made datum)) number))
  named_below count [] entry datum is are number = tt
  named_below count (first ∷ names) zero datum is are zero = is
  named_below count (first ∷ names) zero datum is are (suc number) = are (suc number)
  named_below count (first ∷ names) (suc entry) datum is are zero = are zero
  named_below count (first ∷ names) (suc entry) datum is are (suc number) =
      named_below count names entry datum is (λ other. are (suc other)) number

  with_named_below : (count : ℕ) (entry : Option ℕ) (datum : Option Datum) → before ≤ count → IsBelow count datum
      → (number : ℕ) → IsBelow count (named_datum (slice_get (with_named there.named_objects entry datum) number))
  with_named_below count None datum least is number =
      below_more before count (named_datum (slice_get there.named_objects number)) least (closed.named_objects number)
  with_named_below count (Some entry) datum least is number =
      named_below count there.named_objects entry datum is
      (λ other. below_more before count (named_datum (slice_get there.named_objects other)) least (closed.named_objects other)) number

  -- ---- declarations

  pub closed_behind : (decl : ℕ) (doing : Doing) → IsClosed (there_behind facts there decl doing)
  closed_behind decl (MakesObject variable creation) =
      let one : New = declared_new facts decl variable creation in
      let c : List Carried = carried_by most_levels facts there before one in
      let objects : List MadeObject = carried_objects facts c in
      let all = length-append there.objects objects in
      let many = counted facts c in
      let same : before ≤ before = omega arith in
      let old : before ≤ length (there.objects ++ objects) = omega (arith, all) in
      let newer : before + length objects ≤ length (there.objects ++ objects) = omega (arith, all) in
      let made : before + made_count facts c ≤ length (there.objects ++ objects) = omega (arith, all, many) in
      record {
        objects = below_append (length (there.objects ++ objects)) there.objects objects
            (objects_more before (length (there.objects ++ objects)) there.objects old closed.objects)
            (objects_more (before + length objects) (length (there.objects ++ objects)) objects newer
            (makes_below most_levels before one same (λ number. tt)));
        named_objects = with_named_below (length (there.objects ++ objects)) (named_number false facts.names variable.name.text)
            (made_datum facts most_levels before creation) old (datum_below most_levels before (length (there.objects ++ objects)) one made);
      }
  closed_behind decl (HasSettings creation) = record { objects = closed.objects; named_objects = closed.named_objects }
  closed_behind decl DoesNeither = closed

unmade_below : (names : List Declared) (entry : ℕ) → IsBelow 0 (named_datum (slice_get (map (λ name. named.Unmade) names) entry))
unmade_below [] entry = tt
unmade_below (first ∷ names) zero = tt
unmade_below (first ∷ names) (suc entry) = unmade_below names entry

pub closed_first : (facts : Facts) → IsClosed (nothing_there facts)
closed_first facts = record { objects = tt; named_objects = unmade_below facts.names }
