-- An object that is being made, and what comes of the fields that constructors set.
use Rattle.std.proofs.Common.{◌≡◌, ℕ, zero, suc, ◌+◌, ◌==◌, ◌<◌, ◌≤◌, Bool, true, false, List, [], ◌∷◌, ◌++◌, length, map, refl, sym, ◌∙◌, ap, subst, arith}
use Rattle.std.proofs.Common.{append_assoc, append-nil, lt-ltb, le-ltb}
use Rattle.std.specs.Prelude.{Option, Some, None, ⊤, ◌&&◌, nat_lt, is_some, option_map, slice_get, if◌then◌else◌}
use Rattle.std.specs.List.{flat_map}
use Rattle.std.specs.Option.{option_map_or}
use Rattle.std.proofs.lemmas.List.{length-append, map-append}
use Rattle.std.proofs.lemmas.List.Concat.{flat_map-append}
use Rattle.model_core.specs.Naming.{full_name}
use Rattle.nddl_ast.specs.declared.declaration.Member.{Member}
use Rattle.nddl_ast.specs.declared.declaration.Set.{Set}
use Rattle.nddl_ast.specs.declared.declaration.Set.TheVariants as sets
use Rattle.nddl_ast.specs.declared.expression.Creation.{Creation}
use Rattle.nddl_ast.specs.declared.expression.Expr.{Expr}
use Rattle.nddl_ast.specs.declared.expression.Init.TheVariants as inits
use Rattle.nddl_ast.specs.declared.kind.TextKind.TheVariants as faults
use Rattle.nddl_symbols.specs.declared.fault.Fault.{Fault}
use Rattle.nddl_symbols.specs.declared.place.Place.{Place}
use Rattle.nddl_symbols.specs.declared.scope.Meaning.{Meaning}
use Rattle.nddl_symbols.specs.declared.scope.Meaning.TheVariants as meanings
use Rattle.nddl_symbols.specs.Finding.{earliest_fault, faults_here}
use Rattle.nddl_symbols.specs.Scope.{fault_if}
use Rattle.nddl_symbols.proofs.Earliest.{earliest_append}
use Rattle.nddl_typeexpr.specs.declared.kind.TypeKind.{TypeKind}
use Rattle.nddl_hierarchy.specs.Facts.{Facts}
use Rattle.nddl_constructors.specs.Bodies.{field_in_line, field_kind}
use Rattle.nddl_construction.specs.declared.made.Datum.{Datum}
use Rattle.nddl_construction.specs.declared.made.Datum.TheVariants as datums
use Rattle.nddl_construction.specs.declared.made.FieldValue.{FieldValue}
use Rattle.nddl_construction.specs.declared.made.MadeObject.{MadeObject}
use Rattle.nddl_construction.specs.declared.passing.Passed.{Passed}
use Rattle.nddl_construction.specs.Classes.{constructor_at, constructor_sets, made_class}
use Rattle.nddl_construction.specs.Passing.{constructor_scene, passing_faults}
use Rattle.nddl_construction.specs.Reading.{fine_datum, unmade_faults}
use Rattle.nddl_construction.specs.Scene.{Grounds, Scenery}
use Rattle.nddl_objects.specs.Construction.{Construction, Subject, most_objects, noted, with_set}
use Rattle.nddl_objects.specs.Made.{body_run, builtin_run, class_run, classes_run, field_given, init_set, made_by, new_datum, new_made, parts_run}
use Rattle.nddl_object_laws.specs.Carried.{Assignment, Passes, Sets, Carried, Carries, New, Numbered, There, all_assignments, assignment_carried, body_assignments, builtin_assignments, carried_by, class_assignments, grounds_there, has_levels, has_place, made_count, makes_one, new_place, numbered, numbered_carried, part_assignments}
use Rattle.nddl_object_laws.specs.Made.{assigned_value, assigned_values, carried_objects, made_datum, new_object_with}
use Rattle.nddl_object_laws.specs.Wrong.{assignment_faults, carried_faults, passed_faults, all_passed_faults, outside_field_faults, steps_faults}
use Rattle.nddl_object_laws.proofs.Counting.{Agree, agree_before, agree_fields, counted, field_at, keep_more, made_first, numbered_append, objects_append}
use Rattle.nddl_object_laws.proofs.Least.{earliest_swap, three_and_three}
use Rattle.nddl_object_laws.proofs.Noting.{noted_state, state}
use Rattle.nddl_object_laws.proofs.Reading.{AreBelow, EachPassedBelow, IsAlikeIn, IsBelow, IsClosed, Keep, below_more, fine_below, fine_same, head_of, outside_alike, passing_same}

-- ---- fields that are set to what is there

abbrev pub IsAssignmentBelow : ℕ → Assignment → Type 0
IsAssignmentBelow count (Passes field datum) = IsBelow count datum
IsAssignmentBelow count (Sets entry scene field init) = AreBelow count scene.values

abbrev pub EachAssignmentBelow : ℕ → List Assignment → Type 0
EachAssignmentBelow count [] = ⊤
EachAssignmentBelow count (assignment ∷ more) = IsAssignmentBelow count assignment × EachAssignmentBelow count more

each_append : (count : ℕ) (one other : List Assignment) → EachAssignmentBelow count one → EachAssignmentBelow count other
    → EachAssignmentBelow count (one ++ other)
each_append count [] other first second = second
each_append count (assignment ∷ one) other first second = (first.0, each_append count one other first.1 second)

pub body_below : (count entry : ℕ) (scene : Scenery) (parts : List Set) → AreBelow count scene.values
    → EachAssignmentBelow count (flat_map (part_assignments entry scene) parts)
body_below count entry scene [] are = tt
body_below count entry scene (sets.Field name value ∷ more) are = (are, body_below count entry scene more are)
body_below count entry scene (sets.Super at arguments ∷ more) are = body_below count entry scene more are

builtin_below : (count number : ℕ) (values : List (Option Datum)) → AreBelow count values
    → EachAssignmentBelow count (builtin_assignments number values)
builtin_below count number values are = by (number == 2) (number == 3)
  where
    by : (two three : Bool) → EachAssignmentBelow count (if two then builtin_assignments 2 values else (if three then builtin_assignments 3 values else []))
    by true three = (are 0, tt)
    by false true = (are 0, (are 1, (are 2, tt)))
    by false false = tt

pub class_below : (facts : Facts) (count : ℕ) (class : Meaning) (values : List (Option Datum)) → AreBelow count values
    → EachAssignmentBelow count (class_assignments facts class values)
class_below facts count (meanings.BuiltIn number) values are = builtin_below count number values are
class_below facts count (meanings.Entry entry) values are = by (constructor_at facts.names facts.program entry)
  where
    by : (found : Option Member) → EachAssignmentBelow count (option_map_or (body_assignments facts entry values) found [])
    by None = tt
    by (Some constructor) = body_below count entry (constructor_scene facts entry constructor values) (constructor_sets constructor) are

pub assignments_below : (facts : Facts) (count : ℕ) (some : List Passed) → EachPassedBelow count some
    → EachAssignmentBelow count (all_assignments facts some)
assignments_below facts count [] are = tt
assignments_below facts count (passed ∷ more) are =
    each_append count (class_assignments facts passed.class passed.values) (all_assignments facts more)
    (class_below facts count passed.class passed.values are.0) (assignments_below facts count more are.1)

-- ---- what a `new` stands for

levels_same : (levels : ℕ) → nat_lt 0 levels ≡ has_levels levels
levels_same zero = le-ltb 0 0 (omega arith)
levels_same (suc levels) = lt-ltb 0 (suc levels) (omega arith)

pub datum_is : (facts : Facts) (levels : ℕ) (creation : Creation) (so_far : Construction)
    → new_datum levels facts creation so_far ≡ made_datum facts levels (length so_far.objects) creation
datum_is facts levels creation so_far = by (made_class facts creation)
  where
    by : (found : Option Meaning)
        → option_map_or (λ class. if nat_lt 0 levels && nat_lt (length so_far.objects) most_objects then Some (datums.Object (length so_far.objects)) else None) found None
        ≡ (if is_some found && (has_levels levels && has_place (length so_far.objects)) then Some (datums.Object (length so_far.objects)) else None)
    by None = refl
    by (Some class) =
        ap (λ some. if some && has_place (length so_far.objects) then Some (datums.Object (length so_far.objects)) else None) (levels_same levels)

made_alike : (facts : Facts) (one other : List MadeObject) (levels number : ℕ) (creation : Creation)
    → (makes_one facts levels number creation ≡ true → option_map head_of (slice_get one number) ≡ option_map head_of (slice_get other number))
    → IsAlikeIn one other (made_datum facts levels number creation)
made_alike facts one other levels number creation there = by (makes_one facts levels number creation) there
  where
    by : (made : Bool) → (made ≡ true → option_map head_of (slice_get one number) ≡ option_map head_of (slice_get other number))
        → IsAlikeIn one other (if made then Some (datums.Object number) else None)
    by true given = given refl
    by false given = tt

agree_alike : (objects all : List MadeObject) → Agree objects all → (datum : Option Datum) → IsBelow (length objects) datum
    → IsAlikeIn objects all datum
agree_alike objects all agree None is = tt
agree_alike objects all agree (Some (datums.Number number)) is = tt
agree_alike objects all agree (Some (datums.Decimal thousandths)) is = tt
agree_alike objects all agree (Some (datums.Truth truth)) is = tt
agree_alike objects all agree (Some (datums.Member entry)) is = tt
agree_alike objects all agree (Some (datums.Object number)) is = agree number is

-- ---- an object that is being made

-- its fields that are set, the objects behind it, the earliest of what was wrong beside limits, and the `new`s that have been
-- carried out
pub record Midway : Type 0 where
  pub fields : List FieldValue
  pub nested : List MadeObject
  pub met : Option Fault
  pub done : List Carried

module _ (facts : Facts) (there : There) (all : List MadeObject) (levels : ℕ) (carries : Carries) (new : New) where
  -- these fields are set, and these faults have been met besides
  abbrev pub ran : Midway → List Numbered → List Fault → Midway
  ran mid steps some = record {
    fields = mid.fields ++ assigned_values facts there levels steps;
    nested = mid.nested ++ carried_objects facts (numbered_carried carries new.name steps);
    met = earliest_fault mid.met (some ++ (steps_faults facts there all (new_place new) levels steps
        ++ flat_map (carried_faults facts all) (numbered_carried carries new.name steps)));
    done = mid.done ++ numbered_carried carries new.name steps;
  }

  pub ran_none : (mid : Midway) → ran mid [] [] ≡ mid
  ran_none mid = λ i. record {
    fields = append-nil mid.fields i;
    nested = append-nil mid.nested i;
    met = mid.met;
    done = append-nil mid.done i;
  }

  ran_then : (mid : Midway) (one other : List Numbered) (some more : List Fault)
      → ran (ran mid one some) other more ≡ ran mid (one ++ other) (some ++ more)
  ran_then mid one other some more =
      let F : Numbered → FieldValue = λ step. assigned_value facts there levels step.number step.assignment in
      let C : Numbered → List Carried = λ step. assignment_carried carries new.name step.number step.assignment in
      let O : Numbered → List Fault = λ step. assignment_faults facts there all (new_place new) levels step.number step.assignment in
      let W : Carried → List Fault = λ carried. carried_faults facts all carried in
      let carried : flat_map C (one ++ other) ≡ flat_map C one ++ flat_map C other = flat_map-append C one other in
      let wrong : flat_map W (flat_map C (one ++ other)) ≡ flat_map W (flat_map C one) ++ flat_map W (flat_map C other) =
      ap (flat_map W) carried ∙ flat_map-append W (flat_map C one) (flat_map C other) in
      let fields : (mid.fields ++ map F one) ++ map F other ≡ mid.fields ++ map F (one ++ other) =
      append_assoc mid.fields (map F one) (map F other) ∙ ap (λ rest. mid.fields ++ rest) (sym (map-append F one other)) in
      let nested : (mid.nested ++ carried_objects facts (flat_map C one)) ++ carried_objects facts (flat_map C other)
      ≡ mid.nested ++ carried_objects facts (flat_map C (one ++ other)) =
      append_assoc mid.nested (carried_objects facts (flat_map C one)) (carried_objects facts (flat_map C other))
      ∙ ap (λ rest. mid.nested ++ rest)
      (sym (ap (carried_objects facts) carried ∙ objects_append facts (flat_map C one) (flat_map C other))) in
      let done : (mid.done ++ flat_map C one) ++ flat_map C other ≡ mid.done ++ flat_map C (one ++ other) =
      append_assoc mid.done (flat_map C one) (flat_map C other) ∙ ap (λ rest. mid.done ++ rest) (sym carried) in
      let met : earliest_fault (earliest_fault mid.met (some ++ (flat_map O one ++ flat_map W (flat_map C one))))
      (more ++ (flat_map O other ++ flat_map W (flat_map C other)))
      ≡ earliest_fault mid.met ((some ++ more) ++ (flat_map O (one ++ other) ++ flat_map W (flat_map C (one ++ other)))) =
      three_and_three mid.met some (flat_map O one) (flat_map W (flat_map C one)) more (flat_map O other) (flat_map W (flat_map C other))
      ∙ sym (λ i. earliest_fault mid.met ((some ++ more) ++ (flat_map-append O one other i ++ wrong i))) in
      λ i. record { fields = fields i; nested = nested i; met = met i; done = done i }

  -- one field is set
  one_ran : (mid : Midway) (step : Numbered)
      → ran mid (step ∷ []) []
      ≡ record {
        fields = mid.fields ++ assigned_value facts there levels step.number step.assignment ∷ [];
        nested = mid.nested ++ carried_objects facts (assignment_carried carries new.name step.number step.assignment);
        met = earliest_fault (earliest_fault mid.met (assignment_faults facts there all (new_place new) levels step.number step.assignment))
            (flat_map (carried_faults facts all) (assignment_carried carries new.name step.number step.assignment));
        done = mid.done ++ assignment_carried carries new.name step.number step.assignment;
      }
  one_ran mid step =
      let c : List Carried = assignment_carried carries new.name step.number step.assignment in
      let own : List Fault = assignment_faults facts there all (new_place new) levels step.number step.assignment in
      let W : Carried → List Fault = λ carried. carried_faults facts all carried in
      let met : earliest_fault mid.met ((own ++ []) ++ flat_map W (c ++ [])) ≡ earliest_fault (earliest_fault mid.met own) (flat_map W c) =
      (λ i. earliest_fault mid.met (append-nil own i ++ flat_map W (append-nil c i))) ∙ earliest_append mid.met own (flat_map W c) in
      λ i. record {
        fields = mid.fields ++ assigned_value facts there levels step.number step.assignment ∷ [];
        nested = mid.nested ++ carried_objects facts (append-nil c i);
        met = met i;
        done = mid.done ++ append-nil c i;
      }

  -- where the making has got to, if these objects stand before it, and it is of this class
  abbrev pub building : List MadeObject → Meaning → Midway → Construction
  building front class mid = state facts (front ++ new_object_with new class mid.fields ∷ mid.nested) mid.met mid.done

  -- how many objects there are by then
  abbrev pub size : List MadeObject → Midway → ℕ
  size front mid = length front + suc (length mid.nested)

  -- the fields from there on
  abbrev pub steps_at : List MadeObject → Midway → List Assignment → List Numbered
  steps_at front mid some = numbered facts carries new.name (size front mid) some

  size_ran : (front : List MadeObject) (mid : Midway) (steps : List Numbered) (some : List Fault)
      → size front (ran mid steps some) ≡ size front mid + made_count facts (numbered_carried carries new.name steps)
  size_ran front mid steps some =
      let c : List Carried = numbered_carried carries new.name steps in
      let long = length-append mid.nested (carried_objects facts c) in
      let count = counted facts c in
      omega (arith, long, count)

  pub goes_on : (front : List MadeObject) (mid : Midway) (one other : List Assignment) (some more : List Fault)
      → ran (ran mid (steps_at front mid one) some) (steps_at front (ran mid (steps_at front mid one) some) other) more
      ≡ ran mid (steps_at front mid (one ++ other)) (some ++ more)
  goes_on front mid one other some more =
      let steps : List Numbered = steps_at front mid one in
      ap (λ (n : ℕ). ran (ran mid steps some) (numbered facts carries new.name n other) more) (size_ran front mid steps some)
      ∙ (ran_then mid steps
      (numbered facts carries new.name (size front mid + made_count facts (numbered_carried carries new.name steps)) other) some more
      ∙ ap (λ (some_steps : List Numbered). ran mid some_steps (some ++ more))
      (sym (numbered_append facts carries new.name (size front mid) one other)))

  -- the objects by then agree with all
  abbrev pub Agrees : List MadeObject → Meaning → Midway → Type 0
  Agrees front class mid = Agree (front ++ new_object_with new class mid.fields ∷ mid.nested) all

  pub agrees_rest : (front : List MadeObject) (class : Meaning) (mid : Midway) (one other : List Assignment) (some more : List Fault)
      → Agrees front class (ran mid (steps_at front mid (one ++ other)) (some ++ more))
      → Agrees front class (ran (ran mid (steps_at front mid one) some) (steps_at front (ran mid (steps_at front mid one) some) other) more)
  agrees_rest front class mid one other some more agrees =
      let A : Midway → Type 0 = λ m. Agrees front class m in subst A (sym (goes_on front mid one other some more)) agrees

  pub agrees_first : (front : List MadeObject) (class : Meaning) (mid : Midway) (one other : List Assignment) (some more : List Fault)
      → Agrees front class (ran mid (steps_at front mid (one ++ other)) (some ++ more))
      → Agrees front class (ran mid (steps_at front mid one) some)
  agrees_first front class mid one other some more agrees =
      let first : Midway = ran mid (steps_at front mid one) some in
      let second : Midway = ran first (steps_at front first other) more in
      agree_before front (new_object_with new class first.fields) (new_object_with new class second.fields) first.nested
      (carried_objects facts (numbered_carried carries new.name (steps_at front first other))) all refl
      (agrees_rest front class mid one other some more agrees)

-- ---- what comes of a `new`

-- what is stated of a `new` at so many levels
abbrev pub ComesOf : Facts → There → List MadeObject → ℕ → Type 0
ComesOf facts there all levels =
    (objects : List MadeObject) (met : Option Fault) (done : List Carried) (new : New) → length there.objects ≤ length objects
    → Keep there.objects objects → AreBelow (length there.objects) new.scene.values
    → Agree (objects ++ carried_objects facts (carried_by levels facts there (length objects) new)) all
    → new_made (made_by levels (grounds_there facts there)) (grounds_there facts there) new.scene new.name new.entry new.creation
    (state facts objects met done)
    ≡ state facts (objects ++ carried_objects facts (carried_by levels facts there (length objects) new))
    (earliest_fault met (flat_map (carried_faults facts all) (carried_by levels facts there (length objects) new)))
    (done ++ carried_by levels facts there (length objects) new)

module _ (facts : Facts) (there : There) (closed : IsClosed there) (all : List MadeObject) (levels : ℕ) (inner : ComesOf facts there all levels)
    (front : List MadeObject) (long : length there.objects ≤ length front) (keep : Keep there.objects front) (new : New) (class : Meaning) where
  abbrev grounds : Grounds
  grounds = grounds_there facts there

  abbrev carries : Carries
  carries = carried_by levels facts there

  abbrev subject : Subject
  subject = record { name = new.name; place = new_place new; number = length front }

  abbrev built : Midway → Construction
  built mid = building facts there all levels carries new front class mid

  abbrev objects_at : Midway → List MadeObject
  objects_at mid = front ++ new_object_with new class mid.fields ∷ mid.nested

  -- a field is set to a value, and looked at
  given_is : (mid : Midway) (entry : ℕ) (name : List ℕ) (datum : Option Datum) → IsAlikeIn (objects_at mid) all datum
      → field_given grounds subject entry name datum (built mid)
      ≡ built (record {
        fields = mid.fields ++ record { name = name; value = datum } ∷ [];
        nested = mid.nested;
        met = earliest_fault mid.met (outside_field_faults facts there all (new_place new) entry name datum);
        done = mid.done;
      })
  given_is mid entry name datum alike =
      let place : Place = new_place new in
      let wrong : List Fault = outside_field_faults facts there all place entry name datum in
      ap (λ (outside : Bool). with_set (noted (built mid) (faults_here place.decl place.at (fault_if outside faults.NotInDomain))) subject name datum)
      (outside_alike grounds (objects_at mid) all entry name datum alike)
      ∙ (ap (λ (so_far : Construction). with_set so_far subject name datum) (noted_state facts (objects_at mid) mid.met mid.done wrong)
      ∙ ap (λ (some : List MadeObject). state facts some (earliest_fault mid.met wrong) mid.done)
      (field_at front mid.nested (new_object_with new class mid.fields) (record { name = name; value = datum })))

  -- a field of a built-in class is set
  passes_is : (mid : Midway) (number : ℕ) (field : List ℕ) (datum : Option Datum)
      → with_set (built mid) subject field datum
      ≡ built (ran facts there all levels carries new mid (record { number = number; assignment = Passes field datum } ∷ []) [])
  passes_is mid number field datum =
      ap (λ (some : List MadeObject). state facts some mid.met mid.done)
      (field_at front mid.nested (new_object_with new class mid.fields) (record { name = field; value = datum }))
      ∙ ((λ i. built (record {
        fields = mid.fields ++ record { name = field; value = datum } ∷ [];
        nested = sym (append-nil mid.nested) i;
        met = mid.met;
        done = sym (append-nil mid.done) i;
      }))
      ∙ sym (ap built (one_ran facts there all levels carries new mid (record { number = number; assignment = Passes field datum }))))

  keeps : (mid : Midway) → Keep there.objects (objects_at mid)
  keeps mid = keep_more there.objects front (new_object_with new class mid.fields ∷ mid.nested) long keep

  longer : (mid : Midway) → length there.objects ≤ length (objects_at mid)
  longer mid = let some = length-append front (new_object_with new class mid.fields ∷ mid.nested) in omega (arith, some, long)

  -- a field is set to a value that is read
  value_is : (mid : Midway) (number entry : ℕ) (scene : Scenery) (field : List ℕ) (expr : Expr) → AreBelow (length there.objects) scene.values
      → Agree (objects_at mid) all
      → init_set (made_by levels grounds) levels grounds scene subject entry field (inits.Expr expr) (built mid)
      ≡ built (ran facts there all levels carries new mid (record { number = number; assignment = Sets entry scene field (inits.Expr expr) } ∷ []) [])
  value_is mid number entry scene field expr are agree =
      let kind : Option TypeKind = field_kind (field_in_line facts entry field) in
      let unmade : List Fault = unmade_faults grounds scene expr in
      let datum : Option Datum = fine_datum grounds scene there.objects kind expr in
      let wrong : List Fault = outside_field_faults facts there all (new_place new) entry field datum in
      let begun : Midway = record { fields = mid.fields; nested = mid.nested; met = earliest_fault mid.met unmade; done = mid.done } in
      let low : IsBelow (length (objects_at mid)) datum =
      below_more (length there.objects) (length (objects_at mid)) datum (longer mid) (fine_below facts there closed scene kind expr are) in
      ap (λ (value : Option Datum). field_given grounds subject entry field value (noted (built mid) unmade))
      (fine_same facts there closed (objects_at mid) (keeps mid) scene kind expr are)
      ∙ (ap (λ (so_far : Construction). field_given grounds subject entry field datum so_far) (noted_state facts (objects_at mid) mid.met mid.done unmade)
      ∙ (given_is begun entry field datum (agree_alike (objects_at mid) all agree datum low)
      ∙ ((λ i. built (record {
        fields = mid.fields ++ record { name = field; value = datum } ∷ [];
        nested = sym (append-nil mid.nested) i;
        met = sym (earliest_append mid.met unmade wrong) i;
        done = sym (append-nil mid.done) i;
      }))
      ∙ sym (ap built (one_ran facts there all levels carries new mid (record { number = number; assignment = Sets entry scene field (inits.Expr expr) }))))))

  -- a field is set to an object that is made for it
  nested_is : (mid : Midway) (entry : ℕ) (scene : Scenery) (field : List ℕ) (creation : Creation) → AreBelow (length there.objects) scene.values
      → Agree (front ++ new_object_with new class mid.fields
      ∷ (mid.nested ++ carried_objects facts (carries (size facts there all levels carries new front mid)
      (record { scene = scene; name = full_name new.name field; entry = None; creation = creation })))) all
      → init_set (made_by levels grounds) levels grounds scene subject entry field (inits.New creation) (built mid)
      ≡ built (ran facts there all levels carries new mid (record {
        number = size facts there all levels carries new front mid;
        assignment = Sets entry scene field (inits.New creation);
      } ∷ []) [])
  nested_is mid entry scene field creation are agree =
      let one : New = record { scene = scene; name = full_name new.name field; entry = None; creation = creation } in
      let objects : List MadeObject = objects_at mid in
      let own : MadeObject = new_object_with new class mid.fields in
      let at : length objects ≡ length front + suc (length mid.nested) = length-append front (own ∷ mid.nested) in
      let c : List Carried = carries (length objects) one in
      let behind : List MadeObject = carried_objects facts c in
      let datum : Option Datum = made_datum facts levels (length objects) creation in
      let S : ℕ → Type 0 = λ n. Agree (front ++ own ∷ (mid.nested ++ carried_objects facts (carries n one))) all in
      let here : Agree (front ++ own ∷ (mid.nested ++ behind)) all = subst S (sym at) agree in
      let A : List MadeObject → Type 0 = λ some. Agree some all in
      let whole : Agree (objects ++ behind) all = subst A (sym (append_assoc front (own ∷ mid.nested) behind)) here in
      let W : Carried → List Fault = λ carried. carried_faults facts all carried in
      let begun : Midway = record {
        fields = mid.fields;
        nested = mid.nested ++ behind;
        met = earliest_fault mid.met (flat_map W c);
        done = mid.done ++ c;
      } in
      let within : makes_one facts levels (length objects) creation ≡ true → length objects < length (front ++ own ∷ (mid.nested ++ behind)) = λ made.
      let first = made_first facts there levels (length objects) one made in
      let count = counted facts c in
      let some = length-append front (own ∷ (mid.nested ++ behind)) in
      let more = length-append mid.nested behind in
      omega (arith, first, count, some, more, at) in
      let alike : IsAlikeIn (objects_at begun) all datum =
      made_alike facts (objects_at begun) all levels (length objects) creation (λ made. here (length objects) (within made)) in
      let reached : ℕ → Midway = λ n. record {
        fields = mid.fields ++ record { name = field; value = made_datum facts levels n creation } ∷ [];
        nested = mid.nested ++ carried_objects facts (carries n one);
        met = earliest_fault (earliest_fault mid.met (outside_field_faults facts there all (new_place new) entry field (made_datum facts levels n creation)))
            (flat_map W (carries n one));
        done = mid.done ++ carries n one;
      } in
      ap (λ (value : Option Datum). field_given grounds subject entry field value
      (new_made (made_by levels grounds) grounds scene (full_name new.name field) None creation (built mid))) (datum_is facts levels creation (built mid))
      ∙ (ap (λ (so_far : Construction). field_given grounds subject entry field datum so_far)
      (inner objects mid.met mid.done one (longer mid) (keeps mid) are whole)
      ∙ (ap (λ (some : List MadeObject). field_given grounds subject entry field datum (state facts some begun.met begun.done))
      (append_assoc front (own ∷ mid.nested) behind)
      ∙ (given_is begun entry field datum alike
      ∙ ((λ i. built (record {
        fields = mid.fields ++ record { name = field; value = datum } ∷ [];
        nested = begun.nested;
        met = earliest_swap mid.met (flat_map W c) (outside_field_faults facts there all (new_place new) entry field datum) i;
        done = begun.done;
      }))
      ∙ (ap (λ (n : ℕ). built (reached n)) at
      ∙ sym (ap built (one_ran facts there all levels carries new mid (record {
        number = length front + suc (length mid.nested);
        assignment = Sets entry scene field (inits.New creation);
      }))))))))

  -- ---- any field

  abbrev assigned : Assignment → Construction → Construction
  assigned (Passes field datum) so_far = with_set so_far subject field datum
  assigned (Sets entry scene field init) so_far = init_set (made_by levels grounds) levels grounds scene subject entry field init so_far

  abbrev all_assigned : List Assignment → Construction → Construction
  all_assigned [] so_far = so_far
  all_assigned (assignment ∷ more) so_far = all_assigned more (assigned assignment so_far)

  abbrev ran_here : Midway → List Numbered → List Fault → Midway
  ran_here mid steps some = ran facts there all levels carries new mid steps some

  abbrev steps_here : Midway → List Assignment → List Numbered
  steps_here mid some = steps_at facts there all levels carries new front mid some

  abbrev AgreesHere : Midway → Type 0
  AgreesHere mid = Agree (objects_at mid) all

  assigned_is : (mid : Midway) (assignment : Assignment) → IsAssignmentBelow (length there.objects) assignment
      → AgreesHere (ran_here mid (steps_here mid (assignment ∷ [])) [])
      → assigned assignment (built mid) ≡ built (ran_here mid (steps_here mid (assignment ∷ [])) [])
  assigned_is mid (Passes field datum) is agrees = passes_is mid (length front + suc (length mid.nested)) field datum
  assigned_is mid (Sets entry scene field (inits.Expr expr)) is agrees =
      let last : Midway = ran_here mid (steps_here mid (Sets entry scene field (inits.Expr expr) ∷ [])) [] in
      value_is mid (length front + suc (length mid.nested)) entry scene field expr is
      (agree_before front (new_object_with new class mid.fields) (new_object_with new class last.fields) mid.nested [] all refl agrees)
  assigned_is mid (Sets entry scene field (inits.New creation)) is agrees =
      let step : Numbered = record { number = length front + suc (length mid.nested); assignment = Sets entry scene field (inits.New creation) } in
      let last : Midway = ran_here mid (step ∷ []) [] in
      let M : Midway → Type 0 = λ m. AgreesHere m in
      nested_is mid entry scene field creation is
      (agree_fields front (new_object_with new class mid.fields)
      (new_object_with new class (mid.fields ++ assigned_value facts there levels step.number step.assignment ∷ []))
      (mid.nested ++ carried_objects facts (assignment_carried carries new.name step.number step.assignment)) all refl
      (subst M (one_ran facts there all levels carries new mid step) agrees))

  all_is : (some : List Assignment) (mid : Midway) → EachAssignmentBelow (length there.objects) some
      → AgreesHere (ran_here mid (steps_here mid some) [])
      → all_assigned some (built mid) ≡ built (ran_here mid (steps_here mid some) [])
  all_is [] mid are agrees = ap built (sym (ran_none facts there all levels carries new mid))
  all_is (assignment ∷ more) mid are agrees =
      let next : Midway = ran_here mid (steps_here mid (assignment ∷ [])) [] in
      ap (all_assigned more)
      (assigned_is mid assignment are.0 (agrees_first facts there all levels carries new front class mid (assignment ∷ []) more [] [] agrees))
      ∙ (all_is more next are.1 (agrees_rest facts there all levels carries new front class mid (assignment ∷ []) more [] [] agrees)
      ∙ ap built (goes_on facts there all levels carries new front mid (assignment ∷ []) more [] []))

  -- ---- constructors

  parts_assigned : (entry : ℕ) (scene : Scenery) (parts : List Set) (so_far : Construction)
      → parts_run (made_by levels grounds) levels grounds scene subject entry parts so_far
      ≡ all_assigned (flat_map (part_assignments entry scene) parts) so_far
  parts_assigned entry scene [] so_far = refl
  parts_assigned entry scene (sets.Field name value ∷ more) so_far =
      parts_assigned entry scene more (init_set (made_by levels grounds) levels grounds scene subject entry name.text value so_far)
  parts_assigned entry scene (sets.Super at arguments ∷ more) so_far = parts_assigned entry scene more so_far

  builtin_assigned : (number : ℕ) (values : List (Option Datum)) (so_far : Construction)
      → builtin_run subject number values so_far ≡ all_assigned (builtin_assignments number values) so_far
  builtin_assigned number values so_far = by (number == 2) (number == 3)
    where
      by : (two three : Bool)
          → (if two then builtin_run subject 2 values so_far else (if three then builtin_run subject 3 values so_far else so_far))
          ≡ all_assigned (if two then builtin_assignments 2 values else (if three then builtin_assignments 3 values else [])) so_far
      by true three = refl
      by false true = refl
      by false false = refl

  abbrev faults_here_of : Meaning → List (Option Datum) → List Fault
  faults_here_of one values = passed_faults facts there (new_place new) one values

  class_is : (one : Meaning) (values : List (Option Datum)) (mid : Midway) → AreBelow (length there.objects) values
      → AgreesHere (ran_here mid (steps_here mid (class_assignments facts one values)) (faults_here_of one values))
      → class_run (made_by levels grounds) levels grounds subject one values (built mid)
      ≡ built (ran_here mid (steps_here mid (class_assignments facts one values)) (faults_here_of one values))
  class_is (meanings.BuiltIn number) values mid are agrees =
      builtin_assigned number values (built mid)
      ∙ all_is (builtin_assignments number values) mid (class_below facts (length there.objects) (meanings.BuiltIn number) values are) agrees
  class_is (meanings.Entry entry) values mid are agrees = by (constructor_at facts.names facts.program entry) agrees
    where
      by : (found : Option Member)
          → AgreesHere (ran_here mid (steps_here mid (option_map_or (body_assignments facts entry values) found []))
          (option_map_or (passing_faults grounds there.objects (new_place new) entry values) found []))
          → option_map_or (λ constructor. body_run (made_by levels grounds) levels grounds subject entry values constructor (built mid)) found (built mid)
          ≡ built (ran_here mid (steps_here mid (option_map_or (body_assignments facts entry values) found []))
          (option_map_or (passing_faults grounds there.objects (new_place new) entry values) found []))
      by None agreed = ap built (sym (ran_none facts there all levels carries new mid))
      by (Some constructor) agreed =
          let scene : Scenery = constructor_scene facts entry constructor values in
          let wrong : List Fault = passing_faults grounds there.objects (new_place new) entry values constructor in
          let begun : Midway = record { fields = mid.fields; nested = mid.nested; met = earliest_fault mid.met wrong; done = mid.done } in
          let some : List Assignment = body_assignments facts entry values constructor in
          let steps : List Numbered = steps_here mid some in
          let rest : List Fault = steps_faults facts there all (new_place new) levels steps
          ++ flat_map (carried_faults facts all) (numbered_carried carries new.name steps) in
          let run : Construction → Construction = λ so_far. parts_run (made_by levels grounds) levels grounds scene subject entry (constructor_sets constructor) so_far in
          ap (λ (faulty : List Fault). run (noted (built mid) faulty)) (passing_same facts there (objects_at mid) (keeps mid) (new_place new) entry values constructor are)
          ∙ (ap run (noted_state facts (objects_at mid) mid.met mid.done wrong)
          ∙ (parts_assigned entry scene (constructor_sets constructor) (built begun)
          ∙ (all_is some begun (body_below (length there.objects) entry scene (constructor_sets constructor) are) agreed
          ∙ (λ i. built (record {
            fields = mid.fields ++ assigned_values facts there levels steps;
            nested = mid.nested ++ carried_objects facts (numbered_carried carries new.name steps);
            met = sym (earliest_append mid.met wrong rest) i;
            done = mid.done ++ numbered_carried carries new.name steps;
          })))))

  pub classes_is : (some : List Passed) (mid : Midway) → EachPassedBelow (length there.objects) some
      → AgreesHere (ran_here mid (steps_here mid (all_assignments facts some)) (all_passed_faults facts there (new_place new) some))
      → classes_run (made_by levels grounds) levels grounds subject some (built mid)
      ≡ built (ran_here mid (steps_here mid (all_assignments facts some)) (all_passed_faults facts there (new_place new) some))
  classes_is [] mid are agrees = ap built (sym (ran_none facts there all levels carries new mid))
  classes_is (passed ∷ more) mid are agrees =
      let one : List Assignment = class_assignments facts passed.class passed.values in
      let rest : List Assignment = all_assignments facts more in
      let wrong : List Fault = faults_here_of passed.class passed.values in
      let others : List Fault = all_passed_faults facts there (new_place new) more in
      let next : Midway = ran_here mid (steps_here mid one) wrong in
      ap (classes_run (made_by levels grounds) levels grounds subject more)
      (class_is passed.class passed.values mid are.0
      (agrees_first facts there all levels carries new front class mid one rest wrong others agrees))
      ∙ (classes_is more next are.1 (agrees_rest facts there all levels carries new front class mid one rest wrong others agrees)
      ∙ ap built (goes_on facts there all levels carries new front mid one rest wrong others))
