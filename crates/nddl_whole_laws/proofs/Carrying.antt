-- What a `new` makes is set to something in each field, where nothing is wrong with it and with what it carries out.
use Rattle.std.proofs.Common.{◌≡◌, ℕ, zero, suc, ◌+◌, ◌==◌, Bool, true, false, not, ◌&&◌, List, [], ◌∷◌, ◌++◌, length, map, reverse, refl, sym, ◌∙◌, ap, subst, arith}
use Rattle.std.specs.Prelude.{Option, Some, None, All, codes, is_none, is_some, if◌then◌else◌}
use Rattle.std.specs.List.{AllByRecursion, flat_map}
use Rattle.std.specs.Option.{option_and_then, option_map_or, option_or}
use Rattle.std.proofs.lemmas.Bool.Decides.{Decides-eqb}
use Rattle.std.proofs.lemmas.List.{length-map, reverse-reverse}
use Rattle.std.proofs.lemmas.List.Elements.{recursion_from_All}
use Rattle.std.proofs.lemmas.Option.{same_Some, none-some}
use Rattle.model_core.specs.Naming.{full_name}
use Rattle.nddl_ast.specs.declared.declaration.FileDecls.{FileDecls}
use Rattle.nddl_ast.specs.declared.declaration.Member.{Member}
use Rattle.nddl_ast.specs.declared.declaration.Set.{Set}
use Rattle.nddl_ast.specs.declared.declaration.Set.TheVariants as sets
use Rattle.nddl_ast.specs.declared.expression.Creation.{Creation}
use Rattle.nddl_ast.specs.declared.expression.Init.{Init}
use Rattle.nddl_ast.specs.declared.expression.Init.TheVariants as inits
use Rattle.nddl_ast.specs.declared.kind.TextKind.{TextKind}
use Rattle.nddl_ast.specs.declared.kind.TextKind.TheVariants as faults
use Rattle.nddl_symbols.specs.declared.fault.Fault.{Fault}
use Rattle.nddl_symbols.specs.declared.place.Place.{Place}
use Rattle.nddl_symbols.specs.declared.scope.Meaning.{Meaning}
use Rattle.nddl_symbols.specs.declared.scope.Meaning.TheVariants as meanings
use Rattle.nddl_symbols.specs.Finding.{faults_here}
use Rattle.nddl_symbols.specs.Scope.{fault_if, meaning_of}
use Rattle.nddl_typeexpr.specs.declared.kind.TypeKind.{TypeKind}
use Rattle.nddl_typeexpr.specs.declared.kind.TypeKind.TheVariants as kinds
use Rattle.nddl_hierarchy.specs.Facts.{Facts}
use Rattle.nddl_declarations.specs.Classes.{class_meaning_fault}
use Rattle.nddl_types.specs.declared.table.TypeTable.{TypeTable}
use Rattle.nddl_types.specs.Table.{IsTable}
use Rattle.nddl_resolve.specs.Paths.{Surroundings}
use Rattle.nddl_constructors.specs.Bodies.{body_faults, field_in_line, field_kind, set_faults_in}
use Rattle.nddl_constructors.specs.Constants.{constants_faults}
use Rattle.nddl_constructors.specs.Creations.{class_alone, creation_faults, is_no_object, is_wrong_count, made_fault, meaning_wants, set_to_faults}
use Rattle.nddl_constructors.specs.Formals.{around_formals, formal_seen}
use Rattle.nddl_constructors.specs.Wants.{builtin_wants, class_wants, formal_kind, wanted_at}
use Rattle.nddl_construction.specs.declared.made.Datum.{Datum}
use Rattle.nddl_construction.specs.declared.made.Datum.TheVariants as datums
use Rattle.nddl_construction.specs.declared.made.FieldValue.{FieldValue}
use Rattle.nddl_construction.specs.declared.made.MadeObject.{MadeObject}
use Rattle.nddl_construction.specs.declared.passing.Passed.{Passed}
use Rattle.nddl_construction.specs.Classes.{class_taking, constructor_at, constructor_formals, constructor_sets, line_up, made_class}
use Rattle.nddl_construction.specs.Passing.{constructor_scene, passed_down, passed_from}
use Rattle.nddl_construction.specs.Reading.{all_unmade_faults, datum_at, unmade_faults}
use Rattle.nddl_construction.specs.Scene.{Grounds, Scenery}
use Rattle.nddl_objects.specs.Finished.{finished_faults}
use Rattle.nddl_objects.specs.Objects.{last_progress, progress_fault}
use Rattle.nddl_object_laws.specs.Carried.{Assignment, Passes, Sets, Carried, Carries, New, Numbered, There, all_assignments, assignment_carried, body_assignments, builtin_assignments, carried_by, class_assignments, grounds_there, has_levels, has_place, made_count, new_passed, new_place, new_steps, new_values, numbered, numbered_carried, object_steps, part_assignments}
use Rattle.nddl_object_laws.specs.Made.{assigned_value, assigned_values, carried_object, made_datum, new_object_with}
use Rattle.nddl_object_laws.specs.Wrong.{all_passed_faults, assignment_faults, carried_faults, is_too_deep, is_too_many, made_object_faults, new_object_faults, outside_field_faults, passed_faults, steps_faults}
use Rattle.nddl_object_laws.proofs.Counting.{carried_more, carried_none}
use Rattle.nddl_problem_check.specs.Texts.{problem_text_faults}
use Rattle.nddl_laws.specs.Fine.{IsFineExpr, IsFineInit, IsFineSet}
use Rattle.nddl_laws.specs.Given.{AreGiven}
use Rattle.nddl_laws.proofs.Nothing.{none_first, none_second}
use Rattle.nddl_laws.proofs.Values.{no_fault, not_so}
use Rattle.nddl_rule_laws.proofs.Classes.{are_facts, right}
use Rattle.nddl_model_laws.proofs.Lined.{Lined}
use Rattle.nddl_model_laws.proofs.Passing.{AreWanted, constructor_right, formals_sound}
use Rattle.nddl_model_laws.proofs.Typing.{AreFormals, data_sound}
use Rattle.nddl_whole_laws.proofs.Each.{each_back, each_flat, each_front, each_join, each_none, each_turned}
use Rattle.nddl_whole_laws.proofs.Handing.{IsFinePassed, IsWell, Means, body_text, line_well}
use Rattle.nddl_whole_laws.proofs.Leading.{AreThere, Has, IsSettled, IsWhole, arguments_lead, expr_leads}
use Rattle.nddl_whole_laws.proofs.Setting.{HasValue, all_set, class_set, none_out, set_there}

-- nothing is wrong with a `new` that is carried out, and it passes no limit
pub record IsFine (facts : Facts) (all : List MadeObject) (carried : Carried) : Type 0 where
  pub fine : carried_faults facts all carried ≡ []
  pub few : is_too_many facts carried ≡ false
  pub shallow : is_too_deep facts carried ≡ false

-- what it makes is whole
abbrev pub IsDone : Facts → Carried → Type 0
IsDone facts carried = (object : MadeObject) → carried_object facts carried ≡ Some object → IsWhole facts object

-- the `new` is written as it should be, and stands where each formal has a value of its kind
pub record IsWellNew (facts : Facts) (objects : List MadeObject) (new : New) : Type 0 where
  pub formals : AreFormals facts objects new.scene.formals new.scene.values
  pub have : AreThere (length new.scene.formals) new.scene.values
  pub decl : ℕ
  pub wrote : creation_faults facts (around_formals new.scene.formals) decl new.creation ≡ []
  pub right : All IsFineExpr new.creation.arguments

-- and so is what stands behind the `=` of a field
pub record IsWellSet (facts : Facts) (objects : List MadeObject) (entry : ℕ) (scene : Scenery) (field : List ℕ) (init : Init) : Type 0 where
  pub formals : AreFormals facts objects scene.formals scene.values
  pub have : AreThere (length scene.formals) scene.values
  pub decl : ℕ
  pub wrote : set_to_faults facts (around_formals scene.formals) decl (field_kind (field_in_line facts entry field)) init ≡ []
  pub right : IsFineInit init

abbrev pub IsSetWell : Facts → List MadeObject → Assignment → Type 0
IsSetWell facts objects (Passes field datum) = Has datum
IsSetWell facts objects (Sets entry scene field init) = IsWellSet facts objects entry scene field init

-- ---- the class of a `new`

pub record HasClass (facts : Facts) (creation : Creation) : Type 0 where
  pub class : Meaning
  pub made : made_class facts creation ≡ Some class
  pub alone : class_alone facts.names (meaning_of facts.names creation.class.text) ≡ Some class
  pub long : length (class_wants facts class) ≡ length creation.arguments

not_wrong : (b : Bool) → not b ≡ false → b ≡ true
not_wrong true is = refl
not_wrong false is = absurd (let e : true ≡ false = is in cc)

has_class : (facts : Facts) (creation : Creation) (o : Option Meaning) → meaning_of facts.names creation.class.text ≡ o
    → made_fault facts.names o (meaning_wants facts (class_alone facts.names o)) (length creation.arguments) ≡ None → HasClass facts creation
has_class facts creation None means none = absurd (none-some faults.Unknown (sym none))
has_class facts creation (Some class) means none = by (class_meaning_fault facts.names (Some class)) refl none
  where
    by : (fault : Option TextKind) → class_meaning_fault facts.names (Some class) ≡ fault
        → option_or fault (fault_if (is_wrong_count (meaning_wants facts (if is_none fault then Some class else None)) (length creation.arguments)) faults.WrongCount) ≡ None
        → HasClass facts creation
    by (Some kind) fault none = absurd (none-some kind (sym none))
    by None fault none =
        let count = not_so (is_wrong_count (class_wants facts class) (length creation.arguments)) faults.WrongCount none in
        let alone : class_alone facts.names (meaning_of facts.names creation.class.text) ≡ Some class =
        ap (class_alone facts.names) means ∙ ap (λ (fault : Option TextKind). if is_none fault then Some class else None) fault in
        record {
          class = class;
          made = ap (option_and_then (class_taking facts (length creation.arguments))) alone ∙ ap (λ (b : Bool). if b then None else Some class) count;
          alone = alone;
          long = (Decides-eqb (length (class_wants facts class)) (length creation.arguments)).0
              (not_wrong (length (class_wants facts class) == length creation.arguments) count);
        }

-- what is told of a `new`, part by part
record IsTold (facts : Facts) (around : Surroundings) (decl : ℕ) (creation : Creation) : Type 0 where
  has : HasClass facts creation
  arguments : constants_faults facts around decl (class_wants facts has.class) 0 creation.arguments ≡ []

told_new : (facts : Facts) (around : Surroundings) (decl : ℕ) (creation : Creation) → creation_faults facts around decl creation ≡ []
    → IsTold facts around decl creation
unfolding creation_faults
told_new facts around decl creation none =
    let meaning = meaning_of facts.names creation.class.text in
    let wants = meaning_wants facts (class_alone facts.names meaning) in
    let first = faults_here decl creation.class.at (made_fault facts.names meaning wants (length creation.arguments)) in
    let second = constants_faults facts around decl wants 0 creation.arguments in
    let has = has_class facts creation meaning refl
    (no_fault decl creation.class.at (made_fault facts.names meaning wants (length creation.arguments)) (none_first first second none)) in
    record {
      has = has;
      arguments = subst (λ (o : Option Meaning). constants_faults facts around decl (meaning_wants facts o) 0 creation.arguments ≡ []) has.alone
          (none_second first second none);
    }

-- ---- fields that are set

wants_builtin : (facts : Facts) (number : ℕ) → class_wants facts (meanings.BuiltIn number) ≡ builtin_wants number
unfolding class_wants
wants_builtin facts number = refl

down_is : (grounds : Grounds) (objects : List MadeObject) (class : Meaning) (values : List (Option Datum))
    → passed_down grounds objects class values ≡ reverse (passed_from grounds objects (line_up grounds.facts class) (Some values))
unfolding passed_down
down_is grounds objects class values = refl

builtin_set : (facts : Facts) (objects : List MadeObject) (number : ℕ) (values : List (Option Datum)) → AreThere (length (builtin_wants number)) values
    → AllByRecursion (IsSetWell facts objects) (builtin_assignments number values)
builtin_set facts objects number values = by (number == 2) (number == 3)
  where
    by : (two three : Bool)
        → AreThere (length (if two then Some kinds.Int ∷ [] else (if three then Some kinds.Int ∷ Some kinds.Int ∷ Some kinds.Int ∷ [] else []))) values
        → AllByRecursion (IsSetWell facts objects)
        (if two then Passes (codes "capacity") (datum_at values 0) ∷ []
        else (if three
        then Passes (codes "initial") (datum_at values 0)
        ∷ (Passes (codes "low") (datum_at values 1) ∷ (Passes (codes "high") (datum_at values 2) ∷ []))
        else []))
    by true three have = (have 0 (omega arith), tt)
    by false true have = (have 0 (omega arith), (have 1 (omega arith), (have 2 (omega arith), tt)))
    by false false have = tt

parts_set : (facts : Facts) (objects : List MadeObject) (entry decl : ℕ) (scene : Scenery) → AreFormals facts objects scene.formals scene.values
    → AreThere (length scene.formals) scene.values → (some : List Set)
    → AllByRecursion (λ (set : Set). set_faults_in facts (around_formals scene.formals) decl entry set ≡ []) some → AllByRecursion IsFineSet some
    → AllByRecursion (IsSetWell facts objects) (flat_map (part_assignments entry scene) some)
parts_set facts objects entry decl scene formals have [] none fits = tt
parts_set facts objects entry decl scene formals have (sets.Super at arguments ∷ more) none fits =
    parts_set facts objects entry decl scene formals have more none.1 fits.1
parts_set facts objects entry decl scene formals have (sets.Field name value ∷ more) none fits =
    let field = field_in_line facts entry name.text in (
      record {
        formals = formals;
        have = have;
        decl = decl;
        wrote = none_second (faults_here decl name.at (fault_if (is_none field) faults.Unknown))
            (set_to_faults facts (around_formals scene.formals) decl (field_kind field) value) none.0;
        right = fits.0.1;
      },
      parts_set facts objects entry decl scene formals have more none.1 fits.1,
    )

-- ---- where all this is there

module _ (files : List FileDecls) (table : TypeTable) (given : AreGiven files) (is : IsTable files table)
    (fine : progress_fault (last_progress is.facts) ≡ None) (text : problem_text_faults is.facts ≡ []) (there : There)
    (settled : IsSettled is.facts there.objects there.named_objects)
    (texts : (entry : ℕ) (constructor : Member) → Means is.facts entry → constructor_at is.facts.names is.facts.program entry ≡ Some constructor
    → (decl : ℕ) × (body_faults is.facts decl entry constructor ≡ []))
    (lined : (class : Meaning) → (name : List ℕ) × (class_alone is.facts.names (meaning_of is.facts.names name) ≡ Some class) → (entry : ℕ)
    → class ≡ meanings.Entry entry → Means is.facts entry × ((levels : ℕ) × Lined is.facts levels entry))
    (all : List MadeObject) where
  abbrev facts : Facts
  facts = is.facts

  abbrev grounds : Grounds
  grounds = grounds_there facts there

  class_sets : (passed : Passed) → IsWell facts there passed → AllByRecursion (IsSetWell facts there.objects) (class_assignments facts passed.class passed.values)
  class_sets passed well = by passed.class refl
    where
      inner : (entry : ℕ) → passed.class ≡ meanings.Entry entry → (o : Option Member) → constructor_at facts.names facts.program entry ≡ o
          → AllByRecursion (IsSetWell facts there.objects) (option_map_or (body_assignments facts entry passed.values) o [])
      inner entry same None at = tt
      inner entry same (Some constructor) at =
          let whole = constructor_right facts (are_facts files table given is) is.fine (right files table given is) entry constructor at in
          let scene = constructor_scene facts entry constructor passed.values in
          let wants = well.wants entry constructor same at in
          let W : List (Option TypeKind) → Type 0 = λ some. AreWanted facts there.objects some passed.values in
          let formals = formals_sound grounds there.objects constructor passed.values whole (subst W wants well.wanted) (well.own entry constructor same at) in
          let body = texts entry constructor (well.means entry same) at in
          let long : length (map (formal_seen facts) (constructor_formals constructor)) ≡ length (class_wants facts passed.class) =
          length-map (constructor_formals constructor) (formal_seen facts)
          ∙ (sym (length-map (constructor_formals constructor) (formal_kind facts)) ∙ sym (ap length wants)) in
          parts_set facts there.objects entry body.0 scene formals (λ number less. well.have number (omega (arith, less, long))) (constructor_sets constructor)
          (each_none (set_faults_in facts (around_formals scene.formals) body.0 entry) (constructor_sets constructor) (body_text facts body.0 entry constructor body.1))
          (recursion_from_All IsFineSet (constructor_sets constructor) whole.parts)

      by : (class : Meaning) → passed.class ≡ class → AllByRecursion (IsSetWell facts there.objects) (class_assignments facts class passed.values)
      by (meanings.BuiltIn number) same =
          let long : length (class_wants facts passed.class) ≡ length (builtin_wants number) =
          ap (λ (c : Meaning). length (class_wants facts c)) same ∙ ap length (wants_builtin facts number) in
          builtin_set facts there.objects number passed.values (λ place less. well.have place (omega (arith, less, long)))
      by (meanings.Entry entry) same = inner entry same (constructor_at facts.names facts.program entry) refl

  all_sets : (some : List Passed) → AllByRecursion (IsWell facts there) some → AllByRecursion (IsSetWell facts there.objects) (all_assignments facts some)
  all_sets [] all_well = tt
  all_sets (passed ∷ more) all_well =
      each_flat (IsSetWell facts there.objects) (λ (one : Passed). class_assignments facts one.class one.values) (passed ∷ more)
      (class_sets passed all_well.0, every more all_well.1)
    where
      every : (some : List Passed) → AllByRecursion (IsWell facts there) some
          → AllByRecursion (λ (one : Passed). AllByRecursion (IsSetWell facts there.objects) (class_assignments facts one.class one.values)) some
      every [] well = tt
      every (one ∷ rest) well = (class_sets one well.0, every rest well.1)

  -- what a `new` comes to
  abbrev Comes : ℕ → Type 0
  Comes levels =
      (number : ℕ) (new : New) → IsWellNew facts there.objects new → AllByRecursion (IsFine facts all) (carried_by levels facts there number new)
      → AllByRecursion (IsDone facts) (carried_by levels facts there number new) × Has (made_datum facts levels number new.creation)

  -- ---- fields one after another

  module _ (levels : ℕ) (inner : Comes levels) (name : List ℕ) (place : Place) where
    abbrev carries : Carries
    carries = carried_by levels facts there

    one_done : (number : ℕ) (assignment : Assignment) → IsSetWell facts there.objects assignment
        → AllByRecursion (IsFine facts all) (assignment_carried carries name number assignment)
        → assignment_faults facts there all place levels number assignment ≡ []
        → HasValue (assigned_value facts there levels number assignment) × AllByRecursion (IsDone facts) (assignment_carried carries name number assignment)
    one_done number (Passes field datum) well carried none = (well, tt)
    one_done number (Sets entry scene field (inits.Expr expr)) well carried none =
        let wanted = field_kind (field_in_line facts entry field) in
        let made = none_first (unmade_faults grounds scene expr)
        (outside_field_faults facts there all place entry field (assigned_value facts there levels number (Sets entry scene field (inits.Expr expr))).value) none in
        (expr_leads files table given is fine text there.objects there.named_objects settled scene wanted well.decl expr well.formals well.have well.wrote made, tt)
    one_done number (Sets entry scene field (inits.New creation)) well carried none =
        let wanted = field_kind (field_in_line facts entry field) in
        let one : New = record { scene = scene; name = full_name name field; entry = None; creation = creation } in
        let it = inner number one (record {
          formals = well.formals;
          have = well.have;
          decl = well.decl;
          wrote = none_second (faults_here well.decl creation.at (fault_if (is_no_object wanted) faults.WrongType))
              (creation_faults facts (around_formals scene.formals) well.decl creation) well.wrote;
          right = well.right.1;
        }) carried in
        (it.1, it.0)

    steps_done : (some : List Assignment) (number : ℕ) → AllByRecursion (IsSetWell facts there.objects) some
        → AllByRecursion (IsFine facts all) (numbered_carried carries name (numbered facts carries name number some))
        → steps_faults facts there all place levels (numbered facts carries name number some) ≡ []
        → AllByRecursion HasValue (assigned_values facts there levels (numbered facts carries name number some))
        × AllByRecursion (IsDone facts) (numbered_carried carries name (numbered facts carries name number some))
    steps_done [] number well carried none = (tt, tt)
    steps_done (assignment ∷ more) number well carried none =
        let here = assignment_carried carries name number assignment in
        let next = number + made_count facts here in
        let steps = numbered facts carries name next more in
        let rest = numbered_carried carries name steps in
        let own = assignment_faults facts there all place levels number assignment in
        let others = steps_faults facts there all place levels steps in
        let one = one_done number assignment well.0 (each_front (IsFine facts all) here rest carried) (none_first own others none) in
        let later = steps_done more next well.1 (each_back (IsFine facts all) here rest carried) (none_second own others none) in
        ((one.0, later.0), each_join (IsDone facts) here rest one.1 later.1)

  -- ---- one `new`

  module _ (levels : ℕ) (inner : Comes levels) (number : ℕ) (new : New) (well : IsWellNew facts there.objects new) where
    abbrev head : Carried
    head = record { there = there; levels = suc levels; number = number; new = new }

    abbrev carries_on : Carries
    carries_on = carried_by levels facts there

    abbrev told : IsTold facts (around_formals new.scene.formals) well.decl new.creation
    told = told_new facts (around_formals new.scene.formals) well.decl new.creation well.wrote

    abbrev class_of : Meaning
    class_of = told.has.class

    abbrev steps_of : List Numbered
    steps_of = object_steps facts there carries_on number new class_of

    abbrev fields_of : List FieldValue
    fields_of = assigned_values facts there levels steps_of

    has_room : is_too_many facts head ≡ false → has_place number ≡ true
    has_room few =
        not_wrong (has_place number)
        (sym (ap (λ (o : Option Meaning). is_some o && not (has_place number)) told.has.made) ∙ few)

    -- what it is passed
    passed_well : all_passed_faults facts there (new_place new) (new_passed facts there new class_of) ≡ []
        → all_unmade_faults grounds new.scene new.creation.arguments ≡ []
        → AllByRecursion (IsWell facts there) (new_passed facts there new class_of)
    passed_well none made =
        let wants = class_wants facts class_of in
        let values = new_values facts there new class_of in
        let from = passed_from grounds there.objects (line_up facts class_of) (Some values) in
        let P : List Passed → Type 0 = λ some. AllByRecursion (IsFinePassed facts there (new_place new)) some in
        let is_down = down_is grounds there.objects class_of values in
        let each : P (new_passed facts there new class_of) =
        each_none (λ (passed : Passed). passed_faults facts there (new_place new) passed.class passed.values) (new_passed facts there new class_of) none in
        let each_from : P from =
        subst P (reverse-reverse from) (each_turned (IsFinePassed facts there (new_place new)) (reverse from) (subst P is_down each)) in
        let wanted : AreWanted facts there.objects wants values =
        (λ place datum found asked is_asked.
        let e : 0 + place ≡ place = omega arith in
        data_sound facts there.objects settled.typed settled.lines there.named_objects settled.declared new.scene wants 0 new.creation.arguments well.formals
        well.right place datum found asked (ap (wanted_at wants) e ∙ is_asked)) in
        let lead = arguments_lead files table given is fine text there.objects there.named_objects settled new.scene well.decl wants 0 new.creation.arguments
        well.formals well.have told.arguments made in
        let long = told.has.long in
        let wells = line_well files table given is fine text there settled texts (new_place new) class_of
        (lined class_of (new.creation.class.text, told.has.alone)) values wanted
        (λ place less. lead place (omega (arith, less, long))) each_from in
        subst (AllByRecursion (IsWell facts there)) (sym is_down) (each_turned (IsWell facts there) from wells)

    object_done : new_object_faults facts there all levels number new class_of ≡ [] → all_unmade_faults grounds new.scene new.creation.arguments ≡ []
        → AllByRecursion (IsFine facts all) (numbered_carried carries_on new.name steps_of)
        → IsWhole facts (new_object_with new class_of fields_of) × AllByRecursion (IsDone facts) (numbered_carried carries_on new.name steps_of)
    object_done none made carried =
        let first = all_passed_faults facts there (new_place new) (new_passed facts there new class_of) in
        let second = steps_faults facts there all (new_place new) levels steps_of in
        let third = finished_faults facts (new_place new) (line_up facts class_of) fields_of in
        let later = none_second first (second ++ third) none in
        let wells = passed_well (none_first first (second ++ third) none) made in
        let sets_well = all_sets (new_passed facts there new class_of) wells in
        let done = steps_done levels inner new.name (new_place new) (all_assignments facts (new_passed facts there new class_of)) (number + 1) sets_well carried
        (none_first second third later) in
        let finished = none_second second third later in (
          record {
            set = λ field value found.
                set_there field fields_of done.0
                (class_set fields_of facts class_of (λ entry same. (lined class_of (new.creation.class.text, told.has.alone) entry same).1) field value found
                (all_set fields_of facts (new_place new) (line_up facts class_of) finished));
            inside = none_out fields_of facts (new_place new) (line_up facts class_of) finished;
          },
          done.1,
        )

    deeper : AllByRecursion (IsFine facts all) (carried_by (suc levels) facts there number new)
        → AllByRecursion (IsDone facts) (carried_by (suc levels) facts there number new) × Has (made_datum facts (suc levels) number new.creation)
    deeper carried =
        let more = carried_more levels facts there number new in
        let each = subst (AllByRecursion (IsFine facts all)) more carried in
        let room = has_room each.0.few in
        let made = told.has.made in
        let S : Option Meaning → Bool → List Numbered = λ o b.
        option_map_or (λ (class : Meaning). if b then object_steps facts there carries_on number new class else []) o [] in
        let steps : new_steps facts there carries_on number new ≡ steps_of = λ i. S (made i) (room i) in
        let F : Option Meaning → Bool → List Fault = λ o b.
        option_map_or (λ (class : Meaning). if b then new_object_faults facts there all levels number new class else []) o [] in
        let wrong : made_object_faults facts there all (suc levels) number new ≡ new_object_faults facts there all levels number new class_of = λ i. F (made i) (room i) in
        let first = all_unmade_faults grounds new.scene new.creation.arguments in
        let second = made_object_faults facts there all (suc levels) number new in
        let none = sym wrong ∙ none_second first second each.0.fine in
        let rest = subst (λ (some : List Numbered). AllByRecursion (IsFine facts all) (numbered_carried carries_on new.name some)) steps each.1 in
        let done = object_done none (none_first first second each.0.fine) rest in
        let O : Option Meaning → Bool → Option MadeObject = λ o b.
        option_and_then (λ (class : Meaning). if b
        then Some (new_object_with new class (assigned_values facts there levels (object_steps facts there carries_on number new class)))
        else None) o in
        let object : carried_object facts head ≡ Some (new_object_with new class_of fields_of) = λ i. O (made i) (room i) in
        let D : Option Meaning → Bool → Option Datum = λ o b. if is_some o && (true && b) then Some (datums.Object number) else None in
        let datum : made_datum facts (suc levels) number new.creation ≡ Some (datums.Object number) = λ i. D (made i) (room i) in
        let here : IsDone facts head =
        (λ one found. subst (IsWhole facts) (same_Some (new_object_with new class_of fields_of) one (sym object ∙ found)) done.0) in
        let later = subst (λ (some : List Numbered). AllByRecursion (IsDone facts) (numbered_carried carries_on new.name some)) (sym steps) done.1 in
        (subst (AllByRecursion (IsDone facts)) (sym more) (here, later), (datums.Object number, datum))

  pub comes : (levels : ℕ) → Comes levels
  comes zero number new well carried =
      let told = told_new facts (around_formals new.scene.formals) well.decl new.creation well.wrote in
      let each = subst (AllByRecursion (IsFine facts all)) (carried_none facts there number new) carried in
      let deep : true ≡ false = sym (ap (λ (o : Option Meaning). is_some o && not (has_levels zero)) told.has.made) ∙ each.0.shallow in
      absurd (cc)
  comes (suc levels) number new well carried = deeper levels (λ other one fits each. comes levels other one fits each) number new well carried
