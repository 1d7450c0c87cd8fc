-- What making the objects of a program meets that is wrong stands in a declaration.
use Rattle.std.proofs.Common.{◌≡◌, ℕ, zero, suc, ◌+◌, ◌<◌, ◌==◌, Bool, true, false, not, List, [], ◌∷◌, length, Option, Some, None, inl, inr, slice_get, refl, sym, ◌∙◌, ap, codes, arith}
use Rattle.std.specs.Prelude.{if◌then◌else◌}
use Rattle.std.specs.List.{list_any}
use Rattle.std.specs.Option.{option_and_then, option_map_or}
use Rattle.std.proofs.lemmas.List.Elements.{All-cons, All-nil, All-contains}
use Rattle.std.proofs.lemmas.Option.{none-some, slice_get_within}
use Rattle.nddl_ast.specs.declared.declaration.Decl.{Decl}
use Rattle.nddl_ast.specs.declared.declaration.Decl.TheVariants as decls
use Rattle.nddl_ast.specs.declared.declaration.Member.{Member}
use Rattle.nddl_ast.specs.declared.declaration.Set.{Set}
use Rattle.nddl_ast.specs.declared.declaration.Set.TheVariants as sets
use Rattle.nddl_ast.specs.declared.expression.Creation.{Creation}
use Rattle.nddl_ast.specs.declared.expression.Expr.{Expr}
use Rattle.nddl_ast.specs.declared.expression.Init.{Init}
use Rattle.nddl_ast.specs.declared.expression.Init.TheVariants as inits
use Rattle.nddl_ast.specs.declared.kind.TextKind.TheVariants as faults
use Rattle.nddl_ast.specs.declared.statement.Variable.{Variable}
use Rattle.nddl_ast.specs.Places.{expr_place}
use Rattle.nddl_symbols.specs.declared.declared.Declared.{Declared}
use Rattle.nddl_symbols.specs.declared.fault.Fault.{Fault}
use Rattle.nddl_symbols.specs.declared.place.Place.{Place}
use Rattle.nddl_symbols.specs.declared.scope.Meaning.{Meaning}
use Rattle.nddl_symbols.specs.declared.scope.Meaning.TheVariants as meanings
use Rattle.nddl_symbols.specs.Finding.{earlier_fault, earliest_fault}
use Rattle.nddl_symbols.specs.Names.{is_config_sort, scope_names, sort_of_variable}
use Rattle.nddl_symbols.specs.Scope.{fault_if, named_number}
use Rattle.nddl_symbols.proofs.Earliest.{finds_earliest}
use Rattle.nddl_hierarchy.specs.Facts.{Facts}
use Rattle.nddl_construction.specs.declared.made.Datum.{Datum}
use Rattle.nddl_construction.specs.declared.made.FieldValue.{FieldValue}
use Rattle.nddl_construction.specs.declared.made.MadeObject.{MadeObject}
use Rattle.nddl_construction.specs.declared.passing.Passed.{Passed}
use Rattle.model_core.specs.Naming.{full_name}
use Rattle.nddl_constructors.specs.Bodies.{field_in_line, field_kind}
use Rattle.nddl_constructors.specs.Objects.{written_faults}
use Rattle.nddl_construction.specs.Classes.{body_decl, constructor_at, constructor_formals, constructor_sets, line_up, made_class}
use Rattle.nddl_construction.specs.Outside.{is_outside_field}
use Rattle.nddl_construction.specs.Passing.{constructor_scene, has_foreign_from, is_wrong_super, passed_down, passing_faults, read_faults, super_arguments, wants_above}
use Rattle.nddl_construction.specs.Reading.{all_unmade_faults, fine_datum, is_unmade, unmade_faults}
use Rattle.nddl_construction.specs.Scene.{Grounds, Scenery}
use Rattle.nddl_objects.specs.Construction.{Asked, Construction, Subject, counted, first_of_kind, has_room, noted, object_begun, too_many, too_nested}
use Rattle.nddl_objects.specs.Finished.{are_all_set, finished_faults, is_class_out}
use Rattle.nddl_objects.specs.Made.{Makes, arguments_read, asked_object, body_run, builtin_run, class_run, classes_run, field_given, fields_of, init_set, made_by, new_datum, new_made, number_set, object_made, object_run, outside_faults, part_run, parts_run}
use Rattle.nddl_objects.specs.Objects.{Progress, all_declared, bare_scene, first_progress, init_declared, last_progress, most_levels, object_declared, one_declared, progress_fault, progress_grounds, settings_declared}
use Rattle.nddl_objects.specs.Settings.{are_wrong_settings, setting_data, setting_faults_of}
use Rattle.nddl_laws.proofs.Places.{declared_in}
use Rattle.nddl_verdicts.proofs.Placing.{AllIn, each, here, joined, nil}
use Rattle.nddl_verdicts.proofs.Texts.{written_in}

module _ (Good : ℕ → Type 0) where
  -- the fault, if there is one, is in such a declaration
  abbrev pub FirstIn : Option Fault → Type 0
  FirstIn first = (fault : Fault) → first ≡ Some fault → Good fault.place.decl

  pub earliest_in : (old : Option Fault) (some : List Fault) → FirstIn old → AllIn Good some → FirstIn (earliest_fault old some)
  earliest_in old some first all fault is = elim ((finds_earliest old some).found fault is) [
    | inl was ↦ first fault was
    | inr there ↦ All-contains (λ (one : Fault). Good one.place.decl) some fault all.all there
  ]

  pub none_in : FirstIn None
  none_in fault is = absurd (none-some fault is)

  abbrev IsFine : Construction → Type 0
  IsFine so_far = FirstIn so_far.first

  -- ---- values

  unmade : (grounds : Grounds) (scene : Scenery) → Good scene.decl → (expr : Expr) → AllIn Good (unmade_faults grounds scene expr)
  unmade grounds scene good expr = here Good scene.decl good (expr_place expr) (fault_if (is_unmade grounds scene expr) faults.Unknown)

  all_unmade : (grounds : Grounds) (scene : Scenery) → Good scene.decl → (some : List Expr) → AllIn Good (all_unmade_faults grounds scene some)
  all_unmade grounds scene good some = each Good (unmade_faults grounds scene) some (unmade grounds scene good)

  full : (so_far : Construction) (place : Place) → Good place.decl → IsFine so_far → IsFine (too_many so_far place)
  full so_far place good fine =
      earliest_in so_far.first (first_of_kind so_far.is_full place faults.LimitObjects) fine
      (here Good place.decl good place.at (fault_if (not so_far.is_full) faults.LimitObjects))

  room : (so_far : Construction) (place : Place) → Good place.decl → IsFine so_far → (b : Bool) → IsFine (if b then so_far else too_many so_far place)
  room so_far place good fine true = fine
  room so_far place good fine false = full so_far place good fine

  nested : (so_far : Construction) (place : Place) → Good place.decl → IsFine so_far → IsFine (too_nested so_far place)
  nested so_far place good fine =
      earliest_in (counted so_far place).first (first_of_kind (counted so_far place).is_deep place faults.LimitNew)
      (room so_far place good fine (has_room so_far)) (here Good place.decl good place.at (fault_if (not (counted so_far place).is_deep) faults.LimitNew))

  -- ---- constructors

  module _ (grounds : Grounds) (bodies : (entry : ℕ) → Good (body_decl grounds.facts.names entry)) where
    -- what is made of what is asked for in such a declaration
    abbrev MakesFine : Makes → Type 0
    MakesFine makes = (asked : Asked) → Good asked.place.decl → (so_far : Construction) → IsFine so_far → IsFine (makes asked so_far)

    given : (subject : Subject) (entry : ℕ) (name : List ℕ) (datum : Option Datum) (so_far : Construction) → Good subject.place.decl → IsFine so_far
        → IsFine (field_given grounds subject entry name datum so_far)
    given subject entry name datum so_far good fine =
        earliest_in so_far.first (outside_faults grounds so_far.objects subject entry name datum) fine
        (here Good subject.place.decl good subject.place.at (fault_if (is_outside_field grounds so_far.objects entry name datum) faults.NotInDomain))

    module _ (makes : Makes) (makes_fine : MakesFine makes) (levels : ℕ) where
      module _ (scene : Scenery) (there : Good scene.decl) where
        new : (name : List ℕ) (entry : Option ℕ) (creation : Creation) (so_far : Construction) → IsFine so_far → IsFine (new_made makes grounds scene name entry creation so_far)
        new name entry creation so_far fine = by (made_class grounds.facts creation)
          where
            read : IsFine (arguments_read grounds scene creation so_far)
            read = earliest_in so_far.first (all_unmade_faults grounds scene creation.arguments) fine (all_unmade grounds scene there creation.arguments)

            by : (o : Option Meaning)
                → IsFine (option_map_or (λ class. makes (asked_object grounds scene (arguments_read grounds scene creation so_far).objects name entry creation class)
                (arguments_read grounds scene creation so_far)) o (arguments_read grounds scene creation so_far))
            by None = read
            by (Some class) =
                makes_fine (asked_object grounds scene (arguments_read grounds scene creation so_far).objects name entry creation class) there
                (arguments_read grounds scene creation so_far) read

        module _ (subject : Subject) (good : Good subject.place.decl) (entry : ℕ) where
          set_to : (name : List ℕ) (init : Init) (so_far : Construction) → IsFine so_far → IsFine (init_set makes levels grounds scene subject entry name init so_far)
          set_to name (inits.Expr expr) so_far fine =
              given subject entry name (fine_datum grounds scene so_far.objects (field_kind (field_in_line grounds.facts entry name)) expr)
              (noted so_far (unmade_faults grounds scene expr)) good (earliest_in so_far.first (unmade_faults grounds scene expr) fine (unmade grounds scene there expr))
          set_to name (inits.New creation) so_far fine =
              given subject entry name (new_datum levels grounds.facts creation so_far) (new_made makes grounds scene (full_name subject.name name) None creation so_far)
              good (new (full_name subject.name name) None creation so_far fine)

          part : (set : Set) (so_far : Construction) → IsFine so_far → IsFine (part_run makes levels grounds scene subject entry set so_far)
          part (sets.Field name init) so_far fine = set_to name.text init so_far fine
          part (sets.Super at some) so_far fine = fine

          parts : (some : List Set) (so_far : Construction) → IsFine so_far → IsFine (parts_run makes levels grounds scene subject entry some so_far)
          parts [] so_far fine = fine
          parts (set ∷ more) so_far fine =
              parts more (part_run makes levels grounds scene subject entry set so_far) (part set so_far fine)

      module _ (subject : Subject) (good : Good subject.place.decl) where
        read_in : (scene : Scenery) → Good scene.decl → (some : Option (List Expr)) → AllIn Good (read_faults grounds scene some)
        read_in scene there None = nil Good
        read_in scene there (Some some) = all_unmade grounds scene there some

        passing : (objects : List MadeObject) (entry : ℕ) (values : List (Option Datum)) (constructor : Member)
            → AllIn Good (passing_faults grounds objects subject.place entry values constructor)
        passing objects entry values constructor =
            joined Good _ _ (here Good subject.place.decl good subject.place.at
            (fault_if (has_foreign_from grounds objects values 0 (constructor_formals constructor)) faults.NotInDomain))
            (joined Good _ _ (here Good subject.place.decl good subject.place.at
            (fault_if (is_wrong_super (wants_above grounds.facts entry) (constructor_sets constructor)) faults.WrongCount))
            (read_in (constructor_scene grounds.facts entry constructor values) (bodies entry) (super_arguments (constructor_sets constructor))))

        body : (entry : ℕ) (values : List (Option Datum)) (constructor : Member) (so_far : Construction) → IsFine so_far
            → IsFine (body_run makes levels grounds subject entry values constructor so_far)
        body entry values constructor so_far fine =
            parts (constructor_scene grounds.facts entry constructor values) (bodies entry) subject good entry (constructor_sets constructor)
            (noted so_far (passing_faults grounds so_far.objects subject.place entry values constructor))
            (earliest_in so_far.first (passing_faults grounds so_far.objects subject.place entry values constructor) fine (passing so_far.objects entry values constructor))

        builtin : (number : ℕ) (values : List (Option Datum)) (so_far : Construction) → IsFine so_far → IsFine (builtin_run subject number values so_far)
        builtin number values so_far fine = by (number == 2) (number == 3)
          where
            by : (two three : Bool)
                → IsFine (if two then number_set subject (codes "capacity") values 0 so_far
                else (if three then number_set subject (codes "high") values 2
                (number_set subject (codes "low") values 1 (number_set subject (codes "initial") values 0 so_far)) else so_far))
            by true three = fine
            by false true = fine
            by false false = fine

        class : (meaning : Meaning) (values : List (Option Datum)) (so_far : Construction) → IsFine so_far → IsFine (class_run makes levels grounds subject meaning values so_far)
        class (meanings.BuiltIn number) values so_far fine = builtin number values so_far fine
        class (meanings.Entry entry) values so_far fine = by (constructor_at grounds.facts.names grounds.facts.program entry)
          where
            by : (o : Option Member) → IsFine (option_map_or (λ constructor. body_run makes levels grounds subject entry values constructor so_far) o so_far)
            by None = fine
            by (Some constructor) = body entry values constructor so_far fine

        classes : (some : List Passed) (so_far : Construction) → IsFine so_far → IsFine (classes_run makes levels grounds subject some so_far)
        classes [] so_far fine = fine
        classes (passed ∷ more) so_far fine =
            classes more (class_run makes levels grounds subject passed.class passed.values so_far) (class passed.class passed.values so_far fine)

        finishing : (line : List Meaning) (fields : List FieldValue) → AllIn Good (finished_faults grounds.facts subject.place line fields)
        finishing line fields =
            joined Good _ _ (here Good subject.place.decl good subject.place.at (fault_if (not (are_all_set grounds.facts fields line)) faults.WrongCount))
            (here Good subject.place.decl good subject.place.at (fault_if (list_any (is_class_out fields) line) faults.NotInDomain))

        object : (asked : Asked) (so_far : Construction) → IsFine so_far → IsFine (object_run makes levels grounds subject asked so_far)
        object asked so_far fine =
            let run : Construction = classes_run makes levels grounds subject (passed_down grounds so_far.objects asked.class asked.values) so_far in
            earliest_in run.first (finished_faults grounds.facts subject.place (line_up grounds.facts asked.class) (fields_of run.objects subject.number))
            (classes (passed_down grounds so_far.objects asked.class asked.values) so_far fine)
            (finishing (line_up grounds.facts asked.class) (fields_of run.objects subject.number))

      made : (asked : Asked) → Good asked.place.decl → (so_far : Construction) → IsFine so_far → IsFine (object_made makes levels grounds asked so_far)
      made asked good so_far fine =
          object (record { name = asked.name; place = asked.place; number = length so_far.objects }) good asked (object_begun so_far asked) fine

    made_step : (levels : ℕ) → MakesFine (made_by levels grounds) → (asked : Asked) → Good asked.place.decl → (so_far : Construction) → IsFine so_far → (b : Bool)
        → IsFine (if b then object_made (made_by levels grounds) levels grounds asked so_far else too_many so_far asked.place)
    made_step levels rest asked good so_far fine true = made (made_by levels grounds) rest levels asked good so_far fine
    made_step levels rest asked good so_far fine false = full so_far asked.place good fine

    made_fine : (levels : ℕ) → MakesFine (made_by levels grounds)
    unfolding made_by
    made_fine zero asked good so_far fine = nested so_far asked.place good fine
    made_fine (suc levels) asked good so_far fine = made_step levels (made_fine levels) asked good so_far fine (has_room so_far)

  -- ---- declarations

  -- what is wrong so far
  abbrev IsFineProgress : Progress → Type 0
  IsFineProgress progress = FirstIn progress.first × IsFine progress.so_far

  module _ (facts : Facts) (bodies : (entry : ℕ) → Good (body_decl facts.names entry)) (decl : ℕ) (good : Good decl) where
    object_fine : (variable : Variable) (creation : Creation) (progress : Progress) → IsFineProgress progress → IsFineProgress (object_declared facts decl variable creation progress)
    object_fine variable creation progress fine = (
      fine.0,
      new (progress_grounds facts progress) bodies (made_by most_levels (progress_grounds facts progress))
          (made_fine (progress_grounds facts progress) bodies most_levels) most_levels (bare_scene decl) good variable.name.text
          (named_number false facts.names variable.name.text) creation progress.so_far fine.1,
    )

    settings_fine : (creation : Creation) (progress : Progress) → IsFineProgress progress → IsFineProgress (settings_declared facts decl creation progress)
    settings_fine creation progress fine =
        let grounds = progress_grounds facts progress in (
          earliest_in progress.first (setting_faults_of grounds (bare_scene decl) progress.so_far.objects creation) fine.0
              (joined Good _ _ (all_unmade grounds (bare_scene decl) good creation.arguments)
              (here Good decl good creation.class.at
              (fault_if (are_wrong_settings (setting_data grounds (bare_scene decl) progress.so_far.objects creation)) faults.NotInDomain))),
          fine.1,
        )

    new_fine : (variable : Variable) (creation : Creation) (progress : Progress) → IsFineProgress progress → (b : Bool)
        → IsFineProgress (if b then settings_declared facts decl creation progress else object_declared facts decl variable creation progress)
    new_fine variable creation progress fine true = settings_fine creation progress fine
    new_fine variable creation progress fine false = object_fine variable creation progress fine

    init_fine : (variable : Variable) (init : Option Init) (progress : Progress) → IsFineProgress progress → IsFineProgress (init_declared facts decl variable init progress)
    init_fine variable (Some (inits.New creation)) progress fine = new_fine variable creation progress fine (is_config_sort (sort_of_variable variable))
    init_fine variable (Some (inits.Expr expr)) progress fine = fine
    init_fine variable None progress fine = fine

    one_fine : (one : Decl) (progress : Progress) → IsFineProgress progress → IsFineProgress (one_declared facts decl one progress)
    one_fine (decls.Variable variable) progress fine = init_fine variable variable.init progress fine
    one_fine (decls.Include at file file_at) progress fine = fine
    one_fine (decls.Enum at name members_at some) progress fine = fine
    one_fine (decls.Typedef at declared name) progress fine = fine
    one_fine (decls.Forward at name) progress fine = fine
    one_fine (decls.Class at name parent some) progress fine = fine
    one_fine (decls.Rule class predicate some) progress fine = fine
    one_fine (decls.Call call) progress fine = fine
    one_fine (decls.Ask asks) progress fine = fine

  module _ (facts : Facts) (names : facts.names ≡ scope_names facts.program) (good : (number : ℕ) → number < length facts.program → Good number) where
    body_good : 0 < length facts.program → (entry : ℕ) → Good (body_decl facts.names entry)
    body_good some entry = by (option_and_then (λ (declared : Declared). named_number true facts.names declared.name) (slice_get facts.names entry))
      where
        last : (body : ℕ) (o : Option Declared) → slice_get facts.names body ≡ o → Good (option_map_or (λ (declared : Declared). declared.place.decl) o 0)
        last body None there = good 0 some
        last body (Some declared) there =
            let stands = declared_in facts.program body declared (sym (ap (λ list. slice_get list body) names) ∙ there) in
            good declared.place.decl (slice_get_within facts.program declared.place.decl stands.decl stands.there)

        by : (o : Option ℕ) → Good (option_map_or (λ (declared : Declared). declared.place.decl) (option_and_then (slice_get facts.names) o) 0)
        by None = good 0 some
        by (Some body) = last body (slice_get facts.names body) refl

    all_fine : (number : ℕ) (some : List Decl) → number + length some ≡ length facts.program → (progress : Progress) → IsFineProgress progress
        → IsFineProgress (all_declared facts number some progress)
    all_fine number [] is progress fine = fine
    all_fine number (decl ∷ more) is progress fine =
        all_fine (number + 1) more (omega (arith, is)) (one_declared facts number decl progress)
        (one_fine facts (body_good (omega (arith, is))) number (good number (omega (arith, is))) decl progress fine)

    last_fine : IsFineProgress (last_progress facts)
    unfolding last_progress
    last_fine = all_fine 0 facts.program (omega arith) (first_progress facts) (earliest_in None (written_faults facts) none_in (written_in Good facts good), none_in)

    progress_by : (progress : Progress) → IsFineProgress progress → (o : Option Fault) → progress.so_far.first ≡ o
        → FirstIn (option_map_or (λ fault. earlier_fault progress.first fault) o progress.first)
    progress_by progress fine None is = fine.0
    progress_by progress fine (Some fault) is =
        earliest_in progress.first (fault ∷ []) fine.0
        (record { all = All-cons (λ (one : Fault). Good one.place.decl) fault [] (fine.1 fault is) (All-nil (λ (one : Fault). Good one.place.decl)) })

    pub progress_in : FirstIn (progress_fault (last_progress facts))
    progress_in = progress_by (last_progress facts) last_fine (last_progress facts).so_far.first refl
