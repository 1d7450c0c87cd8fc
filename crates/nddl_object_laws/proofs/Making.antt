-- What comes of a `new`, at so many levels.
use Rattle.std.proofs.Common.{◌≡◌, ℕ, zero, suc, ◌≤◌, Bool, true, false, List, [], ◌∷◌, ◌++◌, length, refl, sym, ◌∙◌, ap, subst, append_assoc, append-nil}
use Rattle.std.specs.Prelude.{Option, Some, None, ◌&&◌, not, is_some, option_and_then, if◌then◌else◌}
use Rattle.std.specs.List.{cons_option, flat_map}
use Rattle.std.specs.Option.{option_map_or}
use Rattle.nddl_symbols.specs.declared.fault.Fault.{Fault}
use Rattle.nddl_symbols.specs.declared.place.Place.{Place}
use Rattle.nddl_symbols.specs.declared.scope.Meaning.{Meaning}
use Rattle.nddl_symbols.specs.Finding.{earliest_fault}
use Rattle.nddl_hierarchy.specs.Facts.{Facts}
use Rattle.nddl_constructors.specs.Wants.{class_wants}
use Rattle.nddl_construction.specs.declared.made.Datum.{Datum}
use Rattle.nddl_construction.specs.declared.made.FieldValue.{FieldValue}
use Rattle.nddl_construction.specs.declared.made.MadeObject.{MadeObject}
use Rattle.nddl_construction.specs.declared.passing.Passed.{Passed}
use Rattle.nddl_construction.specs.Classes.{line_up}
use Rattle.nddl_construction.specs.Passing.{passed_down}
use Rattle.nddl_construction.specs.Reading.{all_unmade_faults, fine_data}
use Rattle.nddl_construction.specs.Scene.{Grounds}
use Rattle.nddl_objects.specs.Construction.{Asked, Construction, Subject, has_room, noted, too_deep, too_many, too_nested}
use Rattle.nddl_objects.specs.Finished.{finished_faults}
use Rattle.nddl_objects.specs.Made.{Makes, asked_object, classes_run, finished, made_by, new_made, object_made, object_run}
use Rattle.nddl_object_laws.specs.Carried.{Assignment, Carried, Carries, New, Numbered, There, all_assignments, carried_by, grounds_there, has_levels, has_place, new_class, new_passed, new_place, new_values, numbered_carried, object_steps}
use Rattle.nddl_object_laws.specs.Made.{assigned_values, carried_object, carried_objects, new_object_with}
use Rattle.nddl_object_laws.specs.Wrong.{carried_faults, all_passed_faults, is_too_deep, is_too_many, made_object_faults, new_object_faults, steps_faults}
use Rattle.nddl_object_laws.proofs.Counting.{Agree, carried_more, carried_none, get_at, keep_more}
use Rattle.nddl_object_laws.proofs.Least.{last_but_one}
use Rattle.nddl_object_laws.proofs.Noting.{limits_noted, limits_state, noted_state, state}
use Rattle.nddl_object_laws.proofs.Reading.{AreBelow, IsClosed, Keep, data_below, data_same, down_below, down_same}
use Rattle.nddl_object_laws.proofs.Steps.{ComesOf, Midway, building, classes_is, ran}

made_zero : (grounds : Grounds) (asked : Asked) (so_far : Construction) → made_by zero grounds asked so_far ≡ too_nested so_far asked.place
unfolding made_by
made_zero grounds asked so_far = refl

made_suc : (levels : ℕ) (grounds : Grounds) (asked : Asked) (so_far : Construction)
    → made_by (suc levels) grounds asked so_far
    ≡ (if has_room so_far then object_made (made_by levels grounds) levels grounds asked so_far else too_many so_far asked.place)
unfolding made_by
made_suc levels grounds asked so_far = refl

module _ (facts : Facts) (there : There) (closed : IsClosed there) (all : List MadeObject) where
  abbrev grounds : Grounds
  grounds = grounds_there facts there

  module _ (levels : ℕ) (objects : List MadeObject) (met : Option Fault) (done : List Carried) (new : New) where
    abbrev one : Carried
    one = record { there = there; levels = levels; number = length objects; new = new }

    abbrev unmade : List Fault
    unmade = all_unmade_faults grounds new.scene new.creation.arguments

    -- its arguments are read
    abbrev read_state : Construction
    read_state = state facts objects (earliest_fault met unmade) done

    -- these have been carried out
    abbrev reached : List Carried → Construction
    reached some =
        state facts (objects ++ carried_objects facts some) (earliest_fault met (flat_map (carried_faults facts all) some)) (done ++ some)

    abbrev asked : Meaning → Asked
    asked class = asked_object grounds new.scene objects new.name new.entry new.creation class

    read_first : (makes : Makes)
        → new_made makes grounds new.scene new.name new.entry new.creation (state facts objects met done)
        ≡ option_map_or (λ class. makes (asked class) read_state) (new_class facts new) read_state
    read_first makes =
        ap (λ (read : Construction). option_map_or (λ class. makes (asked class) read) (new_class facts new) read)
        (noted_state facts objects met done unmade)

    limits_are : (found : Option Meaning) (room deep : Bool) → new_class facts new ≡ found → has_place (length objects) ≡ room
        → has_levels levels ≡ deep
        → limits_noted (is_some found && not room) (is_some found && not deep) (new_place new) read_state
        ≡ limits_noted (is_too_many facts one) (is_too_deep facts one) (new_place new) read_state
    limits_are found room deep is has may =
        sym (λ i. limits_noted (is_some (is i) && not (has i)) (is_some (is i) && not (may i)) (new_place new) read_state)

    -- it makes no object
    alone : (so_far : Construction) → carried_by levels facts there (length objects) new ≡ one ∷ [] → carried_object facts one ≡ None
        → made_object_faults facts there all levels (length objects) new ≡ []
        → so_far ≡ limits_noted (is_too_many facts one) (is_too_deep facts one) (new_place new) read_state
        → so_far ≡ reached (carried_by levels facts there (length objects) new)
    alone so_far are none fine noted_so =
        let making : List Fault = made_object_faults facts there all levels (length objects) new in
        let with_none : objects ≡ objects ++ carried_objects facts (one ∷ []) =
        sym (ap (λ found. objects ++ cons_option found []) none ∙ append-nil objects) in
        let with_args : unmade ≡ (unmade ++ making) ++ [] =
        sym (append-nil (unmade ++ making) ∙ (ap (λ some. unmade ++ some) fine ∙ append-nil unmade)) in
        noted_so
        ∙ (limits_state facts objects (earliest_fault met unmade) done one
        ∙ ((λ i. state facts (with_none i) (earliest_fault met (with_args i)) (done ++ one ∷ []))
        ∙ ap reached (sym are)))

  -- too deep
  module _ (objects : List MadeObject) (met : Option Fault) (done : List Carried) (new : New) where
    abbrev read_deep : Construction
    read_deep = read_state zero objects met done new

    abbrev asked_deep : Meaning → Asked
    asked_deep class = asked zero objects met done new class

    nested_limits : (room : Bool)
        → too_deep (if room then read_deep else too_many read_deep (new_place new)) (new_place new)
        ≡ limits_noted (not room) true (new_place new) read_deep
    nested_limits true = refl
    nested_limits false = refl

    deep_by : (found : Option Meaning) → new_class facts new ≡ found
        → option_map_or (λ class. made_by zero grounds (asked_deep class) read_deep) found read_deep
        ≡ reached zero objects met done new (carried_by zero facts there (length objects) new)
    deep_by None is =
        alone zero objects met done new read_deep (carried_none facts there (length objects) new) refl refl
        (limits_are zero objects met done new None (has_place (length objects)) false is refl refl)
    deep_by (Some class) is =
        alone zero objects met done new (made_by zero grounds (asked_deep class) read_deep) (carried_none facts there (length objects) new) refl refl
        (made_zero grounds (asked_deep class) read_deep
        ∙ (nested_limits (has_place (length objects))
        ∙ limits_are zero objects met done new (Some class) (has_place (length objects)) false is refl refl))

    comes_deepest : new_made (made_by zero grounds) grounds new.scene new.name new.entry new.creation (state facts objects met done)
        ≡ reached zero objects met done new (carried_by zero facts there (length objects) new)
    comes_deepest = read_first zero objects met done new (made_by zero grounds) ∙ deep_by (new_class facts new) refl

  module _ (levels : ℕ) (inner : ComesOf facts there all levels) (objects : List MadeObject) (met : Option Fault) (done : List Carried) (new : New)
      (long : length there.objects ≤ length objects) (keep : Keep there.objects objects) (are : AreBelow (length there.objects) new.scene.values)
      (agree : Agree (objects ++ carried_objects facts (carried_by (suc levels) facts there (length objects) new)) all) where
    abbrev here : Carried
    here = one (suc levels) objects met done new

    abbrev read_here : Construction
    read_here = read_state (suc levels) objects met done new

    abbrev asked_here : Meaning → Asked
    asked_here class = asked (suc levels) objects met done new class

    abbrev reached_here : List Carried → Construction
    reached_here some = reached (suc levels) objects met done new some

    abbrev carries : Carries
    carries = carried_by levels facts there

    abbrev steps_of : Meaning → List Numbered
    steps_of class = object_steps facts there carries (length objects) new class

    abbrev object_of : Meaning → MadeObject
    object_of class = new_object_with new class (assigned_values facts there levels (steps_of class))

    carried_is : (found : Option Meaning) (room : Bool) → new_class facts new ≡ found → has_place (length objects) ≡ room
        → carried_by (suc levels) facts there (length objects) new
        ≡ here ∷ numbered_carried carries new.name (option_map_or (λ class. if room then steps_of class else []) found [])
    carried_is found room is has =
        carried_more levels facts there (length objects) new
        ∙ (λ i. here ∷ numbered_carried carries new.name (option_map_or (λ class. if has i then steps_of class else []) (is i) []))

    object_is : (found : Option Meaning) (room : Bool) → new_class facts new ≡ found → has_place (length objects) ≡ room
        → carried_object facts here ≡ option_and_then (λ class. if room then Some (object_of class) else None) found
    object_is found room is has = λ i. option_and_then (λ class. if has i then Some (object_of class) else None) (is i)

    making_is : (found : Option Meaning) (room : Bool) → new_class facts new ≡ found → has_place (length objects) ≡ room
        → made_object_faults facts there all (suc levels) (length objects) new
        ≡ option_map_or (λ class. if room then new_object_faults facts there all levels (length objects) new class else []) found []
    making_is found room is has =
        λ i. option_map_or (λ class. if has i then new_object_faults facts there all levels (length objects) new class else []) (is i) []

    -- no class
    without_class : new_class facts new ≡ None → read_here ≡ reached_here (carried_by (suc levels) facts there (length objects) new)
    without_class is =
        alone (suc levels) objects met done new read_here (carried_is None (has_place (length objects)) is refl)
        (object_is None (has_place (length objects)) is refl) (making_is None (has_place (length objects)) is refl)
        (limits_are (suc levels) objects met done new None (has_place (length objects)) true is refl refl)

    -- no room
    without_room : (class : Meaning) → new_class facts new ≡ Some class → has_place (length objects) ≡ false
        → made_by (suc levels) grounds (asked_here class) read_here ≡ reached_here (carried_by (suc levels) facts there (length objects) new)
    without_room class is full =
        alone (suc levels) objects met done new (made_by (suc levels) grounds (asked_here class) read_here) (carried_is (Some class) false is full)
        (object_is (Some class) false is full) (making_is (Some class) false is full)
        (made_suc levels grounds (asked_here class) read_here
        ∙ (ap (λ (room : Bool). if room then object_made (made_by levels grounds) levels grounds (asked_here class) read_here else too_many read_here (new_place new)) full
        ∙ limits_are (suc levels) objects met done new (Some class) false true is full refl))

    -- an object
    module _ (class : Meaning) (is : new_class facts new ≡ Some class) (room : has_place (length objects) ≡ true) where
      abbrev place : Place
      place = new_place new

      abbrev subject : Subject
      subject = record { name = new.name; place = place; number = length objects }

      abbrev passed : List Passed
      passed = new_passed facts there new class

      abbrev some : List Assignment
      some = all_assignments facts passed

      abbrev steps : List Numbered
      steps = steps_of class

      abbrev nested : List Carried
      nested = numbered_carried carries new.name steps

      abbrev own_values : List FieldValue
      own_values = assigned_values facts there levels steps

      abbrev begun : Midway
      begun = record { fields = []; nested = []; met = earliest_fault met (unmade (suc levels) objects met done new); done = done ++ here ∷ [] }

      abbrev class_wrong : List Fault
      class_wrong = all_passed_faults facts there place passed

      abbrev ended : Midway
      ended = ran facts there all levels carries new begun steps class_wrong

      abbrev built : Midway → Construction
      built mid = building facts there all levels carries new objects class mid

      abbrev last_wrong : List Fault
      last_wrong = finished_faults facts place (line_up facts class) own_values

      carried_out : carried_by (suc levels) facts there (length objects) new ≡ here ∷ nested
      carried_out = carried_is (Some class) true is room

      -- it is there, and has been carried out
      begins : object_made (made_by levels grounds) levels grounds (asked_here class) read_here
          ≡ object_run (made_by levels grounds) levels grounds subject (asked_here class) (built begun)
      begins =
          ap (object_made (made_by levels grounds) levels grounds (asked_here class))
          (limits_are (suc levels) objects met done new (Some class) true true is room refl
          ∙ limits_state facts objects (earliest_fault met (unmade (suc levels) objects met done new)) done here)

      passed_is : passed_down grounds (objects ++ new_object_with new class [] ∷ []) class
          (fine_data grounds new.scene objects (class_wants facts class) 0 new.creation.arguments) ≡ passed
      passed_is =
          ap (λ (values : List (Option Datum)). passed_down grounds (objects ++ new_object_with new class [] ∷ []) class values)
          (data_same facts there closed objects keep new.scene (class_wants facts class) 0 new.creation.arguments are)
          ∙ down_same facts there closed (objects ++ new_object_with new class [] ∷ [])
          (keep_more there.objects objects (new_object_with new class [] ∷ []) long keep) class (new_values facts there new class)
          (data_below facts there closed new.scene (class_wants facts class) 0 new.creation.arguments are)

      agrees : Agree (objects ++ new_object_with new class own_values ∷ carried_objects facts nested) all
      agrees =
          let A : List MadeObject → Type 0 = λ more. Agree (objects ++ more) all in
          subst A (ap (carried_objects facts) carried_out
          ∙ ap (λ found. cons_option found (carried_objects facts nested)) (object_is (Some class) true is room)) agree

      runs : classes_run (made_by levels grounds) levels grounds subject passed (built begun) ≡ built ended
      runs =
          classes_is facts there closed all levels inner objects long keep new class passed begun
          (down_below facts there closed class (new_values facts there new class)
          (data_below facts there closed new.scene (class_wants facts class) 0 new.creation.arguments are)) agrees

      finishes : finished facts subject class (built ended)
          ≡ state facts (objects ++ new_object_with new class own_values ∷ carried_objects facts nested) (earliest_fault ended.met last_wrong) ended.done
      finishes =
          ap (λ (found : Option MadeObject). noted (built ended) (finished_faults facts place (line_up facts class)
          (option_map_or (λ (object : MadeObject). object.fields) found [])))
          (get_at objects (new_object_with new class own_values) (carried_objects facts nested))
          ∙ noted_state facts (objects ++ new_object_with new class own_values ∷ carried_objects facts nested) ended.met ended.done last_wrong

      gathers : state facts (objects ++ new_object_with new class own_values ∷ carried_objects facts nested) (earliest_fault ended.met last_wrong) ended.done
          ≡ reached_here (here ∷ nested)
      gathers =
          let wrong : Carried → List Fault = λ carried. carried_faults facts all carried in
          let args : List Fault = unmade (suc levels) objects met done new in
          let set_wrong : List Fault = steps_faults facts there all place levels steps in
          let there_is : objects ++ new_object_with new class own_values ∷ carried_objects facts nested ≡ objects ++ carried_objects facts (here ∷ nested) =
          sym (ap (λ found. objects ++ cons_option found (carried_objects facts nested)) (object_is (Some class) true is room)) in
          let all_wrong : earliest_fault ended.met last_wrong ≡ earliest_fault met (flat_map wrong (here ∷ nested)) =
          last_but_one met args class_wrong set_wrong (flat_map wrong nested) last_wrong
          ∙ sym (ap (λ (making : List Fault). earliest_fault met ((args ++ making) ++ flat_map wrong nested)) (making_is (Some class) true is room)) in
          λ i. state facts (there_is i) (all_wrong i) (append_assoc done (here ∷ []) nested i)

      with_object : made_by (suc levels) grounds (asked_here class) read_here ≡ reached_here (carried_by (suc levels) facts there (length objects) new)
      with_object =
          made_suc levels grounds (asked_here class) read_here
          ∙ (ap (λ (b : Bool). if b then object_made (made_by levels grounds) levels grounds (asked_here class) read_here else too_many read_here (new_place new)) room
          ∙ (begins
          ∙ (ap (λ (some_passed : List Passed). finished facts subject class (classes_run (made_by levels grounds) levels grounds subject some_passed (built begun))) passed_is
          ∙ (ap (finished facts subject class) runs
          ∙ (finishes
          ∙ (gathers ∙ ap reached_here (sym carried_out)))))))

    comes_deeper : new_made (made_by (suc levels) grounds) grounds new.scene new.name new.entry new.creation (state facts objects met done)
        ≡ reached_here (carried_by (suc levels) facts there (length objects) new)
    comes_deeper = read_first (suc levels) objects met done new (made_by (suc levels) grounds) ∙ by (new_class facts new) refl
      where
        by_room : (class : Meaning) → new_class facts new ≡ Some class → (room : Bool) → has_place (length objects) ≡ room
            → made_by (suc levels) grounds (asked_here class) read_here ≡ reached_here (carried_by (suc levels) facts there (length objects) new)
        by_room class is true room = with_object class is room
        by_room class is false full = without_room class is full

        by : (found : Option Meaning) → new_class facts new ≡ found
            → option_map_or (λ class. made_by (suc levels) grounds (asked_here class) read_here) found read_here
            ≡ reached_here (carried_by (suc levels) facts there (length objects) new)
        by None is = without_class is
        by (Some class) is = by_room class is (has_place (length objects)) refl

  -- what comes of a `new` is what is stated
  pub comes : (levels : ℕ) → ComesOf facts there all levels
  comes zero = λ objects met done new long keep are agree. comes_deepest objects met done new
  comes (suc levels) = λ objects met done new long keep are agree.
      comes_deeper levels (comes levels) objects met done new long keep are agree
