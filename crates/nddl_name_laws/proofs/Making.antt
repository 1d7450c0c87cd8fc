-- What making objects leaves as it was.
use Rattle.std.proofs.Common.{◌≡◌, ℕ, zero, suc, ◌==◌, Bool, true, false, List, [], ◌∷◌, length, refl, sym, ◌∙◌, ap}
use Rattle.std.specs.Prelude.{Option, Some, None, not, slice_get, slice_set, codes, if◌then◌else◌}
use Rattle.std.specs.Option.{option_map_or}
use Rattle.std.proofs.lemmas.Bool.Decides.{Decides-eqb}
use Rattle.std.proofs.lemmas.Option.{same_Some, none-some, slice_get_within}
use Rattle.eu_forest.proofs.Lists.{get-append_last, get-append_left, get-set_other, get-set_same}
use Rattle.model_core.specs.Naming.{full_name}
use Rattle.nddl_ast.specs.declared.declaration.Member.{Member}
use Rattle.nddl_ast.specs.declared.declaration.Set.{Set}
use Rattle.nddl_ast.specs.declared.declaration.Set.TheVariants as sets
use Rattle.nddl_ast.specs.declared.expression.Creation.{Creation}
use Rattle.nddl_ast.specs.declared.expression.Init.{Init}
use Rattle.nddl_ast.specs.declared.expression.Init.TheVariants as inits
use Rattle.nddl_ast.specs.declared.kind.TextKind.{TextKind}
use Rattle.nddl_ast.specs.declared.kind.TextKind.TheVariants as faults
use Rattle.nddl_symbols.specs.declared.fault.Fault.{Fault}
use Rattle.nddl_symbols.specs.declared.place.Place.{Place}
use Rattle.nddl_symbols.specs.declared.scope.Meaning.{Meaning}
use Rattle.nddl_symbols.specs.declared.scope.Meaning.TheVariants as meanings
use Rattle.nddl_symbols.specs.Finding.{earlier_fault, earliest_fault, faults_here, is_fault_before}
use Rattle.nddl_symbols.specs.Scope.{fault_if}
use Rattle.nddl_constructors.specs.Bodies.{field_in_line, field_kind}
use Rattle.nddl_construction.specs.declared.made.Datum.{Datum}
use Rattle.nddl_construction.specs.declared.made.MadeObject.{MadeObject}
use Rattle.nddl_construction.specs.declared.passing.Passed.{Passed}
use Rattle.nddl_construction.specs.Classes.{constructor_at, constructor_sets, line_up, made_class}
use Rattle.nddl_construction.specs.Passing.{constructor_scene, passed_down, passing_faults}
use Rattle.nddl_construction.specs.Reading.{all_unmade_faults, datum_at, fine_datum, unmade_faults}
use Rattle.nddl_construction.specs.Scene.{Grounds, Scenery}
use Rattle.nddl_objects.specs.Construction.{Asked, Construction, Subject, counted, field_added, first_of_kind, has_room, noted, object_begun, too_deep, too_many, too_nested, with_objects, with_set}
use Rattle.nddl_objects.specs.Finished.{finished_faults}
use Rattle.nddl_objects.specs.Made.{Makes, arguments_read, asked_object, body_run, builtin_run, class_run, classes_run, field_given, fields_of, finished, init_set, made_by, new_datum, new_made, number_set, object_made, object_run, outside_faults, parts_run}

-- ---- what is found first

pub earlier_some : (first : Option Fault) (fault : Fault) → earlier_fault first fault ≡ None → ⊥
earlier_some None fault is = none-some fault (sym is)
earlier_some (Some found) fault is = by (is_fault_before fault found) is
  where
    by : (b : Bool) → (if b then Some fault else Some found) ≡ None → ⊥
    by true is = none-some fault (sym is)
    by false is = none-some found (sym is)

-- where there is no earliest, there was none before, and there are no others
pub earliest_none : (first : Option Fault) (some : List Fault) → earliest_fault first some ≡ None → (first ≡ None) × (some ≡ [])
earliest_none first [] is = (is, refl)
earliest_none first (fault ∷ more) is = absurd (earlier_some first fault (earliest_none (earlier_fault first fault) more is).0)

-- ---- what stays

-- the object of this number is there, of the class of this one
abbrev pub KeepsClass : List MadeObject → ℕ → Meaning → Type 0
KeepsClass objects number class = (found : MadeObject) × (slice_get objects number ≡ Some found) × (found.class ≡ class)

-- where there were too many, that is told
abbrev pub IsFullTold : Construction → Type 0
IsFullTold so_far = so_far.is_full ≡ true → so_far.first ≡ None → ⊥

-- what was wrong still is, and each object that was made is there, of its class
pub record GoesOn (old new : Construction) : Type 0 where
  pub told : new.first ≡ None → old.first ≡ None
  pub kept : (number : ℕ) (object : MadeObject) → slice_get old.objects number ≡ Some object → KeepsClass new.objects number object.class
  pub full : IsFullTold old → IsFullTold new

pub goes_same : (so_far : Construction) → GoesOn so_far so_far
goes_same so_far = record { told = λ is. is; kept = λ number object at. (object, at, refl); full = λ told. told }

pub goes_then : (old mid new : Construction) → GoesOn old mid → GoesOn mid new → GoesOn old new
goes_then old mid new first second = record {
  told = λ is. first.told (second.told is);
  kept = λ number object at.
      let one = first.kept number object at in
      let two = second.kept number one.0 one.1 in
      (two.0, two.1, two.2 ∙ one.2);
  full = λ told. second.full (first.full told);
}

pub goes_noted : (so_far : Construction) (some : List Fault) → GoesOn so_far (noted so_far some)
goes_noted so_far some = record {
  told = λ is. (earliest_none so_far.first some is).0;
  kept = λ number object at. (object, at, refl);
  full = λ told full is. told full (earliest_none so_far.first some is).0;
}

-- ---- fields

set_kept : (objects : List MadeObject) (place : ℕ) (old new : MadeObject) → slice_get objects place ≡ Some old → new.class ≡ old.class
    → (number : ℕ) (object : MadeObject) → slice_get objects number ≡ Some object → KeepsClass (slice_set objects place new) number object.class
set_kept objects place old new there same number object at = by (number == place) refl
  where
    by : (b : Bool) → (number == place) ≡ b → KeepsClass (slice_set objects place new) number object.class
    by true is =
        let e : number ≡ place = (Decides-eqb number place).0 is in
        let within = slice_get_within objects place old there in
        let one : old ≡ object = same_Some old object (sym there ∙ (ap (slice_get objects) (sym e) ∙ at)) in
        (new, ap (slice_get (slice_set objects place new)) e ∙ get-set_same objects place new within, same ∙ ap (λ (o : MadeObject). o.class) one)
    by false is = (
      object,
      get-set_other objects place number new (λ e. let t : true ≡ false = sym ((Decides-eqb number place).1 e) ∙ is in cc) ∙ at,
      refl,
    )

goes_set : (so_far : Construction) (subject : Subject) (name : List ℕ) (datum : Option Datum) → GoesOn so_far (with_set so_far subject name datum)
goes_set so_far subject name datum = by (slice_get so_far.objects subject.number) refl
  where
    by : (o : Option MadeObject) → slice_get so_far.objects subject.number ≡ o
        → GoesOn so_far (with_objects so_far (option_map_or (λ (object : MadeObject).
        slice_set so_far.objects subject.number (field_added object (record { name = name; value = datum }))) o so_far.objects))
    by None at = record { told = λ is. is; kept = λ number object there. (object, there, refl); full = λ told. told }
    by (Some old) at = record {
      told = λ is. is;
      kept = λ number object there.
          set_kept so_far.objects subject.number old (field_added old (record { name = name; value = datum })) at refl number object there;
      full = λ told. told;
    }

goes_given : (grounds : Grounds) (subject : Subject) (entry : ℕ) (name : List ℕ) (datum : Option Datum) (so_far : Construction)
    → GoesOn so_far (field_given grounds subject entry name datum so_far)
goes_given grounds subject entry name datum so_far =
    let some = outside_faults grounds so_far.objects subject entry name datum in
    let mid = noted so_far some in
    goes_then so_far mid (with_set mid subject name datum) (goes_noted so_far some) (goes_set mid subject name datum)

goes_number : (subject : Subject) (name : List ℕ) (values : List (Option Datum)) (number : ℕ) (so_far : Construction)
    → GoesOn so_far (number_set subject name values number so_far)
goes_number subject name values number so_far = goes_set so_far subject name (datum_at values number)

goes_builtin : (subject : Subject) (number : ℕ) (values : List (Option Datum)) (so_far : Construction) → GoesOn so_far (builtin_run subject number values so_far)
goes_builtin subject number values so_far = by (number == 2) (number == 3)
  where
    by : (two three : Bool)
        → GoesOn so_far (if two then number_set subject (codes "capacity") values 0 so_far
        else (if three
        then number_set subject (codes "high") values 2
        (number_set subject (codes "low") values 1 (number_set subject (codes "initial") values 0 so_far))
        else so_far))
    by true three = goes_number subject (codes "capacity") values 0 so_far
    by false true =
        let one = number_set subject (codes "initial") values 0 so_far in
        let two = number_set subject (codes "low") values 1 one in
        goes_then so_far one (number_set subject (codes "high") values 2 two) (goes_number subject (codes "initial") values 0 so_far)
        (goes_then one two (number_set subject (codes "high") values 2 two) (goes_number subject (codes "low") values 1 one)
        (goes_number subject (codes "high") values 2 two))
    by false false = goes_same so_far

-- ---- objects

-- whatever object is asked for
abbrev pub MakesOn : Makes → Type 0
MakesOn makes = (asked : Asked) (so_far : Construction) → GoesOn so_far (makes asked so_far)

module _ (makes : Makes) (on : MakesOn makes) where
  pub goes_new : (grounds : Grounds) (scene : Scenery) (name : List ℕ) (entry : Option ℕ) (creation : Creation) (so_far : Construction)
      → GoesOn so_far (new_made makes grounds scene name entry creation so_far)
  goes_new grounds scene name entry creation so_far = by (made_class grounds.facts creation)
    where
      by : (o : Option Meaning)
          → GoesOn so_far (option_map_or (λ class.
          makes (asked_object grounds scene (arguments_read grounds scene creation so_far).objects name entry creation class)
          (arguments_read grounds scene creation so_far)) o (arguments_read grounds scene creation so_far))
      by None = goes_noted so_far (all_unmade_faults grounds scene creation.arguments)
      by (Some class) =
          let read = arguments_read grounds scene creation so_far in
          let asked = asked_object grounds scene read.objects name entry creation class in
          goes_then so_far read (makes asked read) (goes_noted so_far (all_unmade_faults grounds scene creation.arguments)) (on asked read)

  goes_init : (levels : ℕ) (grounds : Grounds) (scene : Scenery) (subject : Subject) (entry : ℕ) (name : List ℕ) (init : Init) (so_far : Construction)
      → GoesOn so_far (init_set makes levels grounds scene subject entry name init so_far)
  goes_init levels grounds scene subject entry name (inits.Expr expr) so_far =
      let read = noted so_far (unmade_faults grounds scene expr) in
      let datum = fine_datum grounds scene so_far.objects (field_kind (field_in_line grounds.facts entry name)) expr in
      goes_then so_far read (field_given grounds subject entry name datum read) (goes_noted so_far (unmade_faults grounds scene expr))
      (goes_given grounds subject entry name datum read)
  goes_init levels grounds scene subject entry name (inits.New creation) so_far =
      let mid = new_made makes grounds scene (full_name subject.name name) None creation so_far in
      let datum = new_datum levels grounds.facts creation so_far in
      goes_then so_far mid (field_given grounds subject entry name datum mid)
      (goes_new grounds scene (full_name subject.name name) None creation so_far) (goes_given grounds subject entry name datum mid)

  goes_parts : (levels : ℕ) (grounds : Grounds) (scene : Scenery) (subject : Subject) (entry : ℕ) (some : List Set) (so_far : Construction)
      → GoesOn so_far (parts_run makes levels grounds scene subject entry some so_far)
  goes_parts levels grounds scene subject entry [] so_far = goes_same so_far
  goes_parts levels grounds scene subject entry (sets.Field name value ∷ more) so_far =
      let next = init_set makes levels grounds scene subject entry name.text value so_far in
      goes_then so_far next (parts_run makes levels grounds scene subject entry more next)
      (goes_init levels grounds scene subject entry name.text value so_far) (goes_parts levels grounds scene subject entry more next)
  goes_parts levels grounds scene subject entry (sets.Super at arguments ∷ more) so_far =
      goes_parts levels grounds scene subject entry more so_far

  goes_body : (levels : ℕ) (grounds : Grounds) (subject : Subject) (entry : ℕ) (values : List (Option Datum)) (constructor : Member) (so_far : Construction)
      → GoesOn so_far (body_run makes levels grounds subject entry values constructor so_far)
  goes_body levels grounds subject entry values constructor so_far =
      let some = passing_faults grounds so_far.objects subject.place entry values constructor in
      let mid = noted so_far some in
      let scene = constructor_scene grounds.facts entry constructor values in
      goes_then so_far mid (parts_run makes levels grounds scene subject entry (constructor_sets constructor) mid) (goes_noted so_far some)
      (goes_parts levels grounds scene subject entry (constructor_sets constructor) mid)

  goes_class : (levels : ℕ) (grounds : Grounds) (subject : Subject) (class : Meaning) (values : List (Option Datum)) (so_far : Construction)
      → GoesOn so_far (class_run makes levels grounds subject class values so_far)
  goes_class levels grounds subject (meanings.BuiltIn number) values so_far = goes_builtin subject number values so_far
  goes_class levels grounds subject (meanings.Entry entry) values so_far = by (constructor_at grounds.facts.names grounds.facts.program entry)
    where
      by : (o : Option Member) → GoesOn so_far (option_map_or (λ constructor. body_run makes levels grounds subject entry values constructor so_far) o so_far)
      by None = goes_same so_far
      by (Some constructor) = goes_body levels grounds subject entry values constructor so_far

  goes_classes : (levels : ℕ) (grounds : Grounds) (subject : Subject) (some : List Passed) (so_far : Construction)
      → GoesOn so_far (classes_run makes levels grounds subject some so_far)
  goes_classes levels grounds subject [] so_far = goes_same so_far
  goes_classes levels grounds subject (passed ∷ more) so_far =
      let next = class_run makes levels grounds subject passed.class passed.values so_far in
      goes_then so_far next (classes_run makes levels grounds subject more next)
      (goes_class levels grounds subject passed.class passed.values so_far) (goes_classes levels grounds subject more next)

  goes_run : (levels : ℕ) (grounds : Grounds) (subject : Subject) (asked : Asked) (so_far : Construction)
      → GoesOn so_far (object_run makes levels grounds subject asked so_far)
  goes_run levels grounds subject asked so_far =
      let some = passed_down grounds so_far.objects asked.class asked.values in
      let mid = classes_run makes levels grounds subject some so_far in
      goes_then so_far mid (finished grounds.facts subject asked.class mid) (goes_classes levels grounds subject some so_far)
      (goes_noted mid (finished_faults grounds.facts subject.place (line_up grounds.facts asked.class) (fields_of mid.objects subject.number)))

  goes_made : (levels : ℕ) (grounds : Grounds) (asked : Asked) (so_far : Construction) → GoesOn so_far (object_made makes levels grounds asked so_far)
  goes_made levels grounds asked so_far =
      let subject : Subject = record { name = asked.name; place = asked.place; number = length so_far.objects } in
      let begun = object_begun so_far asked in
      let fresh : MadeObject = record { name = asked.name; entry = asked.entry; class = asked.class; fields = [] } in
      let one : GoesOn so_far begun = record {
        told = λ is. is;
        kept = λ number object at. (object, get-append_left so_far.objects (fresh ∷ []) number object at, refl);
        full = λ told. told;
      } in
      goes_then so_far begun (object_run makes levels grounds subject asked begun) one (goes_run levels grounds subject asked begun)

  -- and the object that is asked for is there, behind all others
  made_last : (levels : ℕ) (grounds : Grounds) (asked : Asked) (so_far : Construction)
      → KeepsClass (object_made makes levels grounds asked so_far).objects (length so_far.objects) asked.class
  made_last levels grounds asked so_far =
      let subject : Subject = record { name = asked.name; place = asked.place; number = length so_far.objects } in
      let fresh : MadeObject = record { name = asked.name; entry = asked.entry; class = asked.class; fields = [] } in
      (goes_run levels grounds subject asked (object_begun so_far asked)).kept (length so_far.objects) fresh (get-append_last so_far.objects fresh)

-- ---- levels

full_was : (decl at : ℕ) (kind : TextKind) (b : Bool) → faults_here decl at (fault_if (not b) kind) ≡ [] → b ≡ true
full_was decl at kind true none = refl
full_was decl at kind false none = absurd (cc)

pub goes_many : (so_far : Construction) (place : Place) → GoesOn so_far (too_many so_far place)
goes_many so_far place = record {
  told = λ is. (earliest_none so_far.first (first_of_kind so_far.is_full place faults.LimitObjects) is).0;
  kept = λ number object at. (object, at, refl);
  full = λ told full is.
      let both = earliest_none so_far.first (first_of_kind so_far.is_full place faults.LimitObjects) is in
      told (full_was place.decl place.at faults.LimitObjects so_far.is_full both.1) both.0;
}

goes_deep : (so_far : Construction) (place : Place) → GoesOn so_far (too_deep so_far place)
goes_deep so_far place = record {
  told = λ is. (earliest_none so_far.first (first_of_kind so_far.is_deep place faults.LimitNew) is).0;
  kept = λ number object at. (object, at, refl);
  full = λ told full is. told full (earliest_none so_far.first (first_of_kind so_far.is_deep place faults.LimitNew) is).0;
}

goes_counted : (so_far : Construction) (place : Place) → GoesOn so_far (counted so_far place)
goes_counted so_far place = by (has_room so_far)
  where
    by : (b : Bool) → GoesOn so_far (if b then so_far else too_many so_far place)
    by true = goes_same so_far
    by false = goes_many so_far place

pub made_on : (levels : ℕ) (grounds : Grounds) (asked : Asked) (so_far : Construction) → GoesOn so_far (made_by levels grounds asked so_far)
unfolding made_by
made_on zero grounds asked so_far =
    goes_then so_far (counted so_far asked.place) (too_nested so_far asked.place) (goes_counted so_far asked.place)
    (goes_deep (counted so_far asked.place) asked.place)
made_on (suc levels) grounds asked so_far = by (has_room so_far) (λ other more. made_on levels grounds other more)
  where
    by : (b : Bool) → MakesOn (made_by levels grounds)
        → GoesOn so_far (if b then object_made (made_by levels grounds) levels grounds asked so_far else too_many so_far asked.place)
    by true on = goes_made (made_by levels grounds) on levels grounds asked so_far
    by false on = goes_many so_far asked.place

-- where nothing is told to be wrong, the object that is asked for is made
pub made_there : (levels : ℕ) (grounds : Grounds) (asked : Asked) (so_far : Construction) → IsFullTold so_far
    → (made_by (suc levels) grounds asked so_far).first ≡ None
    → (has_room so_far ≡ true) × KeepsClass (made_by (suc levels) grounds asked so_far).objects (length so_far.objects) asked.class
unfolding made_by
made_there levels grounds asked so_far full told = by (has_room so_far) refl told
  where
    by : (b : Bool) → has_room so_far ≡ b
        → (if b then object_made (made_by levels grounds) levels grounds asked so_far else too_many so_far asked.place).first ≡ None
        → (has_room so_far ≡ true)
        × KeepsClass (if b then object_made (made_by levels grounds) levels grounds asked so_far else too_many so_far asked.place).objects
        (length so_far.objects) asked.class
    by true room told = (room, made_last (made_by levels grounds) (λ other more. made_on levels grounds other more) levels grounds asked so_far)
    by false room told = absurd ((goes_many so_far asked.place).full full refl told)
