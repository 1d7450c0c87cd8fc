-- Making objects takes none away, and nothing that it has met is forgotten.
use Rattle.std.proofs.Common.{◌≡◌, ℕ, zero, suc, ◌==◌, Bool, true, false, ◌⊎◌, inl, inr, List, [], ◌∷◌, ◌++◌, length, refl, sym, ◌∙◌, ap}
use Rattle.std.specs.Prelude.{Option, Some, None, slice_get, slice_set, codes, if◌then◌else◌}
use Rattle.std.specs.Option.{option_map_or}
use Rattle.std.proofs.lemmas.Option.{same_Some, none-some}
use Rattle.nddl_ast.specs.declared.declaration.Member.{Member}
use Rattle.nddl_ast.specs.declared.declaration.Set.{Set}
use Rattle.nddl_ast.specs.declared.declaration.Set.TheVariants as sets
use Rattle.nddl_ast.specs.declared.expression.Creation.{Creation}
use Rattle.nddl_ast.specs.declared.expression.Init.TheVariants as inits
use Rattle.nddl_ast.specs.declared.kind.TextKind.TheVariants as faults
use Rattle.nddl_symbols.specs.declared.fault.Fault.{Fault}
use Rattle.nddl_symbols.specs.declared.scope.Meaning.{Meaning}
use Rattle.nddl_symbols.specs.declared.scope.Meaning.TheVariants as meanings
use Rattle.nddl_constructors.specs.Bodies.{field_in_line, field_kind}
use Rattle.nddl_construction.specs.declared.made.Datum.{Datum}
use Rattle.nddl_construction.specs.declared.made.FieldValue.{FieldValue}
use Rattle.nddl_construction.specs.declared.made.MadeObject.{MadeObject}
use Rattle.nddl_construction.specs.declared.passing.Passed.{Passed}
use Rattle.nddl_construction.specs.Classes.{constructor_at, constructor_sets, line_up, made_class}
use Rattle.nddl_construction.specs.Passing.{constructor_scene, passed_down, passing_faults}
use Rattle.nddl_construction.specs.Reading.{all_unmade_faults, datum_at, fine_datum, unmade_faults}
use Rattle.nddl_construction.specs.Scene.{Grounds, Scenery}
use Rattle.model_core.specs.Naming.{full_name}
use Rattle.nddl_objects.specs.Construction.{Asked, Construction, Subject, field_added, first_of_kind, has_room, noted, object_begun, too_deep, too_many, with_field, with_set}
use Rattle.nddl_objects.specs.Finished.{finished_faults}
use Rattle.nddl_objects.specs.Made.{Makes, arguments_read, asked_object, body_run, builtin_run, class_run, classes_run, field_given, fields_of, made_by, new_datum, new_made, number_set, object_made, outside_faults, part_run, parts_run}
use Rattle.nddl_model_laws.proofs.Grounds.{none_before}
use Rattle.nddl_model_laws.proofs.Typing.{Extends, extends_not, extends_on}

pub record Follows (old new : Construction) : Type 0 where
  pub first : new.first ≡ None → old.first ≡ None
  pub more : Extends old.objects new.objects

pub follows_not : (so_far : Construction) → Follows so_far so_far
follows_not so_far = record { first = λ none. none; more = extends_not so_far.objects }

pub follows_on : (one two three : Construction) → Follows one two → Follows two three → Follows one three
follows_on one two three first second = record {
  first = λ none. first.first (second.first none);
  more = extends_on one.objects two.objects three.objects first.more second.more;
}

pub noted_follows : (so_far : Construction) (some : List Fault) → Follows so_far (noted so_far some)
noted_follows so_far some = record { first = λ none. (none_before so_far.first some none).0; more = extends_not so_far.objects }

-- what stood at a place of a list with one item written stands there, or is what was written over
set_gives : {X : Type 0} (xs : List X) (i k : ℕ) (x old y : X) → slice_get xs i ≡ Some old → slice_get xs k ≡ Some y
    → ((slice_get (slice_set xs i x) k ≡ Some x) × (y ≡ old)) ⊎ (slice_get (slice_set xs i x) k ≡ Some y)
set_gives [] i k x old y at here = absurd (none-some y here)
set_gives (z ∷ xs) zero zero x old y at here = inl (refl, same_Some y old (sym here ∙ at))
set_gives (z ∷ xs) zero (suc k) x old y at here = inr here
set_gives (z ∷ xs) (suc i) zero x old y at here = inr here
set_gives (z ∷ xs) (suc i) (suc k) x old y at here = set_gives xs i k x old y at here

pub field_extends : (objects : List MadeObject) (number : ℕ) (field : FieldValue) → Extends objects (with_field objects number field)
field_extends objects number field = by (slice_get objects number) refl
  where
    by : (o : Option MadeObject) → slice_get objects number ≡ o
        → Extends objects (option_map_or (λ (object : MadeObject). slice_set objects number (field_added object field)) o objects)
    by None at = extends_not objects
    by (Some old) at = λ k object here.
        elim (set_gives objects number k (field_added old field) old object at here) [
          | inl own ↦ (field_added old field, own.0, ap (λ (o : MadeObject). o.class) (sym own.1))
          | inr other ↦ (object, other, refl)
        ]

pub set_follows : (so_far : Construction) (subject : Subject) (name : List ℕ) (datum : Option Datum) → Follows so_far (with_set so_far subject name datum)
set_follows so_far subject name datum = record {
  first = λ none. none;
  more = field_extends so_far.objects subject.number (record { name = name; value = datum });
}

-- what stands in a list stands there with more behind it
pub stays_before : {X : Type 0} (xs ys : List X) (k : ℕ) (x : X) → slice_get xs k ≡ Some x → slice_get (xs ++ ys) k ≡ Some x
stays_before [] ys k x at = absurd (none-some x at)
stays_before (z ∷ xs) ys zero x at = at
stays_before (z ∷ xs) ys (suc k) x at = stays_before xs ys k x at

module _ (grounds : Grounds) where
  pub given_follows : (subject : Subject) (entry : ℕ) (name : List ℕ) (datum : Option Datum) (so_far : Construction)
      → Follows so_far (field_given grounds subject entry name datum so_far)
  given_follows subject entry name datum so_far =
      let mid = noted so_far (outside_faults grounds so_far.objects subject entry name datum) in
      follows_on so_far mid (with_set mid subject name datum) (noted_follows so_far (outside_faults grounds so_far.objects subject entry name datum))
      (set_follows mid subject name datum)

  module _ (makes : Makes) (right : (asked : Asked) (so_far : Construction) → Follows so_far (makes asked so_far)) where
    pub new_follows : (scene : Scenery) (name : List ℕ) (entry : Option ℕ) (creation : Creation) (so_far : Construction)
        → Follows so_far (new_made makes grounds scene name entry creation so_far)
    new_follows scene name entry creation so_far = by (made_class grounds.facts creation)
      where
        by : (o : Option Meaning)
            → Follows so_far
            (option_map_or (λ (class : Meaning). makes (asked_object grounds scene so_far.objects name entry creation class) (arguments_read grounds scene creation so_far))
            o (arguments_read grounds scene creation so_far))
        by None = noted_follows so_far (all_unmade_faults grounds scene creation.arguments)
        by (Some class) =
            follows_on so_far (arguments_read grounds scene creation so_far)
            (makes (asked_object grounds scene so_far.objects name entry creation class) (arguments_read grounds scene creation so_far))
            (noted_follows so_far (all_unmade_faults grounds scene creation.arguments))
            (right (asked_object grounds scene so_far.objects name entry creation class) (arguments_read grounds scene creation so_far))

    pub part_follows : (levels : ℕ) (scene : Scenery) (subject : Subject) (entry : ℕ) (part : Set) (so_far : Construction)
        → Follows so_far (part_run makes levels grounds scene subject entry part so_far)
    part_follows levels scene subject entry (sets.Super at arguments) so_far = follows_not so_far
    part_follows levels scene subject entry (sets.Field name (inits.Expr expr)) so_far =
        let mid = noted so_far (unmade_faults grounds scene expr) in
        let datum = fine_datum grounds scene so_far.objects (field_kind (field_in_line grounds.facts entry name.text)) expr in
        follows_on so_far mid (field_given grounds subject entry name.text datum mid) (noted_follows so_far (unmade_faults grounds scene expr))
        (given_follows subject entry name.text datum mid)
    part_follows levels scene subject entry (sets.Field name (inits.New creation)) so_far =
        let made = new_made makes grounds scene (full_name subject.name name.text) None creation so_far in
        let datum = new_datum levels grounds.facts creation so_far in
        follows_on so_far made (field_given grounds subject entry name.text datum made)
        (new_follows scene (full_name subject.name name.text) None creation so_far) (given_follows subject entry name.text datum made)

    pub parts_follow : (levels : ℕ) (scene : Scenery) (subject : Subject) (entry : ℕ) (some : List Set) (so_far : Construction)
        → Follows so_far (parts_run makes levels grounds scene subject entry some so_far)
    parts_follow levels scene subject entry [] so_far = follows_not so_far
    parts_follow levels scene subject entry (part ∷ more) so_far =
        let next = part_run makes levels grounds scene subject entry part so_far in
        follows_on so_far next (parts_run makes levels grounds scene subject entry more next) (part_follows levels scene subject entry part so_far)
        (parts_follow levels scene subject entry more next)

    builtin_follows : (subject : Subject) (number : ℕ) (values : List (Option Datum)) (so_far : Construction)
        → Follows so_far (builtin_run subject number values so_far)
    builtin_follows subject number values so_far = by (number == 2) (number == 3)
      where
        by : (two three : Bool)
            → Follows so_far
            (if two then number_set subject (codes "capacity") values 0 so_far
            else (if three
            then number_set subject (codes "high") values 2
            (number_set subject (codes "low") values 1 (number_set subject (codes "initial") values 0 so_far))
            else so_far))
        by true three = set_follows so_far subject (codes "capacity") (datum_at values 0)
        by false true =
            let one = number_set subject (codes "initial") values 0 so_far in
            let two = number_set subject (codes "low") values 1 one in
            let last = number_set subject (codes "high") values 2 two in
            follows_on so_far two last
            (follows_on so_far one two (set_follows so_far subject (codes "initial") (datum_at values 0))
            (set_follows one subject (codes "low") (datum_at values 1)))
            (set_follows two subject (codes "high") (datum_at values 2))
        by false false = follows_not so_far

    pub body_follows : (levels : ℕ) (subject : Subject) (entry : ℕ) (values : List (Option Datum)) (constructor : Member) (so_far : Construction)
        → Follows so_far (body_run makes levels grounds subject entry values constructor so_far)
    body_follows levels subject entry values constructor so_far =
        let wrong = passing_faults grounds so_far.objects subject.place entry values constructor in
        let mid = noted so_far wrong in
        let scene = constructor_scene grounds.facts entry constructor values in
        follows_on so_far mid (parts_run makes levels grounds scene subject entry (constructor_sets constructor) mid) (noted_follows so_far wrong)
        (parts_follow levels scene subject entry (constructor_sets constructor) mid)

    pub class_follows : (levels : ℕ) (subject : Subject) (class : Meaning) (values : List (Option Datum)) (so_far : Construction)
        → Follows so_far (class_run makes levels grounds subject class values so_far)
    class_follows levels subject (meanings.BuiltIn number) values so_far = builtin_follows subject number values so_far
    class_follows levels subject (meanings.Entry entry) values so_far = by (constructor_at grounds.facts.names grounds.facts.program entry)
      where
        by : (o : Option Member)
            → Follows so_far (option_map_or (λ (constructor : Member). body_run makes levels grounds subject entry values constructor so_far) o so_far)
        by None = follows_not so_far
        by (Some constructor) = body_follows levels subject entry values constructor so_far

    pub classes_follow : (levels : ℕ) (subject : Subject) (some : List Passed) (so_far : Construction)
        → Follows so_far (classes_run makes levels grounds subject some so_far)
    classes_follow levels subject [] so_far = follows_not so_far
    classes_follow levels subject (passed ∷ more) so_far =
        let next = class_run makes levels grounds subject passed.class passed.values so_far in
        follows_on so_far next (classes_run makes levels grounds subject more next) (class_follows levels subject passed.class passed.values so_far)
        (classes_follow levels subject more next)

    pub begun_follows : (so_far : Construction) (asked : Asked) → Follows so_far (object_begun so_far asked)
    begun_follows so_far asked = record {
      first = λ none. none;
      more = λ k object here. (
        object,
        stays_before so_far.objects (record { name = asked.name; entry = asked.entry; class = asked.class; fields = [] } ∷ []) k object here,
        refl,
      );
    }

    pub object_follows : (levels : ℕ) (asked : Asked) (so_far : Construction) → Follows so_far (object_made makes levels grounds asked so_far)
    object_follows levels asked so_far =
        let begun = object_begun so_far asked in
        let subject : Subject = record { name = asked.name; place = asked.place; number = length so_far.objects } in
        let run = classes_run makes levels grounds subject (passed_down grounds begun.objects asked.class asked.values) begun in
        let wrong = finished_faults grounds.facts subject.place (line_up grounds.facts asked.class) (fields_of run.objects subject.number) in
        follows_on so_far begun (noted run wrong) (begun_follows so_far asked)
        (follows_on begun run (noted run wrong)
        (classes_follow levels subject (passed_down grounds begun.objects asked.class asked.values) begun) (noted_follows run wrong))

  many_follow : (so_far : Construction) (asked : Asked) → Follows so_far (too_many so_far asked.place)
  many_follow so_far asked = record {
    first = λ none. (none_before so_far.first (first_of_kind so_far.is_full asked.place faults.LimitObjects) none).0;
    more = extends_not so_far.objects;
  }

  deep_follow : (so_far : Construction) (asked : Asked) → Follows so_far (too_deep so_far asked.place)
  deep_follow so_far asked = record {
    first = λ none. (none_before so_far.first (first_of_kind so_far.is_deep asked.place faults.LimitNew) none).0;
    more = extends_not so_far.objects;
  }

  pub made_follows : (levels : ℕ) (asked : Asked) (so_far : Construction) → Follows so_far (made_by levels grounds asked so_far)
  unfolding made_by
  made_follows zero asked so_far = by (has_room so_far)
    where
      by : (b : Bool) → Follows so_far (too_deep (if b then so_far else too_many so_far asked.place) asked.place)
      by true = deep_follow so_far asked
      by false = follows_on so_far (too_many so_far asked.place) (too_deep (too_many so_far asked.place) asked.place) (many_follow so_far asked)
          (deep_follow (too_many so_far asked.place) asked)
  made_follows (suc levels) asked so_far = by (has_room so_far) (made_follows levels)
    where
      by : (b : Bool) → ((inner : Asked) (mid : Construction) → Follows mid (made_by levels grounds inner mid))
          → Follows so_far (if b then object_made (made_by levels grounds) levels grounds asked so_far else too_many so_far asked.place)
      by false rest = many_follow so_far asked
      by true rest = object_follows (made_by levels grounds) rest levels asked so_far
