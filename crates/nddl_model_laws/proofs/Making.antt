-- Making objects adds to them: there are never too many, and each has the name of an object and a class that is there.
use Rattle.std.proofs.Common.{◌≡◌, ℕ, zero, suc, ◌+◌, ◌==◌, ◌<◌, ◌≤◌, Bool, true, false, ◌&&◌, ◌⊎◌, inl, inr, List, [], ◌∷◌, ◌++◌, length, map, refl, sym, ◌∙◌, ap, subst, append_assoc, length-append, arith}
use Rattle.std.specs.Prelude.{Option, Some, None, All, nat_lt, slice_get, slice_set, codes, if◌then◌else◌}
use Rattle.std.specs.List.{join_with_byte}
use Rattle.std.specs.Option.{option_and_then, option_map, option_map_or}
use Rattle.std.proofs.lemmas.List.{length-set}
use Rattle.std.proofs.lemmas.List.Elements.{All-nil, All-cons, All-head, All-tail, All-set, All-push}
use Rattle.std.proofs.lemmas.Option.{same_Some, none-some, slice_get-map}
use Rattle.eu_name.specs.Word.{IsName}
use Rattle.model_core.specs.Naming.{IsObjectName, full_name}
use Rattle.model_core.proofs.Items.{item_all, item_at}
use Rattle.nddl_ast.specs.declared.declaration.Decl.{Decl}
use Rattle.nddl_ast.specs.declared.declaration.Decl.TheVariants as decls
use Rattle.nddl_ast.specs.declared.declaration.Member.{Member}
use Rattle.nddl_ast.specs.declared.declaration.Member.TheVariants as members
use Rattle.nddl_ast.specs.declared.declaration.Set.{Set}
use Rattle.nddl_ast.specs.declared.declaration.Set.TheVariants as sets
use Rattle.nddl_ast.specs.declared.expression.Creation.{Creation}
use Rattle.nddl_ast.specs.declared.expression.Init.{Init}
use Rattle.nddl_ast.specs.declared.expression.Init.TheVariants as inits
use Rattle.nddl_ast.specs.declared.statement.Variable.{Variable}
use Rattle.nddl_symbols.specs.declared.declared.Declared.{Declared}
use Rattle.nddl_symbols.specs.declared.scope.Meaning.{Meaning}
use Rattle.nddl_symbols.specs.declared.scope.Meaning.TheVariants as meanings
use Rattle.nddl_symbols.specs.declared.declared.Sort.{Sort}
use Rattle.nddl_symbols.specs.declared.declared.Sort.TheVariants as sorts
use Rattle.nddl_symbols.specs.Builtin.{is_config_name}
use Rattle.nddl_symbols.specs.Names.{declared_as, is_config_sort, is_config_type, scope_names, sort_of_init, sort_of_variable}
use Rattle.nddl_symbols.specs.Scope.{meaning_of, named_number}
use Rattle.nddl_hierarchy.specs.Decls.{members_of}
use Rattle.nddl_hierarchy.specs.Facts.{Facts}
use Rattle.nddl_hierarchy.specs.Shorter.{is_constructor}
use Rattle.nddl_constructors.specs.Bodies.{field_in_line, field_kind}
use Rattle.nddl_constructors.specs.Creations.{class_alone, is_wrong_count}
use Rattle.nddl_constructors.specs.Wants.{class_wants}
use Rattle.nddl_construction.specs.declared.made.Datum.{Datum}
use Rattle.nddl_construction.specs.declared.made.Datum.TheVariants as datums
use Rattle.nddl_construction.specs.declared.made.FieldValue.{FieldValue}
use Rattle.nddl_construction.specs.declared.made.MadeObject.{MadeObject}
use Rattle.nddl_construction.specs.declared.made.NamedObject.TheVariants as stands
use Rattle.nddl_construction.specs.declared.passing.Passed.{Passed}
use Rattle.nddl_construction.specs.Classes.{class_taking, constructor_at, constructor_sets, made_class, own_constructor}
use Rattle.nddl_construction.specs.Passing.{constructor_scene, passed_down, passing_faults}
use Rattle.nddl_construction.specs.Reading.{datum_at, fine_datum, unmade_faults}
use Rattle.nddl_construction.specs.Scene.{Grounds, Scenery}
use Rattle.nddl_objects.specs.Construction.{Asked, Construction, Subject, field_added, has_room, noted, object_begun, too_deep, too_many, with_field, with_set}
use Rattle.nddl_objects.specs.Made.{Makes, arguments_read, asked_object, body_run, builtin_run, class_run, classes_run, field_given, made_by, new_datum, new_made, number_set, object_made, part_run, parts_run}
use Rattle.nddl_objects.specs.Objects.{Progress, all_declared, bare_scene, first_progress, init_declared, last_progress, most_levels, object_declared, one_declared, progress_grounds, settings_declared, with_named}
use Rattle.nddl_laws.specs.Fine.{IsFineDecl, IsFineMember, IsFineSet}
use Rattle.nddl_laws.proofs.First.{stands_from}
use Rattle.nddl_laws.proofs.Variables.{fine_members}

-- ---- names

join_push : (names : List (List ℕ)) (name : List ℕ) → 0 < length names
    → join_with_byte 46 (names ++ name ∷ []) ≡ (join_with_byte 46 names ++ 46 ∷ []) ++ name
join_push [] name some = absurd (omega arith)
join_push (x ∷ []) name some = sym (append_assoc x (46 ∷ []) name)
join_push (x ∷ y ∷ rest) name some =
    let joined = join_with_byte 46 (y ∷ rest) in
    ap (λ (l : List ℕ). x ++ (46 ∷ l)) (join_push (y ∷ rest) name (omega arith))
    ∙ (sym (append_assoc x ((46 ∷ joined) ++ 46 ∷ []) name)
    ∙ ap (λ (l : List ℕ). l ++ name) (sym (append_assoc x (46 ∷ joined) (46 ∷ []))))

-- what is made by `new`: an object or settings
abbrev pub is_made_sort : Sort → Bool
is_made_sort sorts.Object = true
is_made_sort sorts.Config = true
is_made_sort sort = false

-- a name is what an object may be called, and so is one behind another
pub one_name : (name : List ℕ) → IsName name → IsObjectName name
one_name name is = (name ∷ [], omega arith, All-cons IsName name [] is (All-nil IsName), refl)

pub nested_name : (outer name : List ℕ) → IsObjectName outer → IsName name → IsObjectName (full_name outer name)
nested_name outer name is one = (
  is.0 ++ name ∷ [],
  (let long = length-append is.0 (name ∷ []) in omega arith),
  All-push IsName is.0 name is.2 one,
  ap (λ (l : List ℕ). (l ++ codes ".") ++ name) is.3 ∙ sym (join_push is.0 name is.1),
)

-- the name of a declaration that makes an object
pub record IsDeclaredName (facts : Facts) (name : List ℕ) : Type 0 where
  pub entry : ℕ
  pub declared : Declared
  pub there : slice_get facts.names entry ≡ Some declared
  pub sort : is_made_sort declared.sort ≡ true
  pub same : declared.name ≡ name

-- a name behind another
pub record IsNestedName (name : List ℕ) : Type 0 where
  pub outer : List ℕ
  pub inner : List ℕ
  pub same : name ≡ full_name outer inner

-- what an object may be called, which is one of these two
pub record IsCalled (facts : Facts) (name : List ℕ) : Type 0 where
  pub path : IsObjectName name
  pub own : IsDeclaredName facts name ⊎ IsNestedName name

pub nested_called : (facts : Facts) (outer name : List ℕ) → IsCalled facts outer → IsName name → IsCalled facts (full_name outer name)
nested_called facts outer name is one =
    let nested : IsNestedName (full_name outer name) = record { outer = outer; inner = name; same = refl } in
    record { path = nested_name outer name is.path one; own = inr nested }

-- ---- classes

-- the class is what stands alone behind `new`
abbrev pub IsClassMeant : Facts → Meaning → Type 0
IsClassMeant facts class = (text : List ℕ) × (class_alone facts.names (meaning_of facts.names text) ≡ Some class)

pub taken : (facts : Facts) (creation : Creation) (class : Meaning) → made_class facts creation ≡ Some class
    → class_alone facts.names (meaning_of facts.names creation.class.text) ≡ Some class
taken facts creation class is = by (class_alone facts.names (meaning_of facts.names creation.class.text)) refl is
  where
    last : (found : Meaning) (b : Bool) → class_alone facts.names (meaning_of facts.names creation.class.text) ≡ Some found
        → (if b then None else Some found) ≡ Some class → class_alone facts.names (meaning_of facts.names creation.class.text) ≡ Some class
    last found true at is = absurd (none-some class is)
    last found false at is = at ∙ is

    by : (o : Option Meaning) → class_alone facts.names (meaning_of facts.names creation.class.text) ≡ o
        → option_and_then (class_taking facts (length creation.arguments)) o ≡ Some class
        → class_alone facts.names (meaning_of facts.names creation.class.text) ≡ Some class
    by None at is = absurd (none-some class is)
    by (Some found) at is = last found (is_wrong_count (class_wants facts found) (length creation.arguments)) at is

-- ---- more objects

-- an object with its name and its class
pub record IsNamedObject (facts : Facts) (object : MadeObject) : Type 0 where
  pub name : IsCalled facts object.name
  pub class : IsClassMeant facts object.class

-- there are no fewer objects, not too many if there were not, and each has a name and a class if each had
pub record Grows (facts : Facts) (old new : List MadeObject) : Type 0 where
  pub more : length old ≤ length new
  pub few : length old ≤ 4096 → length new ≤ 4096
  pub named : All (IsNamedObject facts) old → All (IsNamedObject facts) new

pub grows_not : (facts : Facts) (objects : List MadeObject) → Grows facts objects objects
grows_not facts objects = record { more = omega arith; few = λ few. few; named = λ all. all }

grows_on : (facts : Facts) (one two three : List MadeObject) → Grows facts one two → Grows facts two three → Grows facts one three
grows_on facts one two three first second = record {
  more = (let some : length one ≤ length two = first.more in let rest : length two ≤ length three = second.more in omega arith);
  few = λ few. second.few (first.few few);
  named = λ all. second.named (first.named all);
}

pub field_kept : (facts : Facts) (objects : List MadeObject) (number : ℕ) (field : FieldValue) → Grows facts objects (with_field objects number field)
field_kept facts objects number field = by (slice_get objects number) refl
  where
    by : (o : Option MadeObject) → slice_get objects number ≡ o
        → Grows facts objects (option_map_or (λ (object : MadeObject). slice_set objects number (field_added object field)) o objects)
    by None at = grows_not facts objects
    by (Some object) at =
        let long : length (slice_set objects number (field_added object field)) ≡ length objects = length-set objects number (field_added object field) in
        let more : length objects ≤ length (slice_set objects number (field_added object field)) = omega arith in
        record {
          more = more;
          few = λ few. (let old : length objects ≤ 4096 = few in
              let new : length (slice_set objects number (field_added object field)) ≤ 4096 = omega arith in new);
          named = λ all.
              let one = item_all (IsNamedObject facts) objects number object all at in
              All-set (IsNamedObject facts) objects number (field_added object field) (record { name = one.name; class = one.class }) all;
        }

-- ---- parts of constructors

own_fine : (some : List Member) (constructor : Member) → All IsFineMember some → own_constructor some ≡ Some constructor → IsFineMember constructor
own_fine [] constructor all is = absurd (none-some constructor is)
own_fine (member ∷ more) constructor all is =
    by (is_constructor member) is (λ there. own_fine more constructor (All-tail IsFineMember member more all) there)
  where
    by : (b : Bool) → (if b then Some member else own_constructor more) ≡ Some constructor
        → (own_constructor more ≡ Some constructor → IsFineMember constructor) → IsFineMember constructor
    by true is rest = subst IsFineMember (same_Some member constructor is) (All-head IsFineMember member more all)
    by false is rest = rest is

sets_fine : (constructor : Member) → IsFineMember constructor → All IsFineSet (constructor_sets constructor)
sets_fine (members.Constructor name formals parts) fine = fine.1.1
sets_fine (members.Field typed) fine = All-nil IsFineSet
sets_fine (members.Predicate at name parts) fine = All-nil IsFineSet

room : (count : ℕ) → nat_lt count 4096 ≡ true → count < 4096
room count is = grind arith

module _ (grounds : Grounds) (fine : All IsFineDecl grounds.facts.program) where
  abbrev IsRightAsked : Asked → Type 0
  IsRightAsked asked = IsCalled grounds.facts asked.name × IsClassMeant grounds.facts asked.class

  set_grows : (so_far : Construction) (subject : Subject) (name : List ℕ) (datum : Option Datum)
      → Grows grounds.facts so_far.objects (with_set so_far subject name datum).objects
  set_grows so_far subject name datum = field_kept grounds.facts so_far.objects subject.number (record { name = name; value = datum })

  given_grows : (subject : Subject) (entry : ℕ) (name : List ℕ) (datum : Option Datum) (so_far : Construction)
      → Grows grounds.facts so_far.objects (field_given grounds subject entry name datum so_far).objects
  given_grows subject entry name datum so_far = field_kept grounds.facts so_far.objects subject.number (record { name = name; value = datum })

  module _ (makes : Makes)
      (right : (asked : Asked) (so_far : Construction) → IsRightAsked asked → Grows grounds.facts so_far.objects (makes asked so_far).objects) where
    pub new_grows : (scene : Scenery) (name : List ℕ) (entry : Option ℕ) (creation : Creation) (so_far : Construction)
        → IsCalled grounds.facts name → Grows grounds.facts so_far.objects (new_made makes grounds scene name entry creation so_far).objects
    new_grows scene name entry creation so_far named = by (made_class grounds.facts creation) refl
      where
        by : (o : Option Meaning) → made_class grounds.facts creation ≡ o
            → Grows grounds.facts so_far.objects
            (option_map_or (λ (class : Meaning). makes (asked_object grounds scene so_far.objects name entry creation class) (arguments_read grounds scene creation so_far))
            o (arguments_read grounds scene creation so_far)).objects
        by None is = grows_not grounds.facts so_far.objects
        by (Some class) is =
            right (asked_object grounds scene so_far.objects name entry creation class) (arguments_read grounds scene creation so_far)
            (named, (creation.class.text, taken grounds.facts creation class is))

    init_grows : (levels : ℕ) (scene : Scenery) (subject : Subject) (entry : ℕ) (part : Set) (so_far : Construction) → IsFineSet part
        → IsCalled grounds.facts subject.name → Grows grounds.facts so_far.objects (part_run makes levels grounds scene subject entry part so_far).objects
    init_grows levels scene subject entry (sets.Super at arguments) so_far is named = grows_not grounds.facts so_far.objects
    init_grows levels scene subject entry (sets.Field name (inits.Expr expr)) so_far is named =
        given_grows subject entry name.text
        (fine_datum grounds scene so_far.objects (field_kind (field_in_line grounds.facts entry name.text)) expr)
        (noted so_far (unmade_faults grounds scene expr))
    init_grows levels scene subject entry (sets.Field name (inits.New creation)) so_far is named =
        let made = new_made makes grounds scene (full_name subject.name name.text) None creation so_far in
        grows_on grounds.facts so_far.objects made.objects
        (field_given grounds subject entry name.text (new_datum levels grounds.facts creation so_far) made).objects
        (new_grows scene (full_name subject.name name.text) None creation so_far (nested_called grounds.facts subject.name name.text named is.0))
        (given_grows subject entry name.text (new_datum levels grounds.facts creation so_far) made)

    parts_grow : (levels : ℕ) (scene : Scenery) (subject : Subject) (entry : ℕ) (some : List Set) (so_far : Construction) → All IsFineSet some
        → IsCalled grounds.facts subject.name → Grows grounds.facts so_far.objects (parts_run makes levels grounds scene subject entry some so_far).objects
    parts_grow levels scene subject entry [] so_far all named = grows_not grounds.facts so_far.objects
    parts_grow levels scene subject entry (part ∷ more) so_far all named =
        let next = part_run makes levels grounds scene subject entry part so_far in
        grows_on grounds.facts so_far.objects next.objects (parts_run makes levels grounds scene subject entry more next).objects
        (init_grows levels scene subject entry part so_far (All-head IsFineSet part more all) named)
        (parts_grow levels scene subject entry more next (All-tail IsFineSet part more all) named)

    builtin_grows : (subject : Subject) (number : ℕ) (values : List (Option Datum)) (so_far : Construction)
        → Grows grounds.facts so_far.objects (builtin_run subject number values so_far).objects
    builtin_grows subject number values so_far = by (number == 2) (number == 3)
      where
        by : (two three : Bool)
            → Grows grounds.facts so_far.objects
            (if two then number_set subject (codes "capacity") values 0 so_far
            else (if three
            then number_set subject (codes "high") values 2
            (number_set subject (codes "low") values 1 (number_set subject (codes "initial") values 0 so_far))
            else so_far)).objects
        by true three = set_grows so_far subject (codes "capacity") (datum_at values 0)
        by false true =
            let one = number_set subject (codes "initial") values 0 so_far in
            let two = number_set subject (codes "low") values 1 one in
            let last = number_set subject (codes "high") values 2 two in
            grows_on grounds.facts so_far.objects two.objects last.objects
            (grows_on grounds.facts so_far.objects one.objects two.objects
            (set_grows so_far subject (codes "initial") (datum_at values 0)) (set_grows one subject (codes "low") (datum_at values 1)))
            (set_grows two subject (codes "high") (datum_at values 2))
        by false false = grows_not grounds.facts so_far.objects

    class_grows : (levels : ℕ) (subject : Subject) (class : Meaning) (values : List (Option Datum)) (so_far : Construction) → IsCalled grounds.facts subject.name
        → Grows grounds.facts so_far.objects (class_run makes levels grounds subject class values so_far).objects
    class_grows levels subject (meanings.BuiltIn number) values so_far named = builtin_grows subject number values so_far
    class_grows levels subject (meanings.Entry entry) values so_far named = by (constructor_at grounds.facts.names grounds.facts.program entry) refl
      where
        by : (o : Option Member) → constructor_at grounds.facts.names grounds.facts.program entry ≡ o
            → Grows grounds.facts so_far.objects
            (option_map_or (λ (constructor : Member). body_run makes levels grounds subject entry values constructor so_far) o so_far).objects
        by None is = grows_not grounds.facts so_far.objects
        by (Some constructor) is =
            parts_grow levels (constructor_scene grounds.facts entry constructor values) subject entry (constructor_sets constructor)
            (noted so_far (passing_faults grounds so_far.objects subject.place entry values constructor))
            (sets_fine constructor
            (own_fine (members_of grounds.facts.names grounds.facts.program entry) constructor (fine_members grounds.facts fine entry) is)) named

    classes_grow : (levels : ℕ) (subject : Subject) (some : List Passed) (so_far : Construction) → IsCalled grounds.facts subject.name
        → Grows grounds.facts so_far.objects (classes_run makes levels grounds subject some so_far).objects
    classes_grow levels subject [] so_far named = grows_not grounds.facts so_far.objects
    classes_grow levels subject (passed ∷ more) so_far named =
        let next = class_run makes levels grounds subject passed.class passed.values so_far in
        grows_on grounds.facts so_far.objects next.objects (classes_run makes levels grounds subject more next).objects
        (class_grows levels subject passed.class passed.values so_far named) (classes_grow levels subject more next named)

    -- the object that is begun is one more
    begun_grows : (so_far : Construction) (asked : Asked) → has_room so_far ≡ true → IsRightAsked asked
        → Grows grounds.facts so_far.objects (object_begun so_far asked).objects
    begun_grows so_far asked has is =
        let new : MadeObject = record { name = asked.name; entry = asked.entry; class = asked.class; fields = [] } in
        let long = length-append so_far.objects (new ∷ []) in
        let less = room (length so_far.objects) has in
        let more : length so_far.objects ≤ length (so_far.objects ++ new ∷ []) = omega arith in
        let most : length (so_far.objects ++ new ∷ []) ≤ 4096 = omega arith in
        record {
          more = more;
          few = λ few. most;
          named = λ all. All-push (IsNamedObject grounds.facts) so_far.objects new all (record { name = is.0; class = is.1 });
        }

    object_grows : (levels : ℕ) (asked : Asked) (so_far : Construction) → IsRightAsked asked
        → Grows grounds.facts (object_begun so_far asked).objects (object_made makes levels grounds asked so_far).objects
    object_grows levels asked so_far is =
        let begun = object_begun so_far asked in
        let subject : Subject = record { name = asked.name; place = asked.place; number = length so_far.objects } in
        classes_grow levels subject (passed_down grounds begun.objects asked.class asked.values) begun is.0

  made_grows : (levels : ℕ) (asked : Asked) (so_far : Construction) → IsRightAsked asked
      → Grows grounds.facts so_far.objects (made_by levels grounds asked so_far).objects
  unfolding made_by
  made_grows zero asked so_far is = by (has_room so_far)
    where
      by : (b : Bool) → Grows grounds.facts so_far.objects (too_deep (if b then so_far else too_many so_far asked.place) asked.place).objects
      by true = grows_not grounds.facts so_far.objects
      by false = grows_not grounds.facts so_far.objects
  made_grows (suc levels) asked so_far is = by (has_room so_far) refl (made_grows levels)
    where
      by : (b : Bool) → has_room so_far ≡ b
          → ((inner : Asked) (mid : Construction) → IsRightAsked inner → Grows grounds.facts mid.objects (made_by levels grounds inner mid).objects)
          → Grows grounds.facts so_far.objects
          (if b then object_made (made_by levels grounds) levels grounds asked so_far else too_many so_far asked.place).objects
      by false has rest = grows_not grounds.facts so_far.objects
      by true has rest =
          grows_on grounds.facts so_far.objects (object_begun so_far asked).objects
          (object_made (made_by levels grounds) levels grounds asked so_far).objects
          (begun_grows (made_by levels grounds) rest so_far asked has is) (object_grows (made_by levels grounds) rest levels asked so_far is)

  -- if there is room, there is one more
  made_more : (levels : ℕ) (asked : Asked) (so_far : Construction) → 0 < levels → has_room so_far ≡ true → IsRightAsked asked
      → length so_far.objects < length (made_by levels grounds asked so_far).objects
  unfolding made_by
  made_more zero asked so_far some has is = absurd (omega arith)
  made_more (suc levels) asked so_far some has is = by (has_room so_far) has
    where
      by : (b : Bool) → b ≡ true
          → length so_far.objects < length (if b then object_made (made_by levels grounds) levels grounds asked so_far else too_many so_far asked.place).objects
      by false also = absurd (cc)
      by true also =
          let new : MadeObject = record { name = asked.name; entry = asked.entry; class = asked.class; fields = [] } in
          let long = length-append so_far.objects (new ∷ []) in
          let grown = object_grows (made_by levels grounds) (made_grows levels) levels asked so_far is in
          let rest : length (so_far.objects ++ new ∷ []) ≤ length (object_made (made_by levels grounds) levels grounds asked so_far).objects = grown.more in
          omega arith

  -- the object for which a `new` stands is made by then
  pub new_there : (levels : ℕ) (scene : Scenery) (name : List ℕ) (entry : Option ℕ) (creation : Creation) (so_far : Construction) (number : ℕ)
      → IsCalled grounds.facts name → new_datum levels grounds.facts creation so_far ≡ Some (datums.Object number)
      → number < length (new_made (made_by levels grounds) grounds scene name entry creation so_far).objects
  new_there levels scene name entry creation so_far number named is = by (made_class grounds.facts creation) refl is
    where
      some_levels : nat_lt 0 levels ≡ true → 0 < levels
      some_levels enough = grind arith

      inner : (class : Meaning) → made_class grounds.facts creation ≡ Some class → (enough room : Bool) → nat_lt 0 levels ≡ enough → has_room so_far ≡ room
          → (if enough && room then Some (datums.Object (length so_far.objects)) else None) ≡ Some (datums.Object number)
          → number
          < length (made_by levels grounds (asked_object grounds scene so_far.objects name entry creation class) (arguments_read grounds scene creation so_far)).objects
      inner class at true true some has is =
          let same : datums.Object (length so_far.objects) ≡ datums.Object number = same_Some (datums.Object (length so_far.objects)) (datums.Object number) is in
          let number_is : length so_far.objects ≡ number = cc in
          let more : length so_far.objects
          < length (made_by levels grounds (asked_object grounds scene so_far.objects name entry creation class) (arguments_read grounds scene creation so_far)).objects =
          made_more levels (asked_object grounds scene so_far.objects name entry creation class) (arguments_read grounds scene creation so_far)
          (some_levels some) has (named, (creation.class.text, taken grounds.facts creation class at)) in
          omega arith
      inner class at true false some has is = absurd (none-some (datums.Object number) is)
      inner class at false room some has is = absurd (none-some (datums.Object number) is)

      by : (o : Option Meaning) → made_class grounds.facts creation ≡ o
          → option_map_or (λ (class : Meaning). if nat_lt 0 levels && has_room so_far then Some (datums.Object (length so_far.objects)) else None) o None
          ≡ Some (datums.Object number)
          → number
          < length (option_map_or (λ (class : Meaning). made_by levels grounds (asked_object grounds scene so_far.objects name entry creation class)
          (arguments_read grounds scene creation so_far)) o (arguments_read grounds scene creation so_far)).objects
      by None at is = absurd (none-some (datums.Object number) is)
      by (Some class) at is = inner class at (nat_lt 0 levels) (has_room so_far) refl refl is

-- ---- the program

-- what stands at a place of a list with one item written is that item, or stood there
pub set_cases : {X : Type 0} (xs : List X) (i k : ℕ) (x y : X) → slice_get (slice_set xs i x) k ≡ Some y → (y ≡ x) ⊎ (slice_get xs k ≡ Some y)
set_cases [] i k x y at = inr at
set_cases (z ∷ xs) zero zero x y at = inl (sym (same_Some x y at))
set_cases (z ∷ xs) zero (suc k) x y at = inr at
set_cases (z ∷ xs) (suc i) zero x y at = inr at
set_cases (z ∷ xs) (suc i) (suc k) x y at = set_cases xs i k x y at

-- the objects are few, each has a name and a class, and one that a name stands for is there
pub record AreMade (facts : Facts) (progress : Progress) : Type 0 where
  pub few : length progress.so_far.objects ≤ 4096
  pub named : All (IsNamedObject facts) progress.so_far.objects
  pub there : (entry number : ℕ) → slice_get progress.named_objects entry ≡ Some (stands.Made (Some (datums.Object number)))
      → number < length progress.so_far.objects

-- the variable that is declared has its name in the scope
abbrev pub HasOwnName : Facts → Decl → Type 0
HasOwnName facts decl =
    (variable : Variable) → decl ≡ decls.Variable variable
    → (entry number : ℕ) × (slice_get facts.names entry ≡ Some (declared_as number variable.name (sort_of_variable variable)))

pub own_names : (facts : Facts) → facts.names ≡ scope_names facts.program → All (HasOwnName facts) facts.program
own_names facts names = λ k d within variable is.
    let there : slice_get facts.program k ≡ Some (decls.Variable variable) = item_at facts.program k d within ∙ ap (λ (one : Decl). Some one) is in
    let found = stands_from 0 0 facts.program k (decls.Variable variable) variable.name (sort_of_variable variable) there (λ number before. refl) in
    (found.0, 0 + k, ap (λ (some : List Declared). slice_get some found.0) names ∙ found.1)

made_so : (b : Bool) → is_made_sort (if b then sorts.Config else sorts.Object) ≡ true
made_so true = refl
made_so false = refl

-- what is made by `new` is called as it is declared
pub called : (facts : Facts) (variable : Variable) (creation : Creation) → IsName variable.name.text → HasOwnName facts (decls.Variable variable)
    → variable.init ≡ Some (inits.New creation) → IsCalled facts variable.name.text
called facts variable creation is own new =
    let found = own variable refl in
    let sort_is : sort_of_variable variable ≡ sort_of_init variable.declared (Some (inits.New creation)) = ap (sort_of_init variable.declared) new in
    let declared_name : IsDeclaredName facts variable.name.text = record {
      entry = found.0;
      declared = declared_as found.1 variable.name (sort_of_variable variable);
      there = found.2;
      sort = ap is_made_sort sort_is ∙ made_so (is_config_name creation.class.text && is_config_type variable.declared.base variable.declared.bounds);
      same = refl;
    } in
    record { path = one_name variable.name.text is; own = inl declared_name }

module _ (facts : Facts) (fine : All IsFineDecl facts.program) (names : facts.names ≡ scope_names facts.program) where
  -- what is made of a declared object
  abbrev objects_with : ℕ → Variable → Creation → Progress → List MadeObject
  objects_with decl variable creation progress =
      (new_made (made_by most_levels (progress_grounds facts progress)) (progress_grounds facts progress) (bare_scene decl) variable.name.text
      (named_number false facts.names variable.name.text) creation progress.so_far).objects

  with_grows : (decl : ℕ) (variable : Variable) (creation : Creation) (progress : Progress) → IsCalled facts variable.name.text
      → Grows facts progress.so_far.objects (objects_with decl variable creation progress)
  with_grows decl variable creation progress is =
      new_grows (progress_grounds facts progress) fine (made_by most_levels (progress_grounds facts progress))
      (made_grows (progress_grounds facts progress) fine most_levels) (bare_scene decl) variable.name.text
      (named_number false facts.names variable.name.text) creation progress.so_far is

  older : (decl : ℕ) (variable : Variable) (creation : Creation) (progress : Progress) → IsCalled facts variable.name.text → AreMade facts progress
      → (entry number : ℕ) → slice_get progress.named_objects entry ≡ Some (stands.Made (Some (datums.Object number)))
      → number < length (objects_with decl variable creation progress)
  older decl variable creation progress is made entry number at =
      let old : number < length progress.so_far.objects = made.there entry number at in
      let more : length progress.so_far.objects ≤ length (objects_with decl variable creation progress) =
      (with_grows decl variable creation progress is).more in
      omega arith

  newer : (decl : ℕ) (variable : Variable) (creation : Creation) (progress : Progress) → IsCalled facts variable.name.text
      → (number : ℕ) (datum : Option Datum) → new_datum most_levels facts creation progress.so_far ≡ datum
      → stands.Made (Some (datums.Object number)) ≡ stands.Made datum → number < length (objects_with decl variable creation progress)
  newer decl variable creation progress is number None at same = absurd (cc)
  newer decl variable creation progress is number (Some datum) at same =
      let told : datum ≡ datums.Object number = cc in
      new_there (progress_grounds facts progress) fine most_levels (bare_scene decl) variable.name.text (named_number false facts.names variable.name.text)
      creation progress.so_far number is (at ∙ ap (λ (d : Datum). Some d) told)

  still_there : (decl : ℕ) (variable : Variable) (creation : Creation) (progress : Progress) → IsCalled facts variable.name.text → AreMade facts progress
      → (own : Option ℕ) (entry number : ℕ)
      → slice_get (with_named progress.named_objects own (new_datum most_levels facts creation progress.so_far)) entry
      ≡ Some (stands.Made (Some (datums.Object number)))
      → number < length (objects_with decl variable creation progress)
  still_there decl variable creation progress is made None entry number at = older decl variable creation progress is made entry number at
  still_there decl variable creation progress is made (Some own) entry number at =
      elim (set_cases progress.named_objects own entry (stands.Made (new_datum most_levels facts creation progress.so_far))
      (stands.Made (Some (datums.Object number))) at) [
        | inl same ↦ newer decl variable creation progress is number (new_datum most_levels facts creation progress.so_far) refl same
        | inr old ↦ older decl variable creation progress is made entry number old
      ]

  object_right : (decl : ℕ) (variable : Variable) (creation : Creation) (progress : Progress) → IsCalled facts variable.name.text → AreMade facts progress
      → AreMade facts (object_declared facts decl variable creation progress)
  object_right decl variable creation progress is made =
      let grown = with_grows decl variable creation progress is in
      record {
        few = grown.few made.few;
        named = grown.named made.named;
        there = still_there decl variable creation progress is made (named_number false facts.names variable.name.text);
      }

  new_right : (decl : ℕ) (variable : Variable) (creation : Creation) (progress : Progress) (b : Bool) → IsCalled facts variable.name.text → AreMade facts progress
      → AreMade facts (if b then settings_declared facts decl creation progress else object_declared facts decl variable creation progress)
  new_right decl variable creation progress true is made = record { few = made.few; named = made.named; there = made.there }
  new_right decl variable creation progress false is made = object_right decl variable creation progress is made

  one_right : (number : ℕ) (decl : Decl) (progress : Progress) → IsFineDecl decl → HasOwnName facts decl → AreMade facts progress
      → AreMade facts (one_declared facts number decl progress)
  one_right number (decls.Variable variable) progress is own made = by variable.init refl
    where
      by : (o : Option Init) → variable.init ≡ o → AreMade facts (init_declared facts number variable o progress)
      by None at = made
      by (Some (inits.Expr expr)) at = made
      by (Some (inits.New creation)) at =
          new_right number variable creation progress (is_config_sort (sort_of_variable variable)) (called facts variable creation is.1.0 own at) made
  one_right number decl progress is own made = made

  all_right : (number : ℕ) (some : List Decl) (progress : Progress) → All IsFineDecl some → All (HasOwnName facts) some → AreMade facts progress
      → AreMade facts (all_declared facts number some progress)
  all_right number [] progress all own made = made
  all_right number (decl ∷ more) progress all own made =
      all_right (number + 1) more (one_declared facts number decl progress) (All-tail IsFineDecl decl more all) (All-tail (HasOwnName facts) decl more own)
      (one_right number decl progress (All-head IsFineDecl decl more all) (All-head (HasOwnName facts) decl more own) made)

  none_made : (entry number : ℕ) → slice_get (map (λ (name : Declared). stands.Unmade) facts.names) entry ≡ Some (stands.Made (Some (datums.Object number))) → ⊥
  none_made entry number at = by (slice_get facts.names entry) (sym (slice_get-map (λ (name : Declared). stands.Unmade) facts.names entry) ∙ at)
    where
      by : (o : Option Declared) → option_map (λ (name : Declared). stands.Unmade) o ≡ Some (stands.Made (Some (datums.Object number))) → ⊥
      by None is = none-some (stands.Made (Some (datums.Object number))) is
      by (Some declared) is =
          let same : stands.Unmade ≡ stands.Made (Some (datums.Object number)) = same_Some stands.Unmade (stands.Made (Some (datums.Object number))) is in cc

  -- so it is once all are made
  pub made_right : AreMade facts (last_progress facts)
  unfolding last_progress
  made_right =
      all_right 0 facts.program (first_progress facts) fine (own_names facts names)
      (record { few = omega arith; named = All-nil (IsNamedObject facts); there = λ entry number at. absurd (none_made entry number at) })
