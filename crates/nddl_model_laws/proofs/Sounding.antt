-- Where nothing is wrong with how objects are made, each field is set to a value of its kind.
use Rattle.std.proofs.Common.{◌≡◌, ℕ, zero, suc, ◌+◌, ◌==◌, Bool, true, false, not, ◌||◌, ◌&&◌, ◌⊎◌, inl, inr, List, [], ◌∷◌, ◌++◌, length, map, reverse, refl, sym, ◌∙◌, ap, subst, arith}
use Rattle.std.specs.Prelude.{Option, Some, None, All, slice_get, slice_set, codes, is_none, nat_lt, if◌then◌else◌}
use Rattle.std.specs.List.{filter_map, flat_map}
use Rattle.std.specs.Option.{option_map_or, option_or}
use Rattle.std.proofs.lemmas.Bool.Decides.{Decides-eqb}
use Rattle.std.proofs.lemmas.List.{reverse-reverse}
use Rattle.std.proofs.lemmas.List.Elements.{All-nil, All-cons, All-head, All-tail, All-append, All-push, All-weaker, recursion_from_All}
use Rattle.std.proofs.lemmas.Option.{same_Some, none-some}
use Rattle.eu_forest.specs.Ancestors.{ancestry}
use Rattle.model_core.specs.Naming.{full_name}
use Rattle.model_core.proofs.Items.{item_all}
use Rattle.nddl_ast.specs.declared.declaration.Member.{Member}
use Rattle.nddl_ast.specs.declared.declaration.Member.TheVariants as members
use Rattle.nddl_ast.specs.declared.declaration.Set.{Set}
use Rattle.nddl_ast.specs.declared.declaration.Set.TheVariants as sets
use Rattle.nddl_ast.specs.declared.declaration.Typed.{Typed}
use Rattle.nddl_ast.specs.declared.expression.Creation.{Creation}
use Rattle.nddl_ast.specs.declared.expression.Init.TheVariants as inits
use Rattle.nddl_ast.specs.declared.kind.TextKind.TheVariants as faults
use Rattle.nddl_symbols.specs.declared.declared.Declared.{Declared}
use Rattle.nddl_symbols.specs.declared.scope.Meaning.{Meaning}
use Rattle.nddl_symbols.specs.declared.scope.Meaning.TheVariants as meanings
use Rattle.nddl_symbols.specs.Finding.{faults_here}
use Rattle.nddl_symbols.specs.Names.{is_class_sort, scope_names}
use Rattle.nddl_symbols.specs.Scope.{fault_if, meaning_of}
use Rattle.nddl_typeexpr.specs.declared.kind.TypeKind.{TypeKind}
use Rattle.nddl_typeexpr.specs.declared.kind.TypeKind.TheVariants as kinds
use Rattle.nddl_typeexpr.specs.declared.kind.TypeMeaning.{TypeMeaning}
use Rattle.nddl_typeexpr.specs.Bases.{base_kind}
use Rattle.nddl_typeexpr.specs.Types.{is_fine, type_meaning}
use Rattle.nddl_hierarchy.specs.Ancestors.{above, is_every, is_extended, is_same_meaning, means}
use Rattle.nddl_hierarchy.specs.Decls.{members_of}
use Rattle.nddl_hierarchy.specs.Facts.{Facts}
use Rattle.nddl_hierarchy.specs.Members.{member_field}
use Rattle.nddl_declarations.specs.Known.{AreFacts, all_type_faults, fine_meaning}
use Rattle.nddl_declarations.specs.Faults.{all_faults}
use Rattle.nddl_resolve.specs.declared.denoted.Denoted.{Denoted}
use Rattle.nddl_resolve.specs.declared.denoted.Denoted.TheVariants as denoted
use Rattle.nddl_resolve.specs.declared.denoted.Seen.{Seen}
use Rattle.nddl_resolve.specs.Fields.{class_field, field_along, is_builtin_field, is_given_along, number_field, type_value}
use Rattle.nddl_constructors.specs.Bodies.{body_faults, field_in_line, field_kind, set_faults_in, sets_faults}
use Rattle.nddl_constructors.specs.Creations.{creation_faults, is_no_object, is_of_class, set_to_faults}
use Rattle.nddl_constructors.specs.Formals.{around_formals, formal_seen}
use Rattle.nddl_constructors.specs.Wants.{builtin_wants, class_wants, formal_kind, wanted_at}
use Rattle.nddl_construction.specs.declared.made.Datum.{Datum}
use Rattle.nddl_construction.specs.declared.made.Datum.TheVariants as datums
use Rattle.nddl_construction.specs.declared.made.FieldValue.{FieldValue}
use Rattle.nddl_construction.specs.declared.made.MadeObject.{MadeObject}
use Rattle.nddl_construction.specs.declared.made.NamedObject.{NamedObject}
use Rattle.nddl_construction.specs.declared.passing.Passed.{Passed}
use Rattle.nddl_construction.specs.Classes.{constructor_at, constructor_formals, constructor_sets, is_building, line_up, made_class}
use Rattle.nddl_construction.specs.Fitting.{is_datum_within, is_foreign_datum, is_outside_meaning, is_outside_type}
use Rattle.nddl_construction.specs.Outside.{is_outside_field}
use Rattle.nddl_construction.specs.Passing.{constructor_scene, has_foreign_from, is_foreign_formal, is_wrong_super, passed_above, passed_down, passed_from, passed_here, passing_faults, read_faults, super_arguments, wants_above}
use Rattle.nddl_construction.specs.Reading.{datum_at, fine_datum, unmade_faults}
use Rattle.nddl_construction.specs.Scene.{Grounds, Scenery}
use Rattle.nddl_objects.specs.Construction.{Asked, Construction, Subject, field_added, has_room, noted, object_begun, too_deep, too_many, with_field, with_set}
use Rattle.nddl_objects.specs.Finished.{finished_faults}
use Rattle.nddl_objects.specs.Made.{arguments_read, asked_object, body_run, builtin_run, class_run, classes_run, field_given, fields_of, made_by, new_datum, new_made, number_set, object_made, outside_faults, part_run, parts_run}
use Rattle.nddl_laws.specs.Fine.{IsFineDecl, IsFineExpr, IsFineSet}
use Rattle.nddl_laws.proofs.Apart.{all_reverse}
use Rattle.nddl_laws.proofs.Circles.{extends_is}
use Rattle.nddl_laws.proofs.Declared.{IsRightDecl}
use Rattle.nddl_laws.proofs.Known.{meant}
use Rattle.nddl_laws.proofs.Lists.{all_kept}
use Rattle.nddl_laws.proofs.Members.{IsRightAt, members_right}
use Rattle.nddl_laws.proofs.Nothing.{none_first, none_second}
use Rattle.nddl_laws.proofs.Standing.{IsClassEntry}
use Rattle.nddl_laws.proofs.Values.{no_fault, not_so}
use Rattle.nddl_laws.proofs.WholeTypes.{type_means}
use Rattle.nddl_model_laws.proofs.Fielded.{field_value, found_so, own_field, same_field}
use Rattle.nddl_model_laws.proofs.Following.{Follows, begun_follows, class_follows, classes_follow, field_extends, given_follows, made_follows, new_follows, part_follows, parts_follow, set_follows}
use Rattle.nddl_model_laws.proofs.Grounds.{none_before}
use Rattle.nddl_model_laws.proofs.Lined.{Lined, lined, stands_over, stands_top, stands_under}
use Rattle.nddl_model_laws.proofs.Making.{IsCalled, IsClassMeant, IsNamedObject, field_kept, nested_called, new_there, set_cases, taken}
use Rattle.nddl_model_laws.proofs.Meant.{class_sort, meant_as}
use Rattle.nddl_model_laws.proofs.Numbered.{stands_there}
use Rattle.nddl_model_laws.proofs.Passing.{AreWanted, IsChecked, all_passed, constructor_right, formals_sound, next_over, next_top, next_under, own_wants}
use Rattle.nddl_model_laws.proofs.Typing.{AreDeclared, AreFormals, AreTyped, Extends, HasLine, HaveLines, IsDatum, IsKindly, IsTypedField, data_sound, datum_of, datum_stays, extends_not, extends_on, field_stays, kindly_stays, value_sound}

-- ---- values within their types

same_int : (facts : Facts) (objects : List MadeObject) (datum : Datum) → IsKindly facts objects kinds.Int datum → IsDatum facts objects kinds.Int datum
same_int facts objects (datums.Number number) is = is
same_int facts objects (datums.Decimal thousandths) is = absurd is
same_int facts objects (datums.Truth truth) is = absurd is
same_int facts objects (datums.Member entry) is = absurd is
same_int facts objects (datums.Object number) is = absurd is

neither_first : (one other : Bool) → (one || other) ≡ false → one ≡ false
neither_first false other none = refl
neither_first true other none = absurd (let e : true ≡ false = none in cc)

module _ (facts : Facts) (are : AreFacts (scope_names facts.program) facts.program facts) (fine : all_faults facts ≡ [])
    (right : All (IsRightDecl facts) facts.program) where
  -- ---- the types of fields

  abbrev Means : Typed → Type 0
  Means typed = (meaning : TypeMeaning) × (fine_meaning facts typed.declared ≡ Some meaning)

  member_means : (number : ℕ) (member : Member) (typed : Typed) → IsRightAt facts number member → member_field member ≡ Some typed → Means typed
  member_means number (members.Field one) typed is found = subst Means (same_Some one typed found) (type_means facts are fine right number one.declared is.1)
  member_means number (members.Predicate at name parts) typed is found = absurd (none-some typed found)
  member_means number (members.Constructor name formals parts) typed is found = absurd (none-some typed found)

  own_means : (entry : ℕ) (name : List ℕ) (typed : Typed) → own_field facts entry name ≡ Some typed → Means typed
  own_means entry name typed found =
      let some = members_of facts.names facts.program entry in
      let is = members_right facts right entry in
      found_so Means (filter_map member_field some) name typed
      (recursion_from_All Means (filter_map member_field some)
      (all_kept Means member_field some
      (All-weaker (IsRightAt facts is.number) (λ member. (typed : Typed) → member_field member ≡ Some typed → Means typed)
      (λ member one typed there. member_means is.number member typed one there) some is.each))) found

  along_means : (line : List ℕ) (name : List ℕ) (typed : Typed) → field_along facts.names facts.program name line ≡ Some typed → Means typed
  along_means [] name typed found = absurd (none-some typed found)
  along_means (entry ∷ more) name typed found =
      by (own_field facts entry name) refl found (λ there. along_means more name typed there)
    where
      by : (o : Option Typed) → own_field facts entry name ≡ o → option_or o (field_along facts.names facts.program name more) ≡ Some typed
          → (field_along facts.names facts.program name more ≡ Some typed → Means typed) → Means typed
      by None at given rest = rest given
      by (Some one) at given rest = own_means entry name typed (at ∙ given)

  type_is : (typed : Typed) (meaning : TypeMeaning) → fine_meaning facts typed.declared ≡ Some meaning
      → type_meaning facts.names facts.known typed.declared ≡ Some meaning
  type_is typed meaning is = by (is_fine (all_type_faults facts 0 typed.declared)) is
    where
      by : (b : Bool) → (if b then type_meaning facts.names facts.known typed.declared else None) ≡ Some meaning
          → type_meaning facts.names facts.known typed.declared ≡ Some meaning
      by true given = given
      by false given = absurd (none-some meaning given)

  -- a value of a field's kind that doesn't lie outside of its type is of the class
  outside_right : (named_objects : List NamedObject) (objects : List MadeObject) (entry : ℕ) (name : List ℕ) (datum : Datum) (kind : TypeKind)
      → class_field facts true name (meanings.Entry entry) ≡ Some (denoted.Value kind true)
      → is_outside_field (record { facts = facts; named_objects = named_objects }) objects entry name (Some datum) ≡ false
      → IsKindly facts objects kind datum → IsDatum facts objects kind datum
  outside_right named_objects objects entry name datum kind field inside kindly =
      by (field_along facts.names facts.program name (ancestry facts.parents entry)) refl field inside
    where
      number : (b : Bool) → number_field true b ≡ Some (denoted.Value kind true) → IsDatum facts objects kind datum
      number true given =
          let told : denoted.Value kinds.Int true ≡ denoted.Value kind true = same_Some (denoted.Value kinds.Int true) (denoted.Value kind true) given in
          let same : kinds.Int ≡ kind = cc in
          subst (λ (k : TypeKind). IsDatum facts objects k datum) same
          (same_int facts objects datum (subst (λ (k : TypeKind). IsKindly facts objects k datum) (sym same) kindly))
      number false given = absurd (none-some (denoted.Value kind true) given)

      kind_is : (typed : Typed) (o : Option TypeKind) → base_kind facts.names facts.known typed.declared.base ≡ o
          → Some (option_map_or (λ (k : TypeKind). denoted.Value k true) o denoted.Faulty) ≡ Some (denoted.Value kind true)
          → base_kind facts.names facts.known typed.declared.base ≡ Some kind
      kind_is typed None at given =
          absurd (let e : denoted.Faulty ≡ denoted.Value kind true = same_Some denoted.Faulty (denoted.Value kind true) given in cc)
      kind_is typed (Some k) at given =
          let told : denoted.Value k true ≡ denoted.Value kind true = same_Some (denoted.Value k true) (denoted.Value kind true) given in
          let same : k ≡ kind = cc in
          at ∙ ap (λ (one : TypeKind). Some one) same

      by : (o : Option Typed) → field_along facts.names facts.program name (ancestry facts.parents entry) ≡ o
          → option_map_or (λ (typed : Typed). Some (type_value facts.names facts.known true typed.declared)) o
          (number_field true (is_given_along facts.names facts.program name (ancestry facts.parents entry))) ≡ Some (denoted.Value kind true)
          → option_map_or (λ (typed : Typed). is_outside_type (record { facts = facts; named_objects = named_objects }) objects typed.declared (Some datum)) o false ≡ false
          → IsDatum facts objects kind datum
      by None at given within = number (is_given_along facts.names facts.program name (ancestry facts.parents entry)) given
      by (Some typed) at given within =
          let grounds : Grounds = record { facts = facts; named_objects = named_objects } in
          let of = along_means (ancestry facts.parents entry) name typed at in
          let told = meant facts typed.declared of.0 of.1 in
          let base = kind_is typed (base_kind facts.names facts.known typed.declared.base) refl given in
          let same : of.0.kind ≡ kind = ap (λ (m : TypeMeaning). m.kind) told.is_meaning ∙ same_Some told.kind kind (sym told.is_kind ∙ base) in
          let kept : is_outside_meaning grounds objects datum of.0 ≡ false =
          sym (ap (λ (o : Option TypeMeaning). option_map_or (is_outside_meaning grounds objects datum) o false) (type_is typed of.0 of.1)) ∙ within in
          let domestic = neither_first (is_foreign_datum grounds objects (Some of.0.kind) (Some datum)) (not (is_datum_within objects of.0.extent datum)) kept in
          datum_of grounds objects kind datum
          (sym (ap (λ (k : TypeKind). is_foreign_datum grounds objects (Some k) (Some datum)) same) ∙ domestic) kindly

-- ---- fields that are set

-- the object of this number is of this class
abbrev pub IsSubject : List MadeObject → ℕ → Meaning → Type 0
IsSubject objects number class = (object : MadeObject) × (slice_get objects number ≡ Some object) × (object.class ≡ class)

subject_stays : (old new : List MadeObject) (number : ℕ) (class : Meaning) → Extends old new → IsSubject old number class → IsSubject new number class
subject_stays old new number class more is =
    let found = more number is.0 is.1 in (found.0, found.1, found.2 ∙ is.2)

formals_stay : (facts : Facts) (old new : List MadeObject) (formals : List Seen) (values : List (Option Datum)) → Extends old new
    → AreFormals facts old formals values → AreFormals facts new formals values
formals_stay facts old new formals values more is = record {
  once = is.once;
  each = λ number seen datum at value.
      let it = is.each number seen datum at value in (it.0, it.1, datum_stays facts old new more it.0 datum it.2);
}

wanted_stays : (facts : Facts) (old new : List MadeObject) (wants : List (Option TypeKind)) (values : List (Option Datum)) → Extends old new
    → AreWanted facts old wants values → AreWanted facts new wants values
wanted_stays facts old new wants values more is place datum value asked told = kindly_stays facts old new more asked datum (is place datum value asked told)

field_typed : (facts : Facts) (objects : List MadeObject) (number : ℕ) (field : FieldValue) (class : Meaning) → IsSubject objects number class
    → IsTypedField facts objects class field → AreTyped facts objects → AreTyped facts (with_field objects number field)
field_typed facts objects number field class subject one typed k object at =
    let own = subject.0 in
    let new = with_field objects number field in
    let more = field_extends objects number field in
    let e : new ≡ slice_set objects number (field_added own field) =
    ap (λ (o : Option MadeObject). option_map_or (λ (object : MadeObject). slice_set objects number (field_added object field)) o objects) subject.1 in
    elim (set_cases objects number k (field_added own field) object (sym (ap (λ (xs : List MadeObject). slice_get xs k) e) ∙ at)) [
      | inl same ↦
          subst (λ (o : MadeObject). All (IsTypedField facts new o.class) o.fields) (sym same)
          (All-push (IsTypedField facts new own.class) own.fields field
          (All-weaker (IsTypedField facts objects own.class) (IsTypedField facts new own.class)
          (λ one is. field_stays facts objects new more own.class one is) own.fields (typed number own subject.1))
          (field_stays facts objects new more own.class field (subst (λ (c : Meaning). IsTypedField facts objects c field) (sym subject.2) one)))
      | inr other ↦
          All-weaker (IsTypedField facts objects object.class) (IsTypedField facts new object.class)
          (λ one is. field_stays facts objects new more object.class one is) object.fields (typed k object other)
    ]

-- what stands last of a list
pub last_stands : {X : Type 0} (xs : List X) (x : X) → slice_get (xs ++ x ∷ []) (length xs) ≡ Some x
last_stands [] x = refl
last_stands (y ∷ xs) x = last_stands xs x

last_cases : {X : Type 0} (xs : List X) (x : X) (k : ℕ) (y : X) → slice_get (xs ++ x ∷ []) k ≡ Some y → (slice_get xs k ≡ Some y) ⊎ (x ≡ y)
last_cases [] x zero y at = inr (same_Some x y at)
last_cases [] x (suc k) y at = absurd (none-some y at)
last_cases (z ∷ xs) x zero y at = inl at
last_cases (z ∷ xs) x (suc k) y at = last_cases xs x k y at

-- ---- what is known of the objects so far

module _ (facts : Facts) (are : AreFacts (scope_names facts.program) facts.program facts) (fine : all_faults facts ≡ [])
    (right : All (IsRightDecl facts) facts.program) (decls : All IsFineDecl facts.program) (named_objects : List NamedObject) where
  abbrev grounds : Grounds
  grounds = record { facts = facts; named_objects = named_objects }

  -- each object has a name and a class, each field is set to what it may be, and so does each name stand for an object
  pub record IsSound (objects : List MadeObject) : Type 0 where
    pub named : All (IsNamedObject facts) objects
    pub typed : AreTyped facts objects
    pub declared : AreDeclared facts objects named_objects

  -- a class that is meant has a line
  pub meant_line : (class : Meaning) → IsClassMeant facts class → HasLine facts class
  meant_line class is entry same =
      let told_as = meant_as facts (meanings.Entry entry) (subst (IsClassMeant facts) same is) in
      lined facts are fine right entry (by (slice_get facts.names entry) refl (class_sort facts entry told_as.fine))
    where
      by : (o : Option Declared) → slice_get facts.names entry ≡ o → option_map_or (λ (other : Declared). is_class_sort other.sort) o false ≡ true → IsClassEntry facts.names entry
      by None at sort = absurd (let e : false ≡ true = sort in cc)
      by (Some found) at sort = record { declared = found; there = at; sort = sort }

  lines_of : (objects : List MadeObject) → All (IsNamedObject facts) objects → HaveLines facts objects
  lines_of objects named number object at = meant_line object.class (item_all (IsNamedObject facts) objects number object named at).class

  declared_stay : (old new : List MadeObject) → Extends old new → AreDeclared facts old named_objects → AreDeclared facts new named_objects
  declared_stay old new more is entry declared datum at sort made =
      let it = is entry declared datum at sort made in (it.0, it.1, datum_stays facts old new more it.0 datum it.2)

  -- what is sound stays so, if nothing is met that is wrong
  abbrev Keeps : Construction → Construction → Type 0
  Keeps old new = new.first ≡ None → IsSound old.objects → IsSound new.objects

  keeps_on : (one two three : Construction) → Follows two three → Keeps one two → Keeps two three → Keeps one three
  keeps_on one two three follows first second none sound = second none (first (follows.first none) sound)

  set_keeps : (so_far : Construction) (subject : Subject) (name : List ℕ) (datum : Option Datum) (class : Meaning) → IsSubject so_far.objects subject.number class
      → (so_far.first ≡ None → IsSound so_far.objects → IsTypedField facts so_far.objects class (record { name = name; value = datum }))
      → Keeps so_far (with_set so_far subject name datum)
  set_keeps so_far subject name datum class is value none sound =
      let field : FieldValue = record { name = name; value = datum } in
      record {
        named = (field_kept facts so_far.objects subject.number field).named sound.named;
        typed = field_typed facts so_far.objects subject.number field class is (value none sound) sound.typed;
        declared = declared_stay so_far.objects (with_field so_far.objects subject.number field) (field_extends so_far.objects subject.number field) sound.declared;
      }

  -- the value of a field that a class has
  abbrev HasValue : List MadeObject → ℕ → List ℕ → Datum → Type 0
  HasValue objects entry name datum =
      (kind : TypeKind) × (class_field facts true name (meanings.Entry entry) ≡ Some (denoted.Value kind true)) × IsKindly facts objects kind datum

  given_keeps : (subject : Subject) (entry : ℕ) (name : List ℕ) (datum : Option Datum) (so_far : Construction) (class : Meaning)
      → IsSubject so_far.objects subject.number class → HasLine facts class → is_of_class facts (meanings.Entry entry) class ≡ true
      → (so_far.first ≡ None → IsSound so_far.objects → (found : Datum) → datum ≡ Some found → HasValue so_far.objects entry name found)
      → Keeps so_far (field_given grounds subject entry name datum so_far)
  given_keeps subject entry name datum so_far class is line under value =
      let wrong = outside_faults grounds so_far.objects subject entry name datum in
      set_keeps (noted so_far wrong) subject name datum class is
      (λ none sound found told.
      let before = none_before so_far.first wrong none in
      let has = value before.0 sound found told in
      let inside : is_outside_field grounds so_far.objects entry name datum ≡ false =
      not_so (is_outside_field grounds so_far.objects entry name datum) faults.NotInDomain
      (no_fault subject.place.decl subject.place.at (fault_if (is_outside_field grounds so_far.objects entry name datum) faults.NotInDomain) before.1) in (
        has.0,
        same_field facts (meanings.Entry entry) class line true name (denoted.Value has.0 true) under has.1,
        outside_right facts are fine right named_objects so_far.objects entry name found has.0 has.1
            (sym (ap (is_outside_field grounds so_far.objects entry name) told) ∙ inside) has.2,
      ))

  -- a constructor sets what its class has
  field_there : (entry decl at : ℕ) (name : List ℕ) → HasLine facts (meanings.Entry entry)
      → faults_here decl at (fault_if (is_none (field_in_line facts entry name)) faults.Unknown) ≡ []
      → (kind : TypeKind) × (class_field facts true name (meanings.Entry entry) ≡ Some (denoted.Value kind true))
  field_there entry decl at name own none =
      by (class_field facts true name (meanings.Entry entry)) refl
      (not_so (is_none (field_in_line facts entry name)) faults.Unknown (no_fault decl at (fault_if (is_none (field_in_line facts entry name)) faults.Unknown) none))
    where
      by : (o : Option Denoted) → class_field facts true name (meanings.Entry entry) ≡ o → is_none o ≡ false
          → (kind : TypeKind) × (class_field facts true name (meanings.Entry entry) ≡ Some (denoted.Value kind true))
      by None at missing = absurd (let e : true ≡ false = missing in cc)
      by (Some value) at missing =
          let is = field_value facts are fine right (meanings.Entry entry) own true name value at in
          (is.0, at ∙ ap (λ (v : Denoted). Some v) is.1)

  pub object_kind : (kind : TypeKind) → is_no_object (Some kind) ≡ false → (class : Meaning) × (kind ≡ kinds.Object class)
  object_kind kinds.Int never = absurd (let e : true ≡ false = never in cc)
  object_kind kinds.Float never = absurd (let e : true ≡ false = never in cc)
  object_kind kinds.Bool never = absurd (let e : true ≡ false = never in cc)
  object_kind (kinds.Enum number) never = absurd (let e : true ≡ false = never in cc)
  object_kind (kinds.Object class) fits = (class, refl)

  -- a `new` stands for the object that comes next
  pub new_number : (levels : ℕ) (creation : Creation) (so_far : Construction) (found : Datum) → new_datum levels facts creation so_far ≡ Some found
      → found ≡ datums.Object (length so_far.objects)
  new_number levels creation so_far found told = by (made_class facts creation) told
    where
      chosen : (b : Bool) → (if b then Some (datums.Object (length so_far.objects)) else None) ≡ Some found → found ≡ datums.Object (length so_far.objects)
      chosen true given = sym (same_Some (datums.Object (length so_far.objects)) found given)
      chosen false given = absurd (none-some found given)

      by : (o : Option Meaning)
          → option_map_or (λ (class : Meaning). if nat_lt 0 levels && has_room so_far then Some (datums.Object (length so_far.objects)) else None) o None ≡ Some found
          → found ≡ datums.Object (length so_far.objects)
      by None given = absurd (none-some found given)
      by (Some class) given = chosen (nat_lt 0 levels && has_room so_far) given

  -- ---- the classes of a line

  -- the class is what some name of the files means
  abbrev pub IsMeantEntry : ℕ → Type 0
  IsMeantEntry entry = (text : List ℕ) × (meaning_of facts.names text ≡ Some (meanings.Entry entry))

  -- the second class is this one, or is above it, and is meant if it is one of the files
  pub record IsAbove (own class : Meaning) : Type 0 where
    pub under : is_of_class facts class own ≡ true
    pub meant : (entry : ℕ) → class ≡ meanings.Entry entry → IsMeantEntry entry × HasLine facts (meanings.Entry entry)

  or_second : (one two three : Bool) → (one || three) ≡ true → (one || (two || three)) ≡ true
  or_second true two three is = refl
  or_second false true three is = refl
  or_second false false three is = is

  above_more : (entry other : ℕ) → above facts.names facts.program entry ≡ Some (meanings.Entry other)
      → ancestry facts.parents entry ≡ entry ∷ ancestry facts.parents other → (class : Meaning) → IsAbove (meanings.Entry other) class
      → IsAbove (meanings.Entry entry) class
  above_more entry other up line class is =
      let extended : is_extended facts.names facts.program class (ancestry facts.parents entry)
      ≡ (is_same_meaning class (meanings.Entry other) || is_extended facts.names facts.program class (ancestry facts.parents other)) =
      ap (is_extended facts.names facts.program class) line
      ∙ ap (λ (m : Option Meaning). means class m || is_extended facts.names facts.program class (ancestry facts.parents other)) up in
      record {
        under = or_second (is_every class) (is_same_meaning class (meanings.Entry entry)) (is_extended facts.names facts.program class (ancestry facts.parents entry))
            (ap (λ (b : Bool). is_every class || b) extended ∙ is.under);
        meant = is.meant;
      }

  above_own : (entry : ℕ) → IsMeantEntry entry → HasLine facts (meanings.Entry entry) → IsAbove (meanings.Entry entry) (meanings.Entry entry)
  above_own entry is line = record {
    under = ap (λ (b : Bool). b || is_extended facts.names facts.program (meanings.Entry entry) (ancestry facts.parents entry)) ((Decides-eqb entry entry).1 refl);
    meant = λ one same. let e : entry ≡ one = cc in subst (λ (n : ℕ). IsMeantEntry n × HasLine facts (meanings.Entry n)) e (is, line);
  }

  above_objects : (entry : ℕ) → IsAbove (meanings.Entry entry) (meanings.BuiltIn 0)
  above_objects entry = record { under = refl; meant = λ one same. absurd (cc) }

  above_builtin : (entry number : ℕ) → above facts.names facts.program entry ≡ Some (meanings.BuiltIn number) → ancestry facts.parents entry ≡ entry ∷ []
      → IsAbove (meanings.Entry entry) (meanings.BuiltIn number)
  above_builtin entry number up line =
      let extended : is_extended facts.names facts.program (meanings.BuiltIn number) (ancestry facts.parents entry) ≡ true =
      ap (is_extended facts.names facts.program (meanings.BuiltIn number)) line
      ∙ (ap (λ (m : Option Meaning). means (meanings.BuiltIn number) m || false) up ∙ ap (λ (b : Bool). b || false) ((Decides-eqb number number).1 refl)) in
      record {
        under = by (is_every (meanings.BuiltIn number)) extended;
        meant = λ one same. absurd (cc);
      }
    where
      by : (b : Bool) → is_extended facts.names facts.program (meanings.BuiltIn number) (ancestry facts.parents entry) ≡ true
          → (b || (false || is_extended facts.names facts.program (meanings.BuiltIn number) (ancestry facts.parents entry))) ≡ true
      by true extended = refl
      by false extended = extended

  -- all classes of a line are above its first one
  line_above : (levels entry : ℕ) → Lined facts levels entry → IsMeantEntry entry → HasLine facts (meanings.Entry entry)
      → All (IsAbove (meanings.Entry entry)) (line_up facts (meanings.Entry entry))
  line_above zero entry line is own = absurd line
  line_above (suc levels) entry (stands_top one up line items) is own =
      let next = next_top facts entry up line in
      subst (All (IsAbove (meanings.Entry entry))) (sym next.line)
      (All-cons (IsAbove (meanings.Entry entry)) (meanings.Entry entry) (meanings.BuiltIn 0 ∷ []) (above_own entry is own)
      (All-cons (IsAbove (meanings.Entry entry)) (meanings.BuiltIn 0) [] (above_objects entry) (All-nil (IsAbove (meanings.Entry entry)))))
  line_above (suc levels) entry (stands_over number few one up line items apart) is own =
      let next = next_over facts entry number up line in
      subst (All (IsAbove (meanings.Entry entry))) (sym next.line)
      (All-cons (IsAbove (meanings.Entry entry)) (meanings.Entry entry) (meanings.BuiltIn number ∷ []) (above_own entry is own)
      (All-cons (IsAbove (meanings.Entry entry)) (meanings.BuiltIn number) [] (above_builtin entry number up line) (All-nil (IsAbove (meanings.Entry entry)))))
  line_above (suc levels) entry (stands_under other one class up line items apart above_it) is own =
      let next = next_under facts entry other up line in
      let it = extends_is facts.names facts.program entry (meanings.Entry other) up in
      let other_line : HasLine facts (meanings.Entry other) =
      (λ number same. let e : other ≡ number = cc in subst (λ (n : ℕ). (l : ℕ) × Lined facts l n) e (levels, above_it)) in
      subst (All (IsAbove (meanings.Entry entry))) (sym next.line)
      (All-cons (IsAbove (meanings.Entry entry)) (meanings.Entry entry) (line_up facts (meanings.Entry other)) (above_own entry is own)
      (All-weaker (IsAbove (meanings.Entry other)) (IsAbove (meanings.Entry entry)) (above_more entry other up line) (line_up facts (meanings.Entry other))
      (line_above levels other above_it (it.name.text, it.means) other_line)))

  class_above : (class : Meaning) → IsClassMeant facts class → All (IsAbove class) (line_up facts class)
  class_above (meanings.BuiltIn number) is =
      All-cons (IsAbove (meanings.BuiltIn number)) (meanings.BuiltIn number) []
      (record { under = by (is_every (meanings.BuiltIn number)) ((Decides-eqb number number).1 refl); meant = λ one same. absurd (cc) })
      (All-nil (IsAbove (meanings.BuiltIn number)))
    where
      by : (b : Bool) → (number == number) ≡ true → (b || (number == number)) ≡ true
      by true same = refl
      by false same = same
  class_above (meanings.Entry entry) is =
      let told_as = meant_as facts (meanings.Entry entry) is in
      let own = meant_line (meanings.Entry entry) is in
      let found = own entry refl in
      line_above found.0 entry found.1 (told_as.text, told_as.means) own

  -- what holds of the classes of a line holds of those that are passed something
  passed_so : (P : Meaning → Type 0) (objects : List MadeObject) (line : List Meaning) (values : Option (List (Option Datum))) → All P line
      → All (λ (passed : Passed). P passed.class) (passed_from grounds objects line values)
  passed_so P objects [] values all = All-nil (λ (passed : Passed). P passed.class)
  passed_so P objects (class ∷ more) None all = passed_so P objects more None (All-tail P class more all)
  passed_so P objects (class ∷ more) (Some values) all =
      All-append (λ (passed : Passed). P passed.class) (passed_here facts class (Some values)) (passed_from grounds objects more (passed_above grounds objects class (Some values)))
      (by (is_building facts class)) (passed_so P objects more (passed_above grounds objects class (Some values)) (All-tail P class more all))
    where
      by : (b : Bool) → All (λ (passed : Passed). P passed.class) (if b then record { class = class; values = values } ∷ [] else [])
      by true = All-cons (λ (passed : Passed). P passed.class) (record { class = class; values = values }) [] (All-head P class more all)
          (All-nil (λ (passed : Passed). P passed.class))
      by false = All-nil (λ (passed : Passed). P passed.class)

  -- ---- what isn't foreign later wasn't before

  foreign_before : (old new : List MadeObject) → Extends old new → (kind : Option TypeKind) (datum : Option Datum)
      → is_foreign_datum grounds new kind datum ≡ false → is_foreign_datum grounds old kind datum ≡ false
  foreign_before old new more None datum none = refl
  foreign_before old new more (Some kinds.Int) datum none = refl
  foreign_before old new more (Some kinds.Float) datum none = refl
  foreign_before old new more (Some kinds.Bool) datum none = refl
  foreign_before old new more (Some (kinds.Enum number)) datum none = refl
  foreign_before old new more (Some (kinds.Object class)) None none = refl
  foreign_before old new more (Some (kinds.Object class)) (Some (datums.Number number)) none = refl
  foreign_before old new more (Some (kinds.Object class)) (Some (datums.Decimal thousandths)) none = refl
  foreign_before old new more (Some (kinds.Object class)) (Some (datums.Truth truth)) none = refl
  foreign_before old new more (Some (kinds.Object class)) (Some (datums.Member entry)) none = refl
  foreign_before old new more (Some (kinds.Object class)) (Some (datums.Object number)) none = by (slice_get old number) refl
    where
      by : (o : Option MadeObject) → slice_get old number ≡ o → option_map_or (λ (object : MadeObject). not (is_of_class facts class object.class)) o false ≡ false
      by None at = refl
      by (Some object) at =
          let found = more number object at in
          ap (λ (c : Meaning). not (is_of_class facts class c)) (sym found.2)
          ∙ (sym (ap (λ (o : Option MadeObject). option_map_or (λ (one : MadeObject). not (is_of_class facts class one.class)) o false) found.1) ∙ none)

  both_fine : (one other : Bool) → (one || other) ≡ false → (one ≡ false) × (other ≡ false)
  both_fine false other none = (refl, none)
  both_fine true other none = absurd (let e : true ≡ false = none in cc)

  all_foreign_before : (old new : List MadeObject) → Extends old new → (values : List (Option Datum)) (number : ℕ) (formals : List Typed)
      → has_foreign_from grounds new values number formals ≡ false → has_foreign_from grounds old values number formals ≡ false
  all_foreign_before old new more values number [] none = refl
  all_foreign_before old new more values number (typed ∷ rest) none =
      let both = both_fine (is_foreign_formal grounds new values number typed) (has_foreign_from grounds new values (number + 1) rest) none in
      (λ i. foreign_before old new more (formal_kind facts typed) (datum_at values number) both.0 i
      || all_foreign_before old new more values (number + 1) rest both.1 i)

  -- ---- one level

  module _ (texts : (entry : ℕ) (constructor : Member) → IsMeantEntry entry → constructor_at facts.names facts.program entry ≡ Some constructor
      → (decl : ℕ) × (body_faults facts decl entry constructor ≡ [])) (levels : ℕ)
      (rest : (asked : Asked) (so_far : Construction) → IsCalled facts asked.name × IsClassMeant facts asked.class
      → (IsSound so_far.objects → AreWanted facts so_far.objects (class_wants facts asked.class) asked.values)
      → Keeps so_far (made_by levels grounds asked so_far)) where
    pub new_keeps : (scene : Scenery) (name : List ℕ) (entry : Option ℕ) (creation : Creation) (so_far : Construction) → IsCalled facts name
        → All IsFineExpr creation.arguments → AreFormals facts so_far.objects scene.formals scene.values
        → Keeps so_far (new_made (made_by levels grounds) grounds scene name entry creation so_far)
    new_keeps scene name entry creation so_far named right_arguments formals = by (made_class facts creation) refl
      where
        by : (o : Option Meaning) → made_class facts creation ≡ o
            → Keeps so_far
            (option_map_or (λ (class : Meaning). made_by levels grounds (asked_object grounds scene so_far.objects name entry creation class) (arguments_read grounds scene creation so_far))
            o (arguments_read grounds scene creation so_far))
        by None is none sound = sound
        by (Some class) is none sound =
            rest (asked_object grounds scene so_far.objects name entry creation class) (arguments_read grounds scene creation so_far)
            (named, (creation.class.text, taken facts creation class is))
            (λ still place datum value asked told.
            let e : 0 + place ≡ place = omega arith in
            data_sound facts so_far.objects still.typed (lines_of so_far.objects still.named) named_objects still.declared scene (class_wants facts class) 0
            creation.arguments formals right_arguments place datum value asked (ap (wanted_at (class_wants facts class)) e ∙ told))
            none sound

    part_keeps : (scene : Scenery) (subject : Subject) (entry decl : ℕ) (part : Set) (so_far : Construction) (class : Meaning)
        → IsSubject so_far.objects subject.number class → HasLine facts class → HasLine facts (meanings.Entry entry)
        → is_of_class facts (meanings.Entry entry) class ≡ true → IsCalled facts subject.name → IsFineSet part
        → AreFormals facts so_far.objects scene.formals scene.values → set_faults_in facts (around_formals scene.formals) decl entry part ≡ []
        → Keeps so_far (part_run (made_by levels grounds) levels grounds scene subject entry part so_far)
    part_keeps scene subject entry decl (sets.Super at arguments) so_far class is line own under named part_fine formals text = λ none sound. sound
    part_keeps scene subject entry decl (sets.Field name (inits.Expr expr)) so_far class is line own under named part_fine formals text =
        let field = field_in_line facts entry name.text in
        let datum = fine_datum grounds scene so_far.objects (field_kind field) expr in
        given_keeps subject entry name.text datum (noted so_far (unmade_faults grounds scene expr)) class is line under
        (λ none sound found told.
        let there = field_there entry decl name.at name.text own
        (none_first (faults_here decl name.at (fault_if (is_none field) faults.Unknown)) (set_to_faults facts (around_formals scene.formals) decl (field_kind field) (inits.Expr expr)) text) in (
          there.0,
          there.1,
          value_sound facts so_far.objects sound.typed (lines_of so_far.objects sound.named) named_objects sound.declared scene (field_kind field) expr found formals
              part_fine.1 told there.0 (ap field_kind there.1),
        ))
    part_keeps scene subject entry decl (sets.Field name (inits.New creation)) so_far class is line own under named part_fine formals text =
        let field = field_in_line facts entry name.text in
        let full = full_name subject.name name.text in
        let made = new_made (made_by levels grounds) grounds scene full None creation so_far in
        let datum = new_datum levels facts creation so_far in
        let more = new_follows grounds (made_by levels grounds) (made_follows grounds levels) scene full None creation so_far in
        let full_right = nested_called facts subject.name name.text named part_fine.0 in
        let first = faults_here decl name.at (fault_if (is_none field) faults.Unknown) in
        let second = set_to_faults facts (around_formals scene.formals) decl (field_kind field) (inits.New creation) in
        let object = none_first (faults_here decl creation.at (fault_if (is_no_object (field_kind field)) faults.WrongType))
        (creation_faults facts (around_formals scene.formals) decl creation) (none_second first second text) in
        keeps_on so_far made (field_given grounds subject entry name.text datum made)
        (given_follows grounds subject entry name.text datum made)
        (new_keeps scene full None creation so_far full_right part_fine.1.1 formals)
        (given_keeps subject entry name.text datum made class (subject_stays so_far.objects made.objects subject.number class more.more is) line under
        (λ none sound found told.
        let there = field_there entry decl name.at name.text own (none_first first second text) in
        let wanted : is_no_object (Some there.0) ≡ false =
        sym (ap (λ (o : Option Denoted). is_no_object (field_kind o)) there.1)
        ∙ not_so (is_no_object (field_kind field)) faults.WrongType (no_fault decl creation.at (fault_if (is_no_object (field_kind field)) faults.WrongType) object) in
        let of = object_kind there.0 wanted in
        let same = new_number levels creation so_far found told in
        let within = new_there grounds decls levels scene full None creation so_far (length so_far.objects) full_right
        (told ∙ ap (λ (d : Datum). Some d) same) in (
          there.0,
          there.1,
          subst (λ (k : TypeKind). IsKindly facts made.objects k found) (sym of.1)
              (subst (IsKindly facts made.objects (kinds.Object of.0)) (sym same) (stands_there made.objects (length so_far.objects) within)),
        )))

    -- ---- constructors

    parts_keep : (scene : Scenery) (subject : Subject) (entry decl : ℕ) (some : List Set) (so_far : Construction) (class : Meaning)
        → IsSubject so_far.objects subject.number class → HasLine facts class → HasLine facts (meanings.Entry entry)
        → is_of_class facts (meanings.Entry entry) class ≡ true → IsCalled facts subject.name → All IsFineSet some
        → AreFormals facts so_far.objects scene.formals scene.values → flat_map (set_faults_in facts (around_formals scene.formals) decl entry) some ≡ []
        → Keeps so_far (parts_run (made_by levels grounds) levels grounds scene subject entry some so_far)
    parts_keep scene subject entry decl [] so_far class is line own under named parts_fine formals text = λ none sound. sound
    parts_keep scene subject entry decl (part ∷ more) so_far class is line own under named parts_fine formals text =
        let makes = made_by levels grounds in
        let next = part_run makes levels grounds scene subject entry part so_far in
        let first = set_faults_in facts (around_formals scene.formals) decl entry part in
        let second = flat_map (set_faults_in facts (around_formals scene.formals) decl entry) more in
        let follows = part_follows grounds makes (made_follows grounds levels) levels scene subject entry part so_far in
        keeps_on so_far next (parts_run makes levels grounds scene subject entry more next)
        (parts_follow grounds makes (made_follows grounds levels) levels scene subject entry more next)
        (part_keeps scene subject entry decl part so_far class is line own under named (All-head IsFineSet part more parts_fine) formals (none_first first second text))
        (parts_keep scene subject entry decl more next class (subject_stays so_far.objects next.objects subject.number class follows.more is) line own under named
        (All-tail IsFineSet part more parts_fine) (formals_stay facts so_far.objects next.objects scene.formals scene.values follows.more formals)
        (none_second first second text))

    body_text : (decl entry : ℕ) (constructor : Member) → body_faults facts decl entry constructor ≡ []
        → sets_faults facts (around_formals (map (formal_seen facts) (constructor_formals constructor))) decl entry (constructor_sets constructor) ≡ []
    unfolding body_faults
    body_text decl entry (members.Constructor name formals body) none = none
    body_text decl entry (members.Field typed) none = refl
    body_text decl entry (members.Predicate at name parts) none = refl

    -- nothing foreign is passed
    passed_fine : (objects : List MadeObject) (subject : Subject) (entry : ℕ) (values : List (Option Datum)) (constructor : Member)
        → passing_faults grounds objects subject.place entry values constructor ≡ [] → has_foreign_from grounds objects values 0 (constructor_formals constructor) ≡ false
    passed_fine objects subject entry values constructor none =
        let foreign = has_foreign_from grounds objects values 0 (constructor_formals constructor) in
        let wrong = is_wrong_super (wants_above facts entry) (constructor_sets constructor) in
        let first = faults_here subject.place.decl subject.place.at (fault_if foreign faults.NotInDomain) in
        let second = faults_here subject.place.decl subject.place.at (fault_if wrong faults.WrongCount) in
        let third = read_faults grounds (constructor_scene facts entry constructor values) (super_arguments (constructor_sets constructor)) in
        not_so foreign faults.NotInDomain (no_fault subject.place.decl subject.place.at (fault_if foreign faults.NotInDomain) (none_first first (second ++ third) none))

    body_keeps : (subject : Subject) (entry decl : ℕ) (values : List (Option Datum)) (constructor : Member) (so_far : Construction) (class : Meaning)
        → IsSubject so_far.objects subject.number class → HasLine facts class → HasLine facts (meanings.Entry entry)
        → is_of_class facts (meanings.Entry entry) class ≡ true → IsCalled facts subject.name → constructor_at facts.names facts.program entry ≡ Some constructor
        → AreWanted facts so_far.objects (map (formal_kind facts) (constructor_formals constructor)) values → body_faults facts decl entry constructor ≡ []
        → Keeps so_far (body_run (made_by levels grounds) levels grounds subject entry values constructor so_far)
    body_keeps subject entry decl values constructor so_far class is line own under named at wanted text none sound =
        let makes = made_by levels grounds in
        let wrong = passing_faults grounds so_far.objects subject.place entry values constructor in
        let scene = constructor_scene facts entry constructor values in
        let whole = constructor_right facts are fine right entry constructor at in
        let follows = parts_follow grounds makes (made_follows grounds levels) levels scene subject entry (constructor_sets constructor) (noted so_far wrong) in
        let before = none_before so_far.first wrong (follows.first none) in
        let formals = formals_sound grounds so_far.objects constructor values whole wanted (passed_fine so_far.objects subject entry values constructor before.1) in
        parts_keep scene subject entry decl (constructor_sets constructor) (noted so_far wrong) class is line own under named whole.parts formals
        (body_text decl entry constructor text) none sound

    -- ---- built-in classes

    -- a number of a built-in class is one of an object of a class under it
    number_typed : (objects : List MadeObject) (class : Meaning) (number place : ℕ) (word : List ℕ) (values : List (Option Datum)) → HasLine facts class
        → is_of_class facts (meanings.BuiltIn number) class ≡ true → is_builtin_field word number ≡ true
        → wanted_at (builtin_wants number) place ≡ Some kinds.Int → AreWanted facts objects (builtin_wants number) values
        → IsTypedField facts objects class (record { name = word; value = datum_at values place })
    number_typed objects class number place word values line under has asked wanted datum told = (
      kinds.Int,
      same_field facts (meanings.BuiltIn number) class line true word (denoted.Value kinds.Int true) under (ap (number_field true) has),
      same_int facts objects datum (wanted place datum told kinds.Int asked),
    )

    builtin_keeps : (subject : Subject) (number : ℕ) (values : List (Option Datum)) (so_far : Construction) (class : Meaning)
        → IsSubject so_far.objects subject.number class → HasLine facts class → is_of_class facts (meanings.BuiltIn number) class ≡ true
        → AreWanted facts so_far.objects (builtin_wants number) values → Keeps so_far (builtin_run subject number values so_far)
    builtin_keeps subject number values so_far class is line under wanted = by (number == 2) refl (number == 3) refl
      where
        by : (two : Bool) → (number == 2) ≡ two → (three : Bool) → (number == 3) ≡ three
            → Keeps so_far
            (if two then number_set subject (codes "capacity") values 0 so_far
            else (if three
            then number_set subject (codes "high") values 2
            (number_set subject (codes "low") values 1 (number_set subject (codes "initial") values 0 so_far))
            else so_far))
        by false is_two false is_three = λ none sound. sound
        by true is_two three is_three =
            let e : number ≡ 2 = (Decides-eqb number 2).0 is_two in
            let has : is_builtin_field (codes "capacity") number ≡ true = subst (λ (n : ℕ). is_builtin_field (codes "capacity") n ≡ true) (sym e) refl in
            let asked : wanted_at (builtin_wants number) 0 ≡ Some kinds.Int = subst (λ (n : ℕ). wanted_at (builtin_wants n) 0 ≡ Some kinds.Int) (sym e) refl in
            set_keeps so_far subject (codes "capacity") (datum_at values 0) class is
            (λ none sound. number_typed so_far.objects class number 0 (codes "capacity") values line under has asked wanted)
        by false is_two true is_three =
            let e : number ≡ 3 = (Decides-eqb number 3).0 is_three in
            let has_initial : is_builtin_field (codes "initial") number ≡ true = subst (λ (n : ℕ). is_builtin_field (codes "initial") n ≡ true) (sym e) refl in
            let has_low : is_builtin_field (codes "low") number ≡ true = subst (λ (n : ℕ). is_builtin_field (codes "low") n ≡ true) (sym e) refl in
            let has_high : is_builtin_field (codes "high") number ≡ true = subst (λ (n : ℕ). is_builtin_field (codes "high") n ≡ true) (sym e) refl in
            let asked_initial : wanted_at (builtin_wants number) 0 ≡ Some kinds.Int = subst (λ (n : ℕ). wanted_at (builtin_wants n) 0 ≡ Some kinds.Int) (sym e) refl in
            let asked_low : wanted_at (builtin_wants number) 1 ≡ Some kinds.Int = subst (λ (n : ℕ). wanted_at (builtin_wants n) 1 ≡ Some kinds.Int) (sym e) refl in
            let asked_high : wanted_at (builtin_wants number) 2 ≡ Some kinds.Int = subst (λ (n : ℕ). wanted_at (builtin_wants n) 2 ≡ Some kinds.Int) (sym e) refl in
            let one = number_set subject (codes "initial") values 0 so_far in
            let two = number_set subject (codes "low") values 1 one in
            let last = number_set subject (codes "high") values 2 two in
            let to_one = set_follows so_far subject (codes "initial") (datum_at values 0) in
            let to_two = set_follows one subject (codes "low") (datum_at values 1) in
            let to_last = set_follows two subject (codes "high") (datum_at values 2) in
            let is_one = subject_stays so_far.objects one.objects subject.number class to_one.more is in
            let is_two = subject_stays one.objects two.objects subject.number class to_two.more is_one in
            let wanted_one = wanted_stays facts so_far.objects one.objects (builtin_wants number) values to_one.more wanted in
            let wanted_two = wanted_stays facts one.objects two.objects (builtin_wants number) values to_two.more wanted_one in
            keeps_on so_far two last to_last
            (keeps_on so_far one two to_two
            (set_keeps so_far subject (codes "initial") (datum_at values 0) class is
            (λ none sound. number_typed so_far.objects class number 0 (codes "initial") values line under has_initial asked_initial wanted))
            (set_keeps one subject (codes "low") (datum_at values 1) class is_one
            (λ none sound. number_typed one.objects class number 1 (codes "low") values line under has_low asked_low wanted_one)))
            (set_keeps two subject (codes "high") (datum_at values 2) class is_two
            (λ none sound. number_typed two.objects class number 2 (codes "high") values line under has_high asked_high wanted_two))

    -- ---- any class

    -- what a class with a constructor wants are the kinds of its formals
    wants_formals : (steps entry : ℕ) → Lined facts steps entry → (constructor : Member) → constructor_at facts.names facts.program entry ≡ Some constructor
        → class_wants facts (meanings.Entry entry) ≡ map (formal_kind facts) (constructor_formals constructor)
    wants_formals zero entry line constructor at = absurd line
    wants_formals (suc steps) entry (stands_top one up line items) constructor at = own_wants facts entry [] line constructor at
    wants_formals (suc steps) entry (stands_over number few one up line items apart) constructor at = own_wants facts entry [] line constructor at
    wants_formals (suc steps) entry (stands_under other one class up line items apart above_it) constructor at =
        own_wants facts entry (ancestry facts.parents other) line constructor at

    -- what is right of a class whose constructor runs
    record IsRun (objects : List MadeObject) (own : Meaning) (passed : Passed) : Type 0 where
      over : IsAbove own passed.class
      wanted : AreWanted facts objects (class_wants facts passed.class) passed.values

    class_keeps : (subject : Subject) (class own : Meaning) (values : List (Option Datum)) (so_far : Construction)
        → IsSubject so_far.objects subject.number own → HasLine facts own → IsCalled facts subject.name → IsRun so_far.objects own (record { class = class; values = values })
        → Keeps so_far (class_run (made_by levels grounds) levels grounds subject class values so_far)
    unfolding class_wants
    class_keeps subject (meanings.BuiltIn number) own values so_far is line named run = builtin_keeps subject number values so_far own is line run.over.under run.wanted
    class_keeps subject (meanings.Entry entry) own values so_far is line named run = by (constructor_at facts.names facts.program entry) refl
      where
        by : (o : Option Member) → constructor_at facts.names facts.program entry ≡ o
            → Keeps so_far
            (option_map_or (λ (constructor : Member). body_run (made_by levels grounds) levels grounds subject entry values constructor so_far) o so_far)
        by None at = λ none sound. sound
        by (Some constructor) at =
            let meant_so = run.over.meant entry refl in
            let found = meant_so.1 entry refl in
            let text = texts entry constructor meant_so.0 at in
            body_keeps subject entry text.0 values constructor so_far own is line meant_so.1 run.over.under named at
            (subst (λ (wants : List (Option TypeKind)). AreWanted facts so_far.objects wants values) (wants_formals found.0 entry found.1 constructor at) run.wanted) text.1

    classes_keep : (subject : Subject) (own : Meaning) (some : List Passed) (so_far : Construction) → IsSubject so_far.objects subject.number own → HasLine facts own
        → IsCalled facts subject.name → All (IsRun so_far.objects own) some
        → Keeps so_far (classes_run (made_by levels grounds) levels grounds subject some so_far)
    classes_keep subject own [] so_far is line named runs = λ none sound. sound
    classes_keep subject own (passed ∷ more) so_far is line named runs =
        let makes = made_by levels grounds in
        let next = class_run makes levels grounds subject passed.class passed.values so_far in
        let follows = class_follows grounds makes (made_follows grounds levels) levels subject passed.class passed.values so_far in
        keeps_on so_far next (classes_run makes levels grounds subject more next) (classes_follow grounds makes (made_follows grounds levels) levels subject more next)
        (class_keeps subject passed.class own passed.values so_far is line named (All-head (IsRun so_far.objects own) passed more runs))
        (classes_keep subject own more next (subject_stays so_far.objects next.objects subject.number own follows.more is) line named
        (All-weaker (IsRun so_far.objects own) (IsRun next.objects own)
        (λ one run. record {
          over = run.over;
          wanted = wanted_stays facts so_far.objects next.objects (class_wants facts one.class) one.values follows.more run.wanted;
        }) more (All-tail (IsRun so_far.objects own) passed more runs)))

    -- ---- what has run was passed nothing foreign

    one_checked : (objects : List MadeObject) (typed : AreTyped facts objects) (lines : HaveLines facts objects) (declared : AreDeclared facts objects named_objects)
        (subject : Subject) (passed : Passed) (so_far : Construction) → Extends objects so_far.objects
        → (class_run (made_by levels grounds) levels grounds subject passed.class passed.values so_far).first ≡ None
        → IsChecked facts are fine right named_objects objects typed lines declared passed
    one_checked objects typed lines declared subject passed so_far more none entry constructor class at =
        let makes = made_by levels grounds in
        let wrong = passing_faults grounds so_far.objects subject.place entry passed.values constructor in
        let scene = constructor_scene facts entry constructor passed.values in
        let run : class_run makes levels grounds subject passed.class passed.values so_far ≡ body_run makes levels grounds subject entry passed.values constructor so_far =
        ap (λ (c : Meaning). class_run makes levels grounds subject c passed.values so_far) class
        ∙ ap (λ (o : Option Member). option_map_or (λ (one : Member). body_run makes levels grounds subject entry passed.values one so_far) o so_far) at in
        let follows = parts_follow grounds makes (made_follows grounds levels) levels scene subject entry (constructor_sets constructor) (noted so_far wrong) in
        let still : (noted so_far wrong).first ≡ None = follows.first (ap (λ (c : Construction). c.first) (sym run) ∙ none) in
        let before = none_before so_far.first wrong still in
        all_foreign_before objects so_far.objects more passed.values 0 (constructor_formals constructor)
        (passed_fine so_far.objects subject entry passed.values constructor before.1)

    all_checked : (objects : List MadeObject) (typed : AreTyped facts objects) (lines : HaveLines facts objects) (declared : AreDeclared facts objects named_objects)
        (subject : Subject) (some : List Passed) (so_far : Construction) → Extends objects so_far.objects
        → (classes_run (made_by levels grounds) levels grounds subject some so_far).first ≡ None
        → All (IsChecked facts are fine right named_objects objects typed lines declared) some
    all_checked objects typed lines declared subject [] so_far more none = All-nil (IsChecked facts are fine right named_objects objects typed lines declared)
    all_checked objects typed lines declared subject (passed ∷ rest_of) so_far more none =
        let makes = made_by levels grounds in
        let next = class_run makes levels grounds subject passed.class passed.values so_far in
        let later = classes_follow grounds makes (made_follows grounds levels) levels subject rest_of next in
        let here = class_follows grounds makes (made_follows grounds levels) levels subject passed.class passed.values so_far in
        All-cons (IsChecked facts are fine right named_objects objects typed lines declared) passed rest_of
        (one_checked objects typed lines declared subject passed so_far more (later.first none))
        (all_checked objects typed lines declared subject rest_of next (extends_on objects so_far.objects next.objects more here.more) none)

    -- ---- an object

    begun_sound : (asked : Asked) (so_far : Construction) → IsCalled facts asked.name × IsClassMeant facts asked.class → IsSound so_far.objects
        → IsSound (object_begun so_far asked).objects
    begun_sound asked so_far right_asked sound =
        let new : MadeObject = record { name = asked.name; entry = asked.entry; class = asked.class; fields = [] } in
        let follows = begun_follows grounds (made_by levels grounds) (made_follows grounds levels) so_far asked in
        let objects = so_far.objects ++ new ∷ [] in
        record {
          named = All-push (IsNamedObject facts) so_far.objects new sound.named (record { name = right_asked.0; class = right_asked.1 });
          typed = λ k object at. elim (last_cases so_far.objects new k object at) [
            | inl old ↦
                All-weaker (IsTypedField facts so_far.objects object.class) (IsTypedField facts objects object.class)
                (λ one is. field_stays facts so_far.objects objects follows.more object.class one is) object.fields (sound.typed k object old)
            | inr same ↦
                subst (λ (o : MadeObject). All (IsTypedField facts objects o.class) o.fields) same (All-nil (IsTypedField facts objects asked.class))
          ];
          declared = declared_stay so_far.objects objects follows.more sound.declared;
        }

    object_keeps : (asked : Asked) (so_far : Construction) → IsCalled facts asked.name × IsClassMeant facts asked.class
        → (IsSound so_far.objects → AreWanted facts so_far.objects (class_wants facts asked.class) asked.values)
        → Keeps so_far (object_made (made_by levels grounds) levels grounds asked so_far)
    unfolding passed_down
    object_keeps asked so_far right_asked wanted none sound =
        let makes = made_by levels grounds in
        let new : MadeObject = record { name = asked.name; entry = asked.entry; class = asked.class; fields = [] } in
        let begun = object_begun so_far asked in
        let subject : Subject = record { name = asked.name; place = asked.place; number = length so_far.objects } in
        let some = passed_down grounds begun.objects asked.class asked.values in
        let from = passed_from grounds begun.objects (line_up facts asked.class) (Some asked.values) in
        let run = classes_run makes levels grounds subject some begun in
        let run_none : run.first ≡ None = finished_first asked so_far none in
        let now = begun_sound asked so_far right_asked sound in
        let lines = lines_of begun.objects now.named in
        let line = meant_line asked.class right_asked.1 in
        let follows = begun_follows grounds makes (made_follows grounds levels) so_far asked in
        let Checked : Passed → Type 0 = λ passed. IsChecked facts are fine right named_objects begun.objects now.typed lines now.declared passed in
        let checked : All Checked some = all_checked begun.objects now.typed lines now.declared subject some begun (extends_not begun.objects) run_none in
        let checked_from : All Checked from = subst (All Checked) (reverse-reverse from) (all_reverse Checked (reverse from) checked) in
        let fits = all_passed facts are fine right named_objects begun.objects now.typed lines now.declared asked.class line asked.values
        (wanted_stays facts so_far.objects begun.objects (class_wants facts asked.class) asked.values follows.more (wanted sound)) checked_from in
        let over = passed_so (IsAbove asked.class) begun.objects (line_up facts asked.class) (Some asked.values) (class_above asked.class right_asked.1) in
        let runs : All (IsRun begun.objects asked.class) from = (λ k d within. record { over = over k d within; wanted = fits k d within }) in
        let all_runs : All (IsRun begun.objects asked.class) (reverse from) = all_reverse (IsRun begun.objects asked.class) from runs in
        classes_keep subject asked.class some begun (new, last_stands so_far.objects new, refl) line right_asked.0 all_runs run_none now
      where
        finished_first : (asked : Asked) (so_far : Construction) → (object_made (made_by levels grounds) levels grounds asked so_far).first ≡ None
            → (classes_run (made_by levels grounds) levels grounds
            (record { name = asked.name; place = asked.place; number = length so_far.objects })
            (passed_down grounds (object_begun so_far asked).objects asked.class asked.values) (object_begun so_far asked)).first ≡ None
        finished_first asked so_far none =
            let subject : Subject = record { name = asked.name; place = asked.place; number = length so_far.objects } in
            let begun = object_begun so_far asked in
            let run = classes_run (made_by levels grounds) levels grounds subject (passed_down grounds begun.objects asked.class asked.values) begun in
            (none_before run.first (finished_faults facts subject.place (line_up facts asked.class) (fields_of run.objects subject.number)) none).0

  -- so it is of all that is made
  pub made_keeps : (texts : (entry : ℕ) (constructor : Member) → IsMeantEntry entry → constructor_at facts.names facts.program entry ≡ Some constructor
      → (decl : ℕ) × (body_faults facts decl entry constructor ≡ [])) (levels : ℕ) (asked : Asked) (so_far : Construction)
      → IsCalled facts asked.name × IsClassMeant facts asked.class
      → (IsSound so_far.objects → AreWanted facts so_far.objects (class_wants facts asked.class) asked.values)
      → Keeps so_far (made_by levels grounds asked so_far)
  unfolding made_by
  made_keeps texts zero asked so_far right_asked wanted = λ none sound. by (has_room so_far) sound
    where
      by : (b : Bool) → IsSound so_far.objects → IsSound (too_deep (if b then so_far else too_many so_far asked.place) asked.place).objects
      by true sound = sound
      by false sound = sound
  made_keeps texts (suc levels) asked so_far right_asked wanted = by (has_room so_far) (made_keeps texts levels)
    where
      by : (b : Bool)
          → ((inner : Asked) (mid : Construction) → IsCalled facts inner.name × IsClassMeant facts inner.class
          → (IsSound mid.objects → AreWanted facts mid.objects (class_wants facts inner.class) inner.values) → Keeps mid (made_by levels grounds inner mid))
          → Keeps so_far (if b then object_made (made_by levels grounds) levels grounds asked so_far else too_many so_far asked.place)
      by false rest = λ none sound. sound
      by true rest = object_keeps texts levels rest asked so_far right_asked wanted
