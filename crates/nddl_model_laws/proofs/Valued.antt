-- The values of an object are of the kinds of its fields.
use Rattle.std.proofs.Common.{◌≡◌, ℕ, suc, ◌<◌, ◌⊎◌, inl, inr, Bool, true, false, List, [], ◌∷◌, length, map, ℤ, pos, refl, sym, ◌∙◌, ap, subst, arith}
use Rattle.std.specs.Prelude.{Option, Some, None, All, slice_get, if◌then◌else◌}
use Rattle.std.specs.List.{AllZip}
use Rattle.std.specs.Option.{option_map, option_map_or}
use Rattle.std.proofs.lemmas.Int.{ints}
use Rattle.std.proofs.lemmas.List.Elements.{All-nil, All-cons, All-head, All-tail}
use Rattle.std.proofs.lemmas.Option.{same_Some, slice_get-map}
use Rattle.model_core.specs.declared.class.Class.{Class}
use Rattle.model_core.specs.declared.class.Object.{Object}
use Rattle.model_core.specs.declared.model.Model.{Model}
use Rattle.model_core.specs.declared.variable.ValueKind.{ValueKind}
use Rattle.model_core.specs.declared.variable.VarDecl.{VarDecl}
use Rattle.model_core.specs.Kinds.{IsKind, IsValueOf}
use Rattle.model_core.specs.Lawful.{IsLawfulEnum}
use Rattle.model_core.proofs.Items.{item_all, item_within}
use Rattle.nddl_symbols.specs.declared.declared.Declared.{Declared}
use Rattle.nddl_symbols.specs.declared.declared.Sort.TheVariants as sorts
use Rattle.nddl_symbols.specs.declared.scope.Meaning.{Meaning}
use Rattle.nddl_symbols.specs.declared.scope.Meaning.TheVariants as meanings
use Rattle.nddl_typeexpr.specs.declared.kind.TypeKind.{TypeKind}
use Rattle.nddl_typeexpr.specs.declared.kind.TypeKind.TheVariants as kinds
use Rattle.nddl_hierarchy.specs.Facts.{Facts}
use Rattle.nddl_declarations.specs.Domains.{value_kind}
use Rattle.nddl_types.specs.Classes.{class_number, enums_of}
use Rattle.nddl_resolve.specs.declared.denoted.Denoted.TheVariants as denoted
use Rattle.nddl_resolve.specs.Fields.{class_field}
use Rattle.nddl_construction.specs.declared.made.Datum.{Datum}
use Rattle.nddl_construction.specs.declared.made.Datum.TheVariants as datums
use Rattle.nddl_construction.specs.declared.made.FieldValue.{FieldValue}
use Rattle.nddl_construction.specs.declared.made.MadeObject.{MadeObject}
use Rattle.nddl_construction.specs.Fields.{field_datum}
use Rattle.nddl_objects.specs.Modelled.{datum_value, field_value, field_values, fields_of_class, member_value, modelled_object}
use Rattle.nddl_terms.specs.declared.lexicon.Attribute.{Attribute}
use Rattle.nddl_terms.specs.Lexicon.{shape_fields}
use Rattle.nddl_instance.specs.Modelled.{attribute_variables, modelled_class}
use Rattle.nddl_laws.proofs.Declared.{enums_right}
use Rattle.nddl_laws.proofs.Numbers.{HasMember, member_there}
use Rattle.nddl_problem.specs.Compiled.{compiled_model}
use Rattle.nddl_problem.specs.Known.{Known, lexicon_known, progress_known}
use Rattle.nddl_model_laws.specs.Faultless.{IsFaultless}
use Rattle.nddl_model_laws.specs.Valued.{HasFieldValues}
use Rattle.nddl_model_laws.proofs.Grounds.{known_are, known_decls, known_fine, known_right, objects_fine}
use Rattle.nddl_model_laws.proofs.Making.{IsClassMeant, IsNamedObject}
use Rattle.nddl_model_laws.proofs.Numbered.{stands_there}
use Rattle.nddl_model_laws.proofs.Owned.{HasKindOf, builtin_has, class_has}
use Rattle.nddl_model_laws.proofs.Placed.{class_there, meaning_fields}
use Rattle.nddl_model_laws.proofs.Programmed.{both_none, last_sound, written_fine}
use Rattle.nddl_model_laws.proofs.Sounding.{IsSound, meant_line}
use Rattle.nddl_model_laws.proofs.Tables.{class_fields_like, known_class}
use Rattle.nddl_model_laws.proofs.Typing.{IsDatum, IsTypedField, typed_datum}
use Rattle.nddl_model_laws.proofs.Wide.{IsLike}

-- ---- one value

module _ (facts : Facts) (objects : List MadeObject) (model : Model) (enums_lawful : All IsLawfulEnum model.enums)
    (members : (entry number place : ℕ) (declared : Declared) → slice_get facts.names entry ≡ Some declared → declared.sort ≡ sorts.Member number place
    → HasMember model.enums number place)
    (there : (number : ℕ) (object : MadeObject) → slice_get objects number ≡ Some object → (found : Object) × (slice_get model.objects number ≡ Some found)) where
  truth_right : (truth : Bool) → ((if truth then pos 1 else pos 0) ≡ pos 0) ⊎ ((if truth then pos 1 else pos 0) ≡ pos 1)
  truth_right true = inr refl
  truth_right false = inl refl

  -- what a value stands for is of its kind
  datum_right : (kind : TypeKind) (datum : Datum) → IsDatum facts objects kind datum → IsValueOf model (value_kind kind) (datum_value facts.names (Some datum))
  datum_right kinds.Int (datums.Number number) is = is
  datum_right kinds.Float (datums.Decimal thousandths) is = is
  datum_right kinds.Bool (datums.Truth truth) is = truth_right truth
  datum_right (kinds.Enum number) (datums.Member entry) is =
      let has = members entry number is.place is.declared is.there is.sort in
      let value : option_map_or (λ (declared : Declared). member_value declared.sort) (slice_get facts.names entry) (pos 0) ≡ pos is.place =
      ap (λ (o : Option Declared). option_map_or (λ (declared : Declared). member_value declared.sort) o (pos 0)) is.there ∙ ap member_value is.sort in
      record {
        found = has.found;
        is_enum = has.there;
        place = is.place;
        is_place = value;
        member = has.member;
        is_member = has.is_member;
      }
  datum_right (kinds.Object class) (datums.Object number) is =
      let found = there number is.object is.there in (found.0, (number, refl, found.1))
  datum_right kind datum is = absurd is

  -- nothing has the value 0, and this is of each kind
  nothing_right : (kind : TypeKind) → IsKind model (value_kind kind) → 0 < length objects → IsValueOf model (value_kind kind) (pos 0)
  nothing_right kinds.Int is some = (omega (arith, ints), omega (arith, ints))
  nothing_right kinds.Float is some = (omega (arith, ints), omega (arith, ints))
  nothing_right kinds.Bool is some = inl refl
  nothing_right (kinds.Enum number) is some =
      let lawful = item_all IsLawfulEnum model.enums number is.0 enums_lawful is.1 in
      let first = stands_there is.0.members 0 lawful.some in
      record { found = is.0; is_enum = is.1; place = 0; is_place = refl; member = first.0; is_member = first.1 }
  nothing_right (kinds.Object class) is some =
      let first = stands_there objects 0 some in
      let found = there 0 first.0 first.1 in
      (found.0, (0, refl, found.1))

  -- the value of a field is of its kind
  value_right : (class : Meaning) (fields : List FieldValue) (name : List ℕ) (kind : TypeKind) → All (IsTypedField facts objects class) fields
      → class_field facts true name class ≡ Some (denoted.Value kind true) → IsKind model (value_kind kind) → 0 < length objects
      → IsValueOf model (value_kind kind) (field_value facts.names fields name)
  value_right class fields name kind typed field is some = by (field_datum name fields) refl
    where
      by : (o : Option Datum) → field_datum name fields ≡ o → IsValueOf model (value_kind kind) (datum_value facts.names o)
      by None at = nothing_right kind is some
      by (Some datum) at =
          let it = typed_datum facts objects class fields name datum typed at in
          let told : denoted.Value it.0 true ≡ denoted.Value kind true = same_Some (denoted.Value it.0 true) (denoted.Value kind true) (sym it.1 ∙ field) in
          let same : it.0 ≡ kind = cc in
          datum_right kind datum (subst (λ (k : TypeKind). IsDatum facts objects k datum) same it.2)

  -- so are those of all fields of a class
  values_right : (class : Meaning) (fields : List FieldValue) (variables : List VarDecl) (attributes : List Attribute) → All (IsTypedField facts objects class) fields
      → 0 < length objects → All (HasKindOf facts class) variables → AllZip (IsLike model) variables attributes
      → AllZip (λ (variable : VarDecl) (value : ℤ). IsValueOf model variable.kind value) (attribute_variables attributes) (field_values facts.names fields variables)
  values_right class fields [] [] typed some has likes = tt
  values_right class fields [] (attribute ∷ attributes) typed some has likes = absurd likes
  values_right class fields (variable ∷ variables) [] typed some has likes = absurd likes
  values_right class fields (variable ∷ variables) (attribute ∷ attributes) typed some has likes =
      let one = All-head (HasKindOf facts class) variable variables has in
      let same : value_kind one.0 ≡ attribute.shape.kind = sym one.2 ∙ likes.0.kind in
      let kind : IsKind model (value_kind one.0) = subst (IsKind model) (sym same) likes.0.right.kind in (
        subst (λ (k : ValueKind). IsValueOf model k (field_value facts.names fields variable.name)) same
            (value_right class fields variable.name one.0 typed one.1 kind some),
        values_right class fields variables attributes typed some (All-tail (HasKindOf facts class) variable variables has) likes.1,
      )

-- ---- the model

module _ (known : Known) (is : IsFaultless known) where
  abbrev made : List MadeObject
  made = (progress_known known).so_far.objects

  sound : IsSound known.facts (known_are known is) (known_fine known is) (known_right known is) (known_decls known is) (progress_known known).named_objects made
  sound =
      let none = both_none (progress_known known) (objects_fine known is) in
      last_sound known.facts (known_are known is) (known_fine known is) (known_right known is) (known_decls known is) (written_fine known.facts none.1) none.0

  fields_have : (class : Meaning) → IsClassMeant known.facts class → All (HasKindOf known.facts class) (meaning_fields known is class)
  fields_have (meanings.BuiltIn number) meant = builtin_has known.facts number
  fields_have (meanings.Entry entry) meant =
      let line = meant_line known.facts (known_are known is) (known_fine known is) (known_right known is) (known_decls known is) (progress_known known).named_objects
      (meanings.Entry entry) meant entry refl in
      class_has known.facts (known_are known is) (known_fine known is) (known_right known is) (enums_of known.facts.program) line.0 entry line.1

  object_values : (number : ℕ) (object : MadeObject) → slice_get made number ≡ Some object
      → HasFieldValues (compiled_model known) (modelled_object known.facts known.table.classes object)
  object_values number object at class is_class =
      let model = compiled_model known in
      let named = item_all (IsNamedObject known.facts) made number object sound.named at in
      let place = class_number known.facts.names object.class in
      let found = class_there known is object.class named.class in
      let fields : fields_of_class known.table.classes place ≡ found.0.fields =
      ap (λ (o : Option Class). option_map_or (λ (c : Class). c.fields) o []) found.1 in
      let same : modelled_class (lexicon_known known) place found.0 ≡ class =
      same_Some (modelled_class (lexicon_known known) place found.0) class (sym (known_class known is place found.0 found.1) ∙ is_class) in
      let some : 0 < length made = (let within = item_within made number object at in omega arith) in
      let has : All (HasKindOf known.facts object.class) found.0.fields =
      subst (All (HasKindOf known.facts object.class)) (sym found.2) (fields_have object.class named.class) in
      let V : List VarDecl → List VarDecl → Type 0 = λ variables listed.
      AllZip (λ (variable : VarDecl) (value : ℤ). IsValueOf model variable.kind value) variables (field_values known.facts.names object.fields listed) in
      let right : V (attribute_variables (shape_fields (lexicon_known known) place)) found.0.fields =
      values_right known.facts made model (enums_right known.facts known.facts.program (known_right known is))
      (λ entry enum member declared there sort.
      member_there known.facts.program entry enum member declared (sym (ap (λ (names : List Declared). slice_get names entry) (known_are known is).is_names) ∙ there) sort)
      (λ k one there. (
        modelled_object known.facts known.table.classes one,
        slice_get-map (modelled_object known.facts known.table.classes) made k ∙ ap (option_map (modelled_object known.facts known.table.classes)) there,
      ))
      object.class object.fields found.0.fields (shape_fields (lexicon_known known) place) (sound.typed number object at) some has
      (class_fields_like known is place found.0 found.1) in
      subst (λ (c : Class). V c.fields (fields_of_class known.table.classes place)) same
      (subst (V (attribute_variables (shape_fields (lexicon_known known) place))) (sym fields) right)

  each_mapped : {X Y : Type 0} (P : Y → Type 0) (f : X → Y) (some : List X) → ((number : ℕ) (x : X) → slice_get some number ≡ Some x → P (f x)) → All P (map f some)
  each_mapped P f [] each = All-nil P
  each_mapped P f (x ∷ more) each = All-cons P (f x) (map f more) (each 0 x refl) (each_mapped P f more (λ number y at. each (suc number) y at))

  -- the values of all objects
  pub all_values : All (HasFieldValues (compiled_model known)) (compiled_model known).objects
  all_values = each_mapped (HasFieldValues (compiled_model known)) (modelled_object known.facts known.table.classes) made object_values
