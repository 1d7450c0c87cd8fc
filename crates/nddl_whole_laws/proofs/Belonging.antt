-- What an object has in a field of objects is of the field's class.
use Rattle.std.proofs.Common.{◌≡◌, ◌≢◌, ℕ, zero, suc, ◌+◌, ◌<◌, Bool, true, false, List, [], ◌∷◌, ◌++◌, map, ℤ, pos, refl, sym, ◌∙◌, ap, subst, arith}
use Rattle.std.specs.Prelude.{Option, Some, None, All, AllPairs, Contains, slice_get, if◌then◌else◌}
use Rattle.std.specs.List.{AllZip}
use Rattle.std.specs.Option.{option_and_then, option_map, option_map_or}
use Rattle.std.proofs.lemmas.Option.{same_Some, none-some, slice_get-map}
use Rattle.eu_forest.proofs.Lists.{get-append_left}
use Rattle.model_core.specs.declared.class.Class.{Class}
use Rattle.model_core.specs.declared.class.Object.{Object}
use Rattle.model_core.specs.declared.variable.ValueKind.TheVariants as value_kinds
use Rattle.model_core.specs.declared.variable.VarDecl.{VarDecl}
use Rattle.model_core.specs.Naming.{names_of}
use Rattle.model_core.proofs.Items.{item_all, item_at}
use Rattle.nddl_ast.specs.declared.declaration.FileDecls.{FileDecls}
use Rattle.nddl_symbols.specs.declared.scope.Meaning.{Meaning}
use Rattle.nddl_symbols.specs.declared.scope.Meaning.TheVariants as meanings
use Rattle.nddl_symbols.specs.Joined.{joined_decls}
use Rattle.nddl_symbols.specs.Names.{scope_names}
use Rattle.nddl_typeexpr.specs.declared.kind.TypeKind.{TypeKind}
use Rattle.nddl_typeexpr.specs.declared.kind.TypeKind.TheVariants as kinds
use Rattle.nddl_hierarchy.specs.Facts.{Facts}
use Rattle.nddl_declarations.specs.Domains.{value_kind}
use Rattle.nddl_types.specs.declared.table.TypeTable.{TypeTable}
use Rattle.nddl_types.specs.Classes.{class_entries, class_number, enums_of}
use Rattle.nddl_types.specs.Table.{IsTable}
use Rattle.nddl_resolve.specs.declared.denoted.Denoted.TheVariants as denoted
use Rattle.nddl_constructors.specs.Creations.{is_of_class}
use Rattle.nddl_construction.specs.declared.made.Datum.{Datum}
use Rattle.nddl_construction.specs.declared.made.Datum.TheVariants as datums
use Rattle.nddl_construction.specs.declared.made.MadeObject.{MadeObject}
use Rattle.nddl_construction.specs.declared.made.NamedObject.{NamedObject}
use Rattle.nddl_construction.specs.Fields.{field_datum}
use Rattle.nddl_objects.specs.Modelled.{datum_value, field_value, fields_of_class, modelled_object}
use Rattle.nddl_terms.specs.PlainTree.{PlainTree}
use Rattle.nddl_terms.specs.declared.lexicon.Attribute.{Attribute}
use Rattle.nddl_terms.specs.declared.lexicon.Lexicon.{Lexicon}
use Rattle.nddl_terms.specs.Lexicon.{attribute_number, class_objects, shape_fields}
use Rattle.nddl_terms.specs.Paths.{known_value}
use Rattle.nddl_env.specs.Lexicons.{class_attributes}
use Rattle.nddl_env.specs.Listing.{class_population, entry_population}
use Rattle.nddl_env.specs.Objects.{objects_of}
use Rattle.nddl_rules.specs.Told.{AreFileTrees}
use Rattle.nddl_instance.specs.Modelled.{attribute_variables, modelled_class}
use Rattle.nddl_problem_check.specs.Limits.{problem_limit_faults}
use Rattle.nddl_problem_check.specs.Texts.{problem_text_faults}
use Rattle.nddl_unroll.specs.Weighing.{tree_limits}
use Rattle.nddl_problem.specs.Compiled.{compiled_model, problem_fault}
use Rattle.nddl_problem.specs.Known.{Known, known_by, lexicon_known, objects_known, progress_known, scope_known, world_known}
use Rattle.nddl_laws.specs.Given.{AreGiven}
use Rattle.nddl_laws.proofs.Contained.{contains_at}
use Rattle.nddl_laws.proofs.Knowledge.{one_facts}
use Rattle.nddl_laws.proofs.Nothing.{none_first}
use Rattle.nddl_laws.proofs.Parents.{few_builtin, meant_class}
use Rattle.nddl_rule_laws.specs.Meanings.{AreFaultless}
use Rattle.nddl_rule_laws.proofs.Classes.{Extended, builtin_extended, entry_extended}
use Rattle.nddl_rule_laws.proofs.Shapes.{FieldIn, attribute_found, attribute_names, field_found, fields_are, has_field}
use Rattle.nddl_rule_laws.proofs.TypeKinds.{IsThere, KindThere, builtin_there, entry_there}
use Rattle.nddl_name_laws.specs.Named.{AreWhole}
use Rattle.nddl_name_laws.proofs.Labels.{posted}
use Rattle.nddl_name_laws.proofs.Names.{listed, map_contains, object_found, population_is}
use Rattle.nddl_model_laws.specs.Faultless.{IsFaultless}
use Rattle.nddl_model_laws.proofs.Grounds.{known_are, known_decls, known_fine, known_right, objects_fine, problem_fine}
use Rattle.nddl_model_laws.proofs.Making.{IsClassMeant, IsNamedObject}
use Rattle.nddl_model_laws.proofs.Meant.{class_sort, meant_as}
use Rattle.nddl_model_laws.proofs.Owned.{HasKindOf, builtin_has, class_has}
use Rattle.nddl_model_laws.proofs.Placed.{class_there, meaning_fields}
use Rattle.nddl_model_laws.proofs.Sounding.{meant_line}
use Rattle.nddl_model_laws.proofs.Tables.{class_fields_like, known_class, model_classes_lawful}
use Rattle.nddl_model_laws.proofs.Typing.{HasLine, IsDatum, IsObjectAt, typed_datum}
use Rattle.nddl_model_laws.proofs.Wide.{IsLike}
use Rattle.nddl_whole_laws.specs.Whole.{FilesAreFaultless, ObjectsAreWhole}
use Rattle.nddl_whole_laws.proofs.Fronts.{front}
use Rattle.nddl_whole_laws.proofs.Known.{full, sound}

-- ---- the objects of a class

-- the number is that of an object of the class, of which the first has this number
record IsAmong (facts : Facts) (class : Meaning) (start : ℕ) (objects : List MadeObject) (number : ℕ) : Type 0 where
  offset : ℕ
  number_is : number ≡ start + offset
  object : MadeObject
  there : slice_get objects offset ≡ Some object
  of : is_of_class facts class object.class ≡ true

among_at : (facts : Facts) (class : Meaning) (start : ℕ) (objects : List MadeObject) (place number : ℕ)
    → slice_get (objects_of facts class start objects) place ≡ Some number → IsAmong facts class start objects number
among_at facts class start [] place number at = absurd (none-some number at)
among_at facts class start (here ∷ more) place number at =
    by (is_of_class facts class here.class) refl place at (λ later there. among_at facts class (start + 1) more later number there)
  where
    deeper : IsAmong facts class (start + 1) more number → IsAmong facts class start (here ∷ more) number
    deeper it = record {
      offset = suc it.offset;
      number_is = (let e : number ≡ start + 1 + it.offset = it.number_is in omega arith);
      object = it.object;
      there = it.there;
      of = it.of;
    }

    by : (b : Bool) → is_of_class facts class here.class ≡ b → (place : ℕ)
        → slice_get ((if b then start ∷ [] else []) ++ objects_of facts class (start + 1) more) place ≡ Some number
        → ((later : ℕ) → slice_get (objects_of facts class (start + 1) more) later ≡ Some number → IsAmong facts class (start + 1) more number)
        → IsAmong facts class start (here ∷ more) number
    by true of zero found rest = record {
      offset = 0;
      number_is = (let e : start ≡ number = same_Some start number found in omega arith);
      object = here;
      there = refl;
      of = of;
    }
    by true of (suc later) found rest = deeper (rest later found)
    by false of later found rest = deeper (rest later found)

-- the value is an object of the class
pub record IsMadeOf (facts : Facts) (class : Meaning) (objects : List MadeObject) (value : ℤ) : Type 0 where
  pub number : ℕ
  pub value_is : value ≡ pos number
  pub object : MadeObject
  pub there : slice_get objects number ≡ Some object
  pub of : is_of_class facts class object.class ≡ true

pub object_at : (facts : Facts) (class : Meaning) (objects : List MadeObject) (value : ℤ) → Contains (class_population facts objects class) value
    → IsMadeOf facts class objects value
object_at facts class objects value has =
    let list = objects_of facts class 0 objects in
    let at : slice_get (map pos list) has.0 ≡ Some value = item_at (map pos list) has.0 value has.1 ∙ ap (λ v. Some v) has.2 in
    by (slice_get list has.0) refl (sym (slice_get-map pos list has.0) ∙ at)
  where
    by : (o : Option ℕ) → slice_get (objects_of facts class 0 objects) has.0 ≡ o → option_map pos o ≡ Some value → IsMadeOf facts class objects value
    by None there told = absurd (none-some value told)
    by (Some number) there told =
        let it = among_at facts class 0 objects has.0 number there in
        let e : it.offset ≡ number = (let sum : number ≡ 0 + it.offset = it.number_is in omega arith) in
        record {
          number = number;
          value_is = sym (same_Some (pos number) value told);
          object = it.object;
          there = ap (slice_get objects) (sym e) ∙ it.there;
          of = it.of;
        }

-- what stands at a place of the one list stands with what is at this place of the other
pub zip_back : {A B : Type 0} (R : A → B → Type 0) (xs : List A) (ys : List B) (k : ℕ) (y : B) → AllZip R xs ys → slice_get ys k ≡ Some y
    → (x : A) × (slice_get xs k ≡ Some x) × R x y
zip_back R xs [] k y all at = absurd (none-some y at)
zip_back R [] (b ∷ ys) k y all at = absurd all
zip_back {A} {B} R (a ∷ xs) (b ∷ ys) zero y all at = (a, refl, subst (R a) (same_Some b y at) all.0)
zip_back R (a ∷ xs) (b ∷ ys) (suc k) y all at = zip_back R xs ys k y all.1 at

names_kept : (attributes : List Attribute) → names_of (attribute_variables attributes) ≡ attribute_names attributes
names_kept [] = refl
names_kept (attribute ∷ more) = ap (λ (rest : List (List ℕ)). attribute.name ∷ rest) (names_kept more)

-- a kind of objects is that of a class
object_kind : (kind : TypeKind) → value_kind kind ≡ value_kinds.Object → (class : Meaning) × (kind ≡ kinds.Object class)
object_kind (kinds.Object class) is = (class, refl)
object_kind kinds.Int is = absurd (let e : value_kinds.Int ≡ value_kinds.Object = is in cc)
object_kind kinds.Float is = absurd (let e : value_kinds.Float ≡ value_kinds.Object = is in cc)
object_kind kinds.Bool is = absurd (let e : value_kinds.Bool ≡ value_kinds.Object = is in cc)
object_kind (kinds.Enum number) is = absurd (let e : value_kinds.Enum number ≡ value_kinds.Object = is in cc)

-- what is of such a kind is an object
object_datum : (facts : Facts) (objects : List MadeObject) (class : Meaning) (datum : Datum) → IsDatum facts objects (kinds.Object class) datum
    → (number : ℕ) × (datum ≡ datums.Object number) × IsObjectAt facts objects class number
object_datum facts objects class (datums.Object number) is = (number, refl, is)
object_datum facts objects class datum is = absurd is

module _ (files : List FileDecls) (table : TypeTable) (trees : List PlainTree) (given : AreGiven files) (is : IsTable files table)
    (are_trees : AreFileTrees table files trees) (fine : problem_fault (known_by files is.facts table trees) ≡ None) where
  abbrev known : Known
  known = known_by files is.facts table trees

  abbrev faultless : IsFaultless known
  faultless = record { given = given; is_table = is; are_trees = are_trees; are = is.are; fine = fine }

  abbrev facts : Facts
  facts = is.facts

  abbrev made : List MadeObject
  made = (progress_known known).so_far.objects

  abbrev named : List NamedObject
  named = (progress_known known).named_objects

  abbrev lexicon : Lexicon
  lexicon = lexicon_known known

  abbrev objects : List Object
  objects = objects_known known

  abbrev entries : List ℕ
  entries = class_entries facts.names 0 facts.names

  -- ---- classes

  -- the class of each number that has objects is there, and these are its objects
  abbrev IsListed : ℤ → ℕ → Type 0
  IsListed value number = (it : Extended files table given is number) × Contains (class_population facts made it.class) value

  pub class_listed : (number : ℕ) (value : ℤ) → Contains (class_objects lexicon number) value → IsListed value number
  class_listed zero value has = (builtin_extended files table given is 0 (omega arith), has)
  class_listed (suc zero) value has = (builtin_extended files table given is 1 (omega arith), has)
  class_listed (suc (suc zero)) value has = (builtin_extended files table given is 2 (omega arith), has)
  class_listed (suc (suc (suc zero))) value has = (builtin_extended files table given is 3 (omega arith), has)
  class_listed (suc (suc (suc (suc place)))) value has =
      by (slice_get entries place) refl
      (subst (λ (list : List ℤ). Contains list value)
      (ap (λ (o : Option (List ℤ)). option_map_or (λ (list : List ℤ). list) o []) (slice_get-map (entry_population facts made) entries place)) has)
    where
      by : (o : Option ℕ) → slice_get entries place ≡ o
          → Contains (option_map_or (λ (list : List ℤ). list) (option_map (entry_population facts made) o) []) value
          → IsListed value (suc (suc (suc (suc place))))
      by None at inside = absurd (let within : inside.0 < 0 = inside.1 in omega arith)
      by (Some entry) at inside =
          let e : 4 + place ≡ suc (suc (suc (suc place))) = omega arith in
          subst (IsListed value) e (entry_extended files table given is place entry at, inside)

  -- a class that is meant is there
  pub meant_there : (class : Meaning) → IsClassMeant facts class → IsThere files table given is class
  meant_there (meanings.BuiltIn number) meant =
      let told = meant_as facts (meanings.BuiltIn number) meant in
      builtin_there files table given is number (few_builtin facts.names told.text number told.means)
  meant_there (meanings.Entry entry) meant =
      let told = meant_as facts (meanings.Entry entry) meant in
      let found = meant_class facts.names told.text entry told.means (class_sort facts entry told.fine) in
      entry_there files table given is entry found.0 found.1 found.2

  pub line_of : (class : Meaning) → IsClassMeant facts class → HasLine facts class
  line_of class meant =
      meant_line facts (known_are known faultless) (known_fine known faultless) (known_right known faultless) (known_decls known faultless) named class meant

  fields_have : (class : Meaning) → IsClassMeant facts class → All (HasKindOf facts class) (meaning_fields known faultless class)
  fields_have (meanings.BuiltIn number) meant = builtin_has facts number
  fields_have (meanings.Entry entry) meant =
      let line = line_of (meanings.Entry entry) meant entry refl in
      class_has facts (known_are known faultless) (known_fine known faultless) (known_right known faultless) (enums_of facts.program) line.0 entry line.1

  -- ---- what a field is set to

  -- the content of the field of this number of an object
  record IsSetTo (object : MadeObject) (number : ℕ) (attribute : Attribute) : Type 0 where
    variable : VarDecl
    listed_at : slice_get (fields_of_class known.table.classes (class_number facts.names object.class)) number ≡ Some variable
    kind : TypeKind
    is_kind : attribute.shape.kind ≡ value_kind kind
    class_is : (of : Meaning) → kind ≡ kinds.Object of → attribute.shape.class ≡ class_number facts.names of
    there : KindThere files table given is kind
    datum : Datum
    set : field_datum variable.name object.fields ≡ Some datum
    of : IsDatum facts made kind datum

  set_to : (place : ℕ) (object : MadeObject) (number : ℕ) (attribute : Attribute) → slice_get made place ≡ Some object → IsClassMeant facts object.class
      → slice_get (shape_fields lexicon (class_number facts.names object.class)) number ≡ Some attribute → IsSetTo object number attribute
  set_to place object number attribute at meant field =
      let own = object.class in
      let class = class_number facts.names own in
      let shape = shape_fields lexicon class in
      let there : IsThere files table given is own = meant_there own meant in
      let found = class_there known faultless own meant in
      let likes = class_fields_like known faultless class found.0 found.1 in
      let like = zip_back (IsLike (compiled_model known)) found.0.fields shape number attribute likes field in
      let variable : VarDecl = like.0 in
      let fields : fields_of_class known.table.classes class ≡ found.0.fields =
      ap (λ (o : Option Class). option_map_or (λ (c : Class). c.fields) o []) found.1 in
      let has : HasKindOf facts own variable =
      item_all (HasKindOf facts own) found.0.fields number variable (subst (All (HasKindOf facts own)) (sym found.2) (fields_have own meant)) like.1 in
      let set = (full known faultless place object at).set variable.name (denoted.Value has.0 true) has.1 in
      let typed = typed_datum facts made own object.fields variable.name set.0 ((sound known faultless).typed place object at) set.1 in
      let same_value : denoted.Value typed.0 true ≡ denoted.Value has.0 true =
      same_Some (denoted.Value typed.0 true) (denoted.Value has.0 true) (sym typed.1 ∙ has.1) in
      let same_kind : typed.0 ≡ has.0 = cc in
      let in_class : FieldIn facts true variable.name there.0.class (denoted.Value has.0 true) =
      subst (λ (c : Meaning). FieldIn facts true variable.name c (denoted.Value has.0 true)) (sym there.1)
      (field_found facts variable.name true own (denoted.Value has.0 true) has.1) in
      let it = has_field files table given is named made true variable.name class there.0 (denoted.Value has.0 true) in_class in
      let told_value : denoted.Value has.0 true ≡ denoted.Value it.kind true = it.is_value in
      let told_kind : has.0 ≡ it.kind = cc in
      let lawful = model_classes_lawful known faultless class (modelled_class lexicon class found.0) (known_class known faultless class found.0 found.1) in
      let distinct : AllPairs ◌≢◌ (attribute_names shape) = subst (AllPairs ◌≢◌) (names_kept shape) lawful.distinct in
      let by_name = attribute_found shape attribute distinct (contains_at shape number attribute field) in
      let places : it.place ≡ by_name.number =
      same_Some it.place by_name.number
      (sym it.named ∙ (ap (λ (name : List ℕ). attribute_number name shape) like.2.name ∙ by_name.named)) in
      let one : it.attribute ≡ attribute =
      same_Some it.attribute attribute (sym it.at ∙ (ap (slice_get shape) places ∙ by_name.there)) in
      record {
        variable = variable;
        listed_at = ap (λ (some : List VarDecl). slice_get some number) fields ∙ like.1;
        kind = has.0;
        is_kind = sym like.2.kind ∙ has.2;
        class_is = λ of kind. ap (λ (a : Attribute). a.shape.class) (sym one) ∙ it.class_is of (sym told_kind ∙ kind);
        there = subst (KindThere files table given is) (sym told_kind) it.there;
        datum = set.0;
        set = set.1;
        of = subst (λ (k : TypeKind). IsDatum facts made k set.0) same_kind typed.2;
      }

  -- an object of a class is one of those that are listed of it
  in_class : (class : Meaning) (number : ℕ) → IsThere files table given is class → IsObjectAt facts made class number
      → Contains (class_objects lexicon (class_number facts.names class)) (pos number)
  in_class class number there at =
      let list = objects_of facts class 0 made in
      let e : 0 + number ≡ number = omega arith in
      let has : Contains list number = subst (Contains list) e (listed facts class 0 number made at.object at.there at.of_class) in
      subst (λ (some : List ℤ). Contains some (pos number)) (sym (population_is files table given is made class there)) (map_contains pos list number has)

  -- ---- objects are whole

  -- the value is an object, and its own class has the field at this number
  pub record IsOwn (number : ℕ) (value : ℤ) (attribute : Attribute) : Type 0 where
    pub place : ℕ
    pub value_is : value ≡ pos place
    pub object : MadeObject
    pub there : slice_get made place ≡ Some object
    pub meant : IsClassMeant facts object.class
    pub field : slice_get (shape_fields lexicon (class_number facts.names object.class)) number ≡ Some attribute

  pub own_at : (class number : ℕ) (value : ℤ) (attribute : Attribute) → Contains (class_objects lexicon class) value
      → slice_get (shape_fields lexicon class) number ≡ Some attribute → IsOwn number value attribute
  own_at class number value attribute has field =
      let world = world_known known in
      let one = class_listed class value has in
      let it : Extended files table given is class = one.0 in
      let at = object_at facts it.class made value one.1 in
      let own = at.object.class in
      let meant = (item_all (IsNamedObject facts) made at.number at.object (sound known faultless).named at.there).class in
      let there : IsThere files table given is own = meant_there own meant in
      let place = class_number facts.names own in
      let first = front world it.class own (line_of own meant) at.of in
      let shape : shape_fields lexicon class ≡ class_attributes world it.class = fields_are files table given is named made class it in
      let own_shape : shape_fields lexicon place ≡ class_attributes world it.class ++ first.0 =
      fields_are files table given is named made place there.0 ∙ (ap (class_attributes world) there.1 ∙ first.1) in
      let front_field : slice_get (class_attributes world it.class) number ≡ Some attribute =
      sym (ap (λ (some : List Attribute). slice_get some number) shape) ∙ field in
      record {
        place = at.number;
        value_is = at.value_is;
        object = at.object;
        there = at.there;
        meant = meant;
        field = ap (λ (some : List Attribute). slice_get some number) own_shape
            ∙ get-append_left (class_attributes world it.class) first.0 number attribute front_field;
      }

  -- what is known of an object's field is what stands there in the model
  pub known_is : (number place : ℕ) (value : ℤ) (object : MadeObject) → value ≡ pos place → slice_get made place ≡ Some object
      → known_value objects value number ≡ slice_get (modelled_object facts known.table.classes object).fields number
  known_is number place value object value_is there =
      let M : MadeObject → Object = modelled_object facts known.table.classes in
      ap (λ (v : ℤ). known_value objects v number) value_is
      ∙ ap (option_and_then (λ (o : Object). slice_get o.fields number)) (slice_get-map M made place ∙ ap (option_map M) there)

  pub whole_at : AreWhole (world_known known) objects
  whole_at class number value attribute has field =
      let own = own_at class number value attribute has field in
      let object : MadeObject = own.object in
      let set : IsSetTo object number attribute = set_to own.place object number attribute own.there own.meant own.field in
      let V : VarDecl → ℤ = λ (variable : VarDecl). field_value facts.names object.fields variable.name in
      let variables = fields_of_class known.table.classes (class_number facts.names object.class) in
      let content = field_value facts.names object.fields set.variable.name in
      let is_value : content ≡ datum_value facts.names (Some set.datum) = ap (datum_value facts.names) set.set in
      record {
        content = content;
        known = known_is number own.place value object own.value_is own.there
            ∙ (slice_get-map V variables number ∙ ap (option_map V) set.listed_at);
        inside = λ kind.
            let class_of = object_kind set.kind (sym set.is_kind ∙ kind) in
            let found = object_datum facts made class_of.0 set.datum (subst (λ (k : TypeKind). IsDatum facts made k set.datum) class_of.1 set.of) in
            let is_object : content ≡ pos found.0 = is_value ∙ ap (λ (d : Datum). datum_value facts.names (Some d)) found.1 in
            let of_kind : IsThere files table given is class_of.0 = subst (KindThere files table given is) class_of.1 set.there in
            let among = in_class class_of.0 found.0 of_kind found.2 in
            let numbers : class_number facts.names class_of.0 ≡ attribute.shape.class = sym (set.class_is class_of.0 class_of.1) in
            subst (λ (n : ℕ). Contains (class_objects lexicon n) content) numbers
            (subst (λ (v : ℤ). Contains (class_objects lexicon (class_number facts.names class_of.0)) v) (sym is_object) among);
      }

  -- so the files are faultless with these objects
  here_faultless : AreFaultless files table trees (world_known known) objects
  here_faultless =
      let objects_right = objects_fine known faultless in
      let text_right = none_first (problem_text_faults facts)
      (problem_limit_faults facts (progress_known known) lexicon (scope_known known) ++ tree_limits lexicon trees) (problem_fine known faultless) in
      record {
        given = given;
        is_table = is;
        are_trees = are_trees;
        facts = is.are;
        enums = refl;
        made = record {
          named = λ entry declared at sort. (object_found files table given is objects_right entry declared at sort).stands;
          posted = λ entry declared at sort. posted files table given is objects_right text_right entry declared at sort;
          whole = whole_at;
        };
      }

-- ---- compiled models

-- what is so of a program that is known by the facts of its table is so of it
pub transported : (P : Known → Type 0)
    → ((files : List FileDecls) (table : TypeTable) (trees : List PlainTree) → AreGiven files → (is : IsTable files table)
    → AreFileTrees table files trees → problem_fault (known_by files is.facts table trees) ≡ None → P (known_by files is.facts table trees))
    → (known : Known) → IsFaultless known → P (known_by known.files known.facts known.table known.trees)
transported P each known is =
    let own : Facts = is.is_table.facts in
    let decls = joined_decls known.files in
    let same : own ≡ known.facts = one_facts (scope_names decls) decls own known.facts is.is_table.are is.are in
    let K : Facts → Known = λ facts. known_by known.files facts known.table known.trees in
    let fine : problem_fault (K own) ≡ None = subst (λ (facts : Facts). problem_fault (K facts) ≡ None) (sym same) is.fine in
    subst (λ (facts : Facts). P (K facts)) same (each known.files known.table known.trees is.given is.is_table is.are_trees fine)

abbrev HasFaultlessFiles : Known → Type 0
HasFaultlessFiles known = AreFaultless known.files known.table known.trees (world_known known) (objects_known known)

pub files_faultless : FilesAreFaultless
files_faultless known is =
    transported HasFaultlessFiles (λ files table trees given is are_trees fine. here_faultless files table trees given is are_trees fine) known is

pub objects_whole : ObjectsAreWhole
objects_whole known is = (files_faultless known is).made.whole
