-- The fields of the classes of a lexicon are those of the classes of files.
use Rattle.std.proofs.Common.{◌≡◌, ◌≢◌, ℕ, zero, suc, ◌+◌, ◌<◌, ◌==◌, Bool, true, false, ◌||◌, List, [], ◌∷◌, ◌++◌, map, refl, sym, ◌∙◌, ap, subst, arith}
use Rattle.std.specs.Prelude.{Option, Some, None, All, AllPairs, Contains, slice_get, codes, if◌then◌else◌}
use Rattle.std.specs.List.{cons_option, flat_map, filter_map, list_any}
use Rattle.std.specs.Option.{option_map, option_map_or, option_or}
use Rattle.std.specs.Str.{bytes_eq}
use Rattle.std.proofs.lemmas.List.{map-append}
use Rattle.std.proofs.lemmas.List.Elements.{All-contains, All-from_recursion, All-nil, Contains-append_left, Contains-append_right}
use Rattle.std.proofs.lemmas.Option.{same_Some, none-some, slice_get-map}
use Rattle.std.proofs.lemmas.Slice.Eq.{bytes_eq-Decides}
use Rattle.eu_forest.specs.Ancestors.{ancestry}
use Rattle.model_core.specs.declared.class.Enum.{Enum}
use Rattle.model_core.specs.declared.variable.ValueKind.TheVariants as value_kinds
use Rattle.model_core.specs.declared.variable.VarDecl.{VarDecl}
use Rattle.nddl_declarations.specs.Domains.{value_kind}
use Rattle.model_core.specs.Naming.{names_of}
use Rattle.model_core.proofs.Distinct.{place_once}
use Rattle.model_core.proofs.Items.{item_all, item_at}
use Rattle.model_core.proofs.Words.{differing}
use Rattle.nddl_ast.specs.declared.declaration.FileDecls.{FileDecls}
use Rattle.nddl_ast.specs.declared.declaration.Member.{Member}
use Rattle.nddl_ast.specs.declared.declaration.Member.TheVariants as members
use Rattle.nddl_ast.specs.declared.declaration.Typed.{Typed}
use Rattle.nddl_ast.specs.declared.expression.Type as types
use Rattle.nddl_symbols.specs.declared.scope.Meaning.{Meaning}
use Rattle.nddl_symbols.specs.declared.scope.Meaning.TheVariants as meanings
use Rattle.nddl_typeexpr.specs.declared.kind.TypeKind.{TypeKind}
use Rattle.nddl_typeexpr.specs.declared.kind.TypeKind.TheVariants as kinds
use Rattle.nddl_typeexpr.specs.declared.kind.TypeMeaning.{TypeMeaning}
use Rattle.nddl_typeexpr.specs.Bases.{base_kind}
use Rattle.nddl_hierarchy.specs.Ancestors.{above}
use Rattle.nddl_hierarchy.specs.Decls.{members_of}
use Rattle.nddl_hierarchy.specs.Facts.{Facts}
use Rattle.nddl_hierarchy.specs.Members.{member_field, named_typed}
use Rattle.nddl_declarations.specs.Declares.{variable_with, variables_of}
use Rattle.nddl_declarations.specs.Known.{all_type_faults, fine_meaning}
use Rattle.nddl_types.specs.declared.table.TypeTable.{TypeTable}
use Rattle.nddl_types.specs.Classes.{whole_field, builtin_fields, class_entries, class_number, compiled_class, declared_fields, enums_of, fields_at, given_fields, line_down}
use Rattle.nddl_types.specs.Table.{IsTable}
use Rattle.nddl_resolve.specs.declared.denoted.Denoted.{Denoted}
use Rattle.nddl_resolve.specs.declared.denoted.Denoted.TheVariants as denoted
use Rattle.nddl_resolve.specs.Fields.{class_field, field_along, is_builtin_field, is_given_along, is_given_field, number_field, type_value}
use Rattle.nddl_construction.specs.declared.made.MadeObject.{MadeObject}
use Rattle.nddl_construction.specs.declared.made.NamedObject.{NamedObject}
use Rattle.nddl_terms.specs.declared.lexicon.Attribute.{Attribute}
use Rattle.nddl_terms.specs.declared.lexicon.ClassShape.{ClassShape}
use Rattle.nddl_terms.specs.declared.lexicon.Lexicon.{Lexicon}
use Rattle.nddl_terms.specs.Lexicon.{attribute_number, shape_fields}
use Rattle.nddl_env.specs.Lexicons.{class_attributes, class_shapes, entry_shape, lexicon_of}
use Rattle.nddl_env.specs.Shapes.{World, attribute_with, attributes_at, kind_class, member_attribute, number_attribute, typed_attribute}
use Rattle.nddl_laws.specs.Given.{AreGiven}
use Rattle.nddl_laws.proofs.Classed.{lawful_classes}
use Rattle.nddl_laws.proofs.Contained.{contains_at, contains_flat, contains_kept}
use Rattle.nddl_laws.proofs.First.{some_position}
use Rattle.nddl_laws.proofs.Known.{meant}
use Rattle.nddl_laws.proofs.Members.{IsRightAt, members_right}
use Rattle.nddl_laws.proofs.WholeTypes.{type_means}
use Rattle.nddl_rule_laws.proofs.Classes.{Extended, IsBelow, IsKnown, IsPlaced, are_facts, bare, below_both, entry_number, entry_there, has_table, right}
use Rattle.nddl_rule_laws.proofs.TypeKinds.{KindThere, base_there}
use Rattle.nddl_rule_laws.proofs.Owners.{InLine, in_later, in_reverse, line_below_it, position_is}

-- ---- attributes by their names

-- what is at a place of a list is at this place of what is made of each
map_at : {X Y : Type 0} (f : X → Y) (xs : List X) (place : ℕ) (x : X) → slice_get xs place ≡ Some x → slice_get (map f xs) place ≡ Some (f x)
map_at f xs place x at = slice_get-map f xs place ∙ ap (option_map f) at

abbrev pub attribute_names : List Attribute → List (List ℕ)
attribute_names some = map (λ (attribute : Attribute). attribute.name) some

-- one of several with different names is found by its own
pub record IsFoundAs (attributes : List Attribute) (attribute : Attribute) : Type 0 where
  pub number : ℕ
  pub named : attribute_number attribute.name attributes ≡ Some number
  pub there : slice_get attributes number ≡ Some attribute

pub attribute_found : (attributes : List Attribute) (attribute : Attribute) → AllPairs ◌≢◌ (attribute_names attributes) → Contains attributes attribute
    → IsFoundAs attributes attribute
attribute_found attributes attribute distinct has =
    let here : slice_get attributes has.0 ≡ Some attribute = item_at attributes has.0 attribute has.1 ∙ ap (λ a. Some a) has.2 in
    let test : Attribute → Bool = λ other. bytes_eq attribute.name other.name in
    let position = some_position (λ (other : Attribute). bytes_eq attribute.name other.name) attributes 0 has.0 attribute here
    ((bytes_eq-Decides attribute.name attribute.name).1 refl) in
    let found = position_is (λ (other : Attribute). bytes_eq attribute.name other.name) attributes 0 position.0 position.1 in
    let e : found.0 ≡ position.0 = (let sum : position.0 ≡ 0 + found.0 = found.1 in omega arith) in
    let at : slice_get attributes position.0 ≡ Some found.2.0 = ap (slice_get attributes) (sym e) ∙ found.2.1 in
    let same : attribute.name ≡ found.2.0.name = (bytes_eq-Decides attribute.name found.2.0.name).0 found.2.2 in
    let name : Attribute → List ℕ = λ (a : Attribute). a.name in
    let one = map_at (λ (a : Attribute). a.name) attributes has.0 attribute here in
    let other = map_at (λ (a : Attribute). a.name) attributes position.0 found.2.0 at ∙ ap (λ n. Some n) (sym same) in
    let place : has.0 ≡ position.0 = place_once (attribute_names attributes) distinct has.0 position.0 attribute.name one other in
    record { number = position.0; named = position.1; there = ap (slice_get attributes) (sym place) ∙ here }

-- ---- fields where they are found

-- the field of this name of a class, its own or an ancestor's
pub data FieldIn (facts : Facts) (constant : Bool) (name : List ℕ) (class : Meaning) (found : Denoted) : Type 0 where
  own_field : (entry : ℕ) (typed : Typed) → InLine facts class entry → Contains (members_of facts.names facts.program entry) (members.Field typed)
      → typed.name.text ≡ name → found ≡ type_value facts.names facts.known constant typed.declared → FieldIn facts constant name class found
  given_field : (number : ℕ) → IsBelow facts class (meanings.BuiltIn number) → is_builtin_field name number ≡ true
      → found ≡ denoted.Value kinds.Int constant → FieldIn facts constant name class found

pub field_below : (facts : Facts) (constant : Bool) (name : List ℕ) (one other : Meaning) (found : Denoted) → IsBelow facts one other
    → FieldIn facts constant name other found → FieldIn facts constant name one found
field_below facts constant name one other found below (own_field entry typed line has named is) =
    own_field entry typed (line_below_it facts one other entry below line) has named is
field_below facts constant name one other found below (given_field number given named is) =
    given_field number (below_both facts one other (meanings.BuiltIn number) below given) named is

module _ (facts : Facts) (name : List ℕ) where
  field_named : (some : List Member) (typed : Typed) → named_typed name (filter_map member_field some) ≡ Some typed
      → Contains some (members.Field typed) × (typed.name.text ≡ name)
  field_named [] typed is = absurd (none-some typed is)
  field_named (members.Field other ∷ more) typed is = by (bytes_eq name other.name.text) refl is (λ rest. field_named more typed rest)
    where
      by : (b : Bool) → bytes_eq name other.name.text ≡ b → (if b then Some other else named_typed name (filter_map member_field more)) ≡ Some typed
          → (named_typed name (filter_map member_field more) ≡ Some typed → Contains more (members.Field typed) × (typed.name.text ≡ name))
          → Contains (members.Field other ∷ more) (members.Field typed) × (typed.name.text ≡ name)
      by true same found behind =
          let e : other ≡ typed = same_Some other typed found in (
            (0, omega arith, ap (λ t. members.Field t) e),
            sym (ap (λ (t : Typed). t.name.text) e) ∙ sym ((bytes_eq-Decides name other.name.text).0 same),
          )
      by false differ found behind =
          let rest = behind found in (in_later (members.Field other) more (members.Field typed) rest.0, rest.1)
  field_named (members.Predicate at called parts ∷ more) typed is =
      let rest = field_named more typed is in (in_later (members.Predicate at called parts) more (members.Field typed) rest.0, rest.1)
  field_named (members.Constructor called formals sets ∷ more) typed is =
      let rest = field_named more typed is in (in_later (members.Constructor called formals sets) more (members.Field typed) rest.0, rest.1)

  along : (line : List ℕ) (typed : Typed) → field_along facts.names facts.program name line ≡ Some typed
      → (entry : ℕ) × Contains line entry × (Contains (members_of facts.names facts.program entry) (members.Field typed) × (typed.name.text ≡ name))
  along [] typed is = absurd (none-some typed is)
  along (entry ∷ line) typed is =
      by (named_typed name (filter_map member_field (members_of facts.names facts.program entry))) refl is (λ rest. along line typed rest)
    where
      by : (o : Option Typed) → named_typed name (filter_map member_field (members_of facts.names facts.program entry)) ≡ o
          → option_or o (field_along facts.names facts.program name line) ≡ Some typed
          → (field_along facts.names facts.program name line ≡ Some typed
          → (one : ℕ) × Contains line one × (Contains (members_of facts.names facts.program one) (members.Field typed) × (typed.name.text ≡ name)))
          → (one : ℕ) × Contains (entry ∷ line) one × (Contains (members_of facts.names facts.program one) (members.Field typed) × (typed.name.text ≡ name))
      by None here is behind = let rest = behind is in (rest.0, in_later entry line rest.0 rest.1, rest.2)
      by (Some found) here is behind = (entry, (0, omega arith, refl), field_named (members_of facts.names facts.program entry) typed (here ∙ is))

  -- one of the classes of a line extends a built-in class that has the field
  abbrev GivenIn : List ℕ → Type 0
  GivenIn line =
      (entry : ℕ) × Contains line entry
      × ((number : ℕ) × (above facts.names facts.program entry ≡ Some (meanings.BuiltIn number)) × (is_builtin_field name number ≡ true))

  given_along : (line : List ℕ) → is_given_along facts.names facts.program name line ≡ true → GivenIn line
  given_along [] is = absurd (cc)
  given_along (entry ∷ line) is = by (above facts.names facts.program entry) refl is (λ rest. given_along line rest)
    where
      later : GivenIn line → GivenIn (entry ∷ line)
      later it = (it.0, in_later entry line it.0 it.1, it.2)

      here : (number : ℕ) → above facts.names facts.program entry ≡ Some (meanings.BuiltIn number) → (b : Bool) → is_builtin_field name number ≡ b
          → (b || is_given_along facts.names facts.program name line) ≡ true
          → (is_given_along facts.names facts.program name line ≡ true → GivenIn line) → GivenIn (entry ∷ line)
      here number up true named is rest = (entry, (0, omega arith, refl), (number, up, named))
      here number up false named is rest = later (rest is)

      by : (o : Option Meaning) → above facts.names facts.program entry ≡ o
          → (is_given_field name o || is_given_along facts.names facts.program name line) ≡ true
          → (is_given_along facts.names facts.program name line ≡ true → GivenIn line) → GivenIn (entry ∷ line)
      by None up is rest = later (rest is)
      by (Some (meanings.Entry parent)) up is rest = later (rest is)
      by (Some (meanings.BuiltIn number)) up is rest = here number up (is_builtin_field name number) refl is rest

  pub field_found : (constant : Bool) (class : Meaning) (found : Denoted) → class_field facts constant name class ≡ Some found → FieldIn facts constant name class found
  field_found constant (meanings.BuiltIn number) found is = by (is_builtin_field name number) refl is
    where
      by : (b : Bool) → is_builtin_field name number ≡ b → number_field constant b ≡ Some found → FieldIn facts constant name (meanings.BuiltIn number) found
      by true named is = given_field number refl named (sym (same_Some (denoted.Value kinds.Int constant) found is))
      by false named is = absurd (none-some found is)
  field_found constant (meanings.Entry class) found is =
      by (field_along facts.names facts.program name (ancestry facts.parents class)) refl
      (is_given_along facts.names facts.program name (ancestry facts.parents class)) refl is
    where
      by : (o : Option Typed) → field_along facts.names facts.program name (ancestry facts.parents class) ≡ o
          → (b : Bool) → is_given_along facts.names facts.program name (ancestry facts.parents class) ≡ b
          → option_map_or (λ (typed : Typed). Some (type_value facts.names facts.known constant typed.declared)) o (number_field constant b) ≡ Some found
          → FieldIn facts constant name (meanings.Entry class) found
      by (Some typed) there b given is =
          let it = along (ancestry facts.parents class) typed there in
          own_field it.0 typed (in_reverse (ancestry facts.parents class) it.0 it.1) it.2.0 it.2.1
          (sym (same_Some (type_value facts.names facts.known constant typed.declared) found is))
      by None there true given is =
          let it = given_along (ancestry facts.parents class) given in
          given_field it.2.0 (it.0, in_reverse (ancestry facts.parents class) it.0 it.1, it.2.1) it.2.2 (sym (same_Some (denoted.Value kinds.Int constant) found is))
      by None there false given is = absurd (none-some found is)

-- a built-in field by its name
builtin_field : (name : List ℕ) (some : List VarDecl) → list_any (λ (field : VarDecl). bytes_eq name field.name) some ≡ true
    → (field : VarDecl) × Contains some field × (field.name ≡ name)
builtin_field name [] is = absurd (cc)
builtin_field name (field ∷ more) is = by (bytes_eq name field.name) refl is (λ rest. builtin_field name more rest)
  where
    by : (b : Bool) → bytes_eq name field.name ≡ b → (b || list_any (λ (field : VarDecl). bytes_eq name field.name) more) ≡ true
        → (list_any (λ (field : VarDecl). bytes_eq name field.name) more ≡ true → (one : VarDecl) × Contains more one × (one.name ≡ name))
        → (one : VarDecl) × Contains (field ∷ more) one × (one.name ≡ name)
    by true same is behind = (field, (0, omega arith, refl), sym ((bytes_eq-Decides name field.name).0 same))
    by false differ is behind = let rest = behind is in (rest.0, in_later field more rest.0 rest.1, rest.2)

contains_map : {X Y : Type 0} (f : X → Y) (xs : List X) (x : X) → Contains xs x → Contains (map f xs) (f x)
contains_map f xs x has = contains_at (map f xs) has.0 (f x) (map_at f xs has.0 x (item_at xs has.0 x has.1 ∙ ap (λ y. Some y) has.2))

-- ---- the fields of a class of the lexicon

module _ (files : List FileDecls) (table : TypeTable) (given : AreGiven files) (is : IsTable files table) (named_objects : List NamedObject)
    (objects : List MadeObject) where
  abbrev pub world : World
  world = record { facts = is.facts; enums = table.enums; named_objects = named_objects; objects = objects }

  abbrev pub lexicon : Lexicon
  lexicon = lexicon_of world

  abbrev all_entries : List ℕ
  all_entries = class_entries is.facts.names 0 is.facts.names

  abbrev enums : List Enum
  enums = enums_of is.facts.program

  -- the lexicon has the fields of each class
  pub fields_are : (number : ℕ) (it : Extended files table given is number) → shape_fields lexicon number ≡ class_attributes world it.class
  fields_are number it = by it.class it.known it.placed it.number_is
    where
      builtin : (n : ℕ) → n < 4 → shape_fields lexicon n ≡ class_attributes world (meanings.BuiltIn n)
      builtin zero few = refl
      builtin (suc zero) few = refl
      builtin (suc (suc zero)) few = refl
      builtin (suc (suc (suc zero))) few = refl
      builtin (suc (suc (suc (suc n)))) few = absurd (omega arith)

      by : (class : Meaning) → IsKnown is.facts class → IsPlaced files table given is class → class_number is.facts.names class ≡ number
          → shape_fields lexicon number ≡ class_attributes world class
      by (meanings.BuiltIn n) known placed same = subst (λ k. shape_fields lexicon k ≡ class_attributes world (meanings.BuiltIn n)) same (builtin n known)
      by (meanings.Entry entry) known placed same =
          let e : suc (suc (suc (suc placed.0))) ≡ number =
          (let own : class_number is.facts.names (meanings.Entry entry) ≡ 4 + placed.0 = entry_number files table given is placed.0 entry placed.1 in omega (arith, own, same)) in
          let P : ℕ → Type 0 = λ k. slice_get (class_shapes world) k ≡ Some (entry_shape world entry) in
          let there : slice_get (class_shapes world) number ≡ Some (entry_shape world entry) =
          subst P e (map_at (entry_shape world) all_entries placed.0 entry placed.1) in
          ap (λ o. option_map_or (λ (shape : ClassShape). shape.fields) o []) there

  -- ---- their names

  given_names : (some : List VarDecl) → attribute_names (map number_attribute some) ≡ names_of some
  given_names [] = refl
  given_names (field ∷ more) = ap (λ rest. field.name ∷ rest) (given_names more)

  -- a field is kept by both or by neither
  member_names : (some : List Member)
      → attribute_names (filter_map (member_attribute world) some) ≡ names_of (variables_of is.facts enums (filter_map member_field some))
  member_names [] = refl
  member_names (members.Field typed ∷ more) = by (fine_meaning is.facts typed.declared) (member_names more)
    where
      by : (o : Option TypeMeaning)
          → attribute_names (filter_map (member_attribute world) more) ≡ names_of (variables_of is.facts enums (filter_map member_field more))
          → attribute_names (cons_option (option_map (attribute_with world typed) o) (filter_map (member_attribute world) more))
          ≡ names_of (cons_option (option_map (variable_with is.facts enums typed) o) (variables_of is.facts enums (filter_map member_field more)))
      by None rest = rest
      by (Some meaning) rest = ap (λ names. typed.name.text ∷ names) rest
  member_names (members.Predicate at name parts ∷ more) = member_names more
  member_names (members.Constructor name formals sets ∷ more) = member_names more

  names_at : (entry : ℕ) → attribute_names (attributes_at world entry) ≡ names_of (fields_at is.facts enums entry)
  names_at entry =
      let up = above is.facts.names is.facts.program entry in
      let some = members_of is.facts.names is.facts.program entry in
      map-append (λ (a : Attribute). a.name) (map number_attribute (given_fields up)) (filter_map (member_attribute world) some)
      ∙ ((λ i. given_names (given_fields up) i ++ member_names some i)
      ∙ sym (map-append (λ (v : VarDecl). v.name) (given_fields up) (declared_fields is.facts enums some)))

  names_line : (line : List ℕ) → attribute_names (flat_map (attributes_at world) line) ≡ names_of (flat_map (fields_at is.facts enums) line)
  names_line [] = refl
  names_line (entry ∷ more) =
      map-append (λ (a : Attribute). a.name) (attributes_at world entry) (flat_map (attributes_at world) more)
      ∙ ((λ i. names_at entry i ++ names_line more i)
      ∙ sym (map-append (λ (v : VarDecl). v.name) (fields_at is.facts enums entry) (flat_map (fields_at is.facts enums) more)))

  class_differ : (class : Meaning) → IsKnown is.facts class → IsPlaced files table given is class → AllPairs ◌≢◌ (attribute_names (class_attributes world class))
  class_differ (meanings.Entry entry) known placed =
      let there = entry_there files table given is placed.0 entry placed.1 in
      let lawful = lawful_classes files table (bare table) (has_table files table given is) (4 + placed.0) (compiled_class is.facts enums entry) there in
      subst (AllPairs ◌≢◌) (sym (names_line (line_down is.facts entry))) lawful.distinct
  class_differ (meanings.BuiltIn number) known placed = subst (AllPairs ◌≢◌) (sym (given_names (builtin_fields number))) (builtin_differ number)
    where
      builtin_differ : (n : ℕ) → AllPairs ◌≢◌ (names_of (builtin_fields n))
      builtin_differ n = by (n == 2) (n == 3)
        where
          by : (two three : Bool)
              → AllPairs ◌≢◌ (names_of (if two then whole_field (codes "capacity") ∷ []
              else (if three then whole_field (codes "initial") ∷ whole_field (codes "low") ∷ whole_field (codes "high") ∷ [] else [])))
          by true three = differing (codes "capacity" ∷ []) refl
          by false true = differing (codes "initial" ∷ codes "low" ∷ codes "high" ∷ []) refl
          by false false = differing [] refl

  -- ---- fields that are found

  -- a type with which nothing is wrong is of a kind that there is
  pub type_known : (decl : ℕ) (type : types.Type) → all_type_faults is.facts decl type ≡ []
      → (kind : TypeKind) × (base_kind is.facts.names is.facts.known type.base ≡ Some kind) × KindThere files table given is kind
  type_known decl type none =
      let it = type_means is.facts (are_facts files table given is) is.fine (right files table given is) decl type none in
      let one = meant is.facts type it.0 it.1 in
      (one.kind, one.is_kind, base_there files table given is type.base one.kind one.is_kind)

  -- the attribute of a typed field or parameter with which nothing is wrong
  pub record IsTypedAs (typed : Typed) : Type 0 where
    pub meaning : TypeMeaning
    pub means : fine_meaning is.facts typed.declared ≡ Some meaning
    pub is_attribute : typed_attribute world typed ≡ Some (attribute_with world typed meaning)
    pub kind_is : base_kind is.facts.names is.facts.known typed.declared.base ≡ Some meaning.kind
    pub there : KindThere files table given is meaning.kind

  pub typed_as : (decl : ℕ) (typed : Typed) → all_type_faults is.facts decl typed.declared ≡ [] → IsTypedAs typed
  typed_as decl typed none =
      let it = type_means is.facts (are_facts files table given is) is.fine (right files table given is) decl typed.declared none in
      let one = meant is.facts typed.declared it.0 it.1 in
      let kind : base_kind is.facts.names is.facts.known typed.declared.base ≡ Some it.0.kind =
      one.is_kind ∙ ap (λ k. Some k) (sym (ap (λ (m : TypeMeaning). m.kind) one.is_meaning)) in
      record {
        meaning = it.0;
        means = it.1;
        is_attribute = ap (option_map (attribute_with world typed)) it.1;
        kind_is = kind;
        there = base_there files table given is typed.declared.base it.0.kind kind;
      }

  -- a field of a class of the lexicon
  pub record HasField (constant : Bool) (name : List ℕ) (number : ℕ) (found : Denoted) : Type 0 where
    pub kind : TypeKind
    pub is_value : found ≡ denoted.Value kind constant
    pub there : KindThere files table given is kind
    pub place : ℕ
    pub attribute : Attribute
    pub named : attribute_number name (shape_fields lexicon number) ≡ Some place
    pub at : slice_get (shape_fields lexicon number) place ≡ Some attribute
    pub is_kind : attribute.shape.kind ≡ value_kind kind
    pub class_is : (of : Meaning) → kind ≡ kinds.Object of → attribute.shape.class ≡ class_number is.facts.names of

  -- the fields of built-in classes are whole numbers
  number_kind : (number : ℕ) (field : VarDecl) → Contains (builtin_fields number) field → field.kind ≡ value_kinds.Int
  number_kind number field has =
      All-contains (λ (one : VarDecl). one.kind ≡ value_kinds.Int) (builtin_fields number) field (by (number == 2) (number == 3)) has
    where
      by : (two three : Bool)
          → All (λ (one : VarDecl). one.kind ≡ value_kinds.Int) (if two then whole_field (codes "capacity") ∷ []
          else (if three then whole_field (codes "initial") ∷ whole_field (codes "low") ∷ whole_field (codes "high") ∷ [] else []))
      by true three = All-from_recursion (λ (one : VarDecl). one.kind ≡ value_kinds.Int) (whole_field (codes "capacity") ∷ []) (refl, tt)
      by false true =
          All-from_recursion (λ (one : VarDecl). one.kind ≡ value_kinds.Int)
          (whole_field (codes "initial") ∷ whole_field (codes "low") ∷ whole_field (codes "high") ∷ []) (refl, (refl, (refl, tt)))
      by false false = All-nil (λ (one : VarDecl). one.kind ≡ value_kinds.Int)

  -- the attribute by its own name is that by an equal one
  renamed : (number : ℕ) (it : Extended files table given is number) (name : List ℕ) (attribute : Attribute)
      → Contains (class_attributes world it.class) attribute → attribute.name ≡ name
      → (place : ℕ) × (attribute_number name (shape_fields lexicon number) ≡ Some place) × (slice_get (shape_fields lexicon number) place ≡ Some attribute)
  renamed number it name attribute has same =
      let one = attribute_found (class_attributes world it.class) attribute (class_differ it.class it.known it.placed) has in
      let fields = fields_are number it in (
        one.number,
        (λ i. attribute_number (sym same i) (fields i)) ∙ one.named,
        ap (λ some. slice_get some one.number) fields ∙ one.there,
      )

  pub has_field : (constant : Bool) (name : List ℕ) (number : ℕ) (it : Extended files table given is number) (found : Denoted)
      → FieldIn is.facts constant name it.class found → HasField constant name number found
  has_field constant name number it found fact = by it.class refl fact
    where
      whole : (class : Meaning) → it.class ≡ class → (attribute : Attribute) → Contains (class_attributes world class) attribute → attribute.name ≡ name
          → (place : ℕ) × (attribute_number name (shape_fields lexicon number) ≡ Some place) × (slice_get (shape_fields lexicon number) place ≡ Some attribute)
      whole class same attribute has called =
          renamed number it name attribute (subst (λ c. Contains (class_attributes world c) attribute) (sym same) has) called

      number_in : (class : Meaning) → it.class ≡ class → (field : VarDecl) → field.kind ≡ value_kinds.Int
          → Contains (class_attributes world class) (number_attribute field) → field.name ≡ name
          → found ≡ denoted.Value kinds.Int constant → HasField constant name number found
      number_in class same field whole_number has called value =
          let at = whole class same (number_attribute field) has called in
          record {
            kind = kinds.Int;
            is_value = value;
            there = tt;
            place = at.0;
            attribute = number_attribute field;
            named = at.1;
            at = at.2;
            is_kind = whole_number;
            class_is = λ of kind. absurd (let e : kinds.Int ≡ kinds.Object of = kind in cc);
          }

      by : (class : Meaning) → it.class ≡ class → FieldIn is.facts constant name class found → HasField constant name number found
      by (meanings.Entry class) same (own_field entry typed line has called value) =
          let some = members_of is.facts.names is.facts.program entry in
          let all_right = members_right is.facts (right files table given is) entry in
          let one = (item_all (IsRightAt is.facts all_right.number) some has.0 (members.Field typed) all_right.each
          (item_at some has.0 (members.Field typed) has.1 ∙ ap (λ m. Some m) has.2)) in
          let type = typed_as all_right.number typed one.1 in
          let attribute = attribute_with world typed type.meaning in
          let own = contains_kept (member_attribute world) some (members.Field typed) attribute has type.is_attribute in
          let here = Contains-append_right (map number_attribute (given_fields (above is.facts.names is.facts.program entry)))
          (filter_map (member_attribute world) some) attribute own in
          let inside = contains_flat (attributes_at world) (line_down is.facts class) entry attribute line here in
          let at = whole (meanings.Entry class) same attribute inside called in
          record {
            kind = type.meaning.kind;
            is_value = value ∙ ap (λ o. option_map_or (λ (k : TypeKind). denoted.Value k constant) o denoted.Faulty) type.kind_is;
            there = type.there;
            place = at.0;
            attribute = attribute;
            named = at.1;
            at = at.2;
            is_kind = refl;
            class_is = λ of kind. ap (kind_class is.facts.names) kind;
          }
      by (meanings.Entry class) same (given_field given_number below called value) =
          let field = builtin_field name (builtin_fields given_number) called in
          let entry : ℕ = below.0 in
          let numbers : Contains (map number_attribute (given_fields (above is.facts.names is.facts.program entry))) (number_attribute field.0) =
          subst (λ o. Contains (map number_attribute (given_fields o)) (number_attribute field.0)) (sym below.2)
          (contains_map number_attribute (builtin_fields given_number) field.0 field.1) in
          let here = Contains-append_left (map number_attribute (given_fields (above is.facts.names is.facts.program entry)))
          (filter_map (member_attribute world) (members_of is.facts.names is.facts.program entry)) (number_attribute field.0) numbers in
          number_in (meanings.Entry class) same field.0 (number_kind given_number field.0 field.1)
          (contains_flat (attributes_at world) (line_down is.facts class) entry (number_attribute field.0) below.1 here) field.2 value
      by (meanings.BuiltIn class) same (own_field entry typed line has called value) = absurd line
      by (meanings.BuiltIn class) same (given_field given_number below called value) =
          let field = builtin_field name (builtin_fields given_number) called in
          let numbers = contains_map number_attribute (builtin_fields given_number) field.0 field.1 in
          number_in (meanings.BuiltIn class) same field.0 (number_kind given_number field.0 field.1)
          (subst (λ n. Contains (map number_attribute (builtin_fields n)) (number_attribute field.0)) (sym below) numbers) field.2 value
