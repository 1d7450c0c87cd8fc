-- Values that are read are read of the objects that are there where the turn of a declaration comes.
use Rattle.std.proofs.Common.{◌≡◌, ℕ, zero, suc, ◌+◌, ◌<◌, ◌≤◌, pos, Bool, true, false, List, [], ◌∷◌, ◌++◌, length, reverse, ℤ, refl, sym, ◌∙◌, ap, subst, arith}
use Rattle.std.specs.Prelude.{Option, Some, None, ⊤, ◌||◌, not, slice_get, option_map, option_and_then, if◌then◌else◌}
use Rattle.std.specs.Option.{option_map_or}
use Rattle.std.proofs.lemmas.List.{reverse-append}
use Rattle.std.proofs.lemmas.Option.{same_Some}
use Rattle.nddl_ast.specs.declared.declaration.Member.{Member}
use Rattle.nddl_ast.specs.declared.declaration.Set.{Set}
use Rattle.nddl_ast.specs.declared.declaration.Typed.{Typed}
use Rattle.nddl_ast.specs.declared.expression.Constant.{Constant}
use Rattle.nddl_ast.specs.declared.expression.Constant.TheVariants as constants
use Rattle.nddl_ast.specs.declared.expression.Expr.{Expr}
use Rattle.nddl_ast.specs.declared.expression.Expr.TheVariants as exprs
use Rattle.nddl_ast.specs.declared.expression.Type as types
use Rattle.nddl_ast.specs.declared.kind.TextKind.TheVariants as faults
use Rattle.nddl_ast.specs.declared.name.Name.{Name}
use Rattle.nddl_ast.specs.Decimals.{constant_decimal}
use Rattle.eu_forest.specs.Ancestors.{ancestry}
use Rattle.nddl_symbols.specs.declared.declared.Declared.{Declared}
use Rattle.nddl_symbols.specs.declared.declared.Sort.{Sort}
use Rattle.nddl_symbols.specs.declared.declared.Sort.TheVariants as sorts
use Rattle.nddl_symbols.specs.declared.fault.Fault.{Fault}
use Rattle.nddl_symbols.specs.declared.place.Place.{Place}
use Rattle.nddl_symbols.specs.declared.scope.Meaning.{Meaning}
use Rattle.nddl_symbols.specs.declared.scope.Meaning.TheVariants as meanings
use Rattle.nddl_symbols.specs.Finding.{faults_here}
use Rattle.nddl_symbols.specs.Scope.{fault_if, meaning_of}
use Rattle.nddl_typeexpr.specs.declared.kind.Extent.{Extent}
use Rattle.nddl_typeexpr.specs.declared.kind.Extent.TheVariants as extents
use Rattle.nddl_typeexpr.specs.declared.kind.TypeKind.{TypeKind}
use Rattle.nddl_typeexpr.specs.declared.kind.TypeKind.TheVariants as kinds
use Rattle.nddl_typeexpr.specs.declared.kind.TypeMeaning.{TypeMeaning}
use Rattle.nddl_typeexpr.specs.Kinds.{is_within}
use Rattle.nddl_typeexpr.specs.Types.{type_meaning}
use Rattle.nddl_hierarchy.specs.Facts.{Facts}
use Rattle.nddl_resolve.specs.Fields.{field_along}
use Rattle.nddl_constructors.specs.Creations.{is_of_class}
use Rattle.nddl_constructors.specs.Formals.{formal_number}
use Rattle.nddl_constructors.specs.Wants.{formal_kind, wanted_at}
use Rattle.nddl_construction.specs.declared.made.Datum.{Datum}
use Rattle.nddl_construction.specs.declared.made.Datum.TheVariants as datums
use Rattle.nddl_construction.specs.declared.made.FieldValue.{FieldValue}
use Rattle.nddl_construction.specs.declared.made.MadeObject.{MadeObject}
use Rattle.nddl_construction.specs.declared.passing.Passed.{Passed}
use Rattle.nddl_construction.specs.Classes.{constructor_at, constructor_formals, constructor_sets, is_building, line_up}
use Rattle.nddl_construction.specs.Fields.{field_datum}
use Rattle.nddl_construction.specs.Fitting.{datum_number, is_datum_within, is_foreign_datum, is_outside_meaning, is_outside_type}
use Rattle.nddl_construction.specs.Outside.{is_outside_field}
use Rattle.nddl_construction.specs.Passing.{constructor_scene, data_above, handed_arguments, handed_data, has_foreign_from, is_wrong_super, passed_down, passed_from, passed_here, passing_faults, read_faults, super_arguments, super_data, wants_above}
use Rattle.nddl_construction.specs.Reading.{data_behind, datum_at, datum_behind, entry_datum, expr_datum, fine_data, fine_datum, first_datum, is_well_written, literal_datum, meaning_datum, named_datum, sort_datum}
use Rattle.nddl_construction.specs.Scene.{Grounds, Scenery}
use Rattle.nddl_object_laws.specs.Carried.{There, grounds_there}

-- ---- what is below a number

-- the value is no object of this number or a later one
abbrev pub IsBelow : ℕ → Option Datum → Type 0
IsBelow count None = ⊤
IsBelow count (Some (datums.Number number)) = ⊤
IsBelow count (Some (datums.Decimal thousandths)) = ⊤
IsBelow count (Some (datums.Truth truth)) = ⊤
IsBelow count (Some (datums.Member entry)) = ⊤
IsBelow count (Some (datums.Object number)) = number < count

abbrev pub AreBelow : ℕ → List (Option Datum) → Type 0
AreBelow count values = (number : ℕ) → IsBelow count (datum_at values number)

abbrev pub AreGivenBelow : ℕ → Option (List (Option Datum)) → Type 0
AreGivenBelow count None = ⊤
AreGivenBelow count (Some values) = AreBelow count values

abbrev pub EachPassedBelow : ℕ → List Passed → Type 0
EachPassedBelow count [] = ⊤
EachPassedBelow count (passed ∷ more) = AreBelow count passed.values × EachPassedBelow count more

abbrev pub AreFieldsBelow : ℕ → List FieldValue → Type 0
AreFieldsBelow count fields = (name : List ℕ) → IsBelow count (field_datum name fields)

abbrev pub EachObjectBelow : ℕ → List MadeObject → Type 0
EachObjectBelow count [] = ⊤
EachObjectBelow count (object ∷ more) = AreFieldsBelow count object.fields × EachObjectBelow count more

-- the fields of what is there, and its names, are objects that are there
pub record IsClosed (there : There) : Type 0 where
  pub objects : EachObjectBelow (length there.objects) there.objects
  pub named_objects : (entry : ℕ) → IsBelow (length there.objects) (named_datum (slice_get there.named_objects entry))

pub below_more : (count more : ℕ) (datum : Option Datum) → count ≤ more → IsBelow count datum → IsBelow more datum
below_more count more None least is = tt
below_more count more (Some (datums.Number number)) least is = tt
below_more count more (Some (datums.Decimal thousandths)) least is = tt
below_more count more (Some (datums.Truth truth)) least is = tt
below_more count more (Some (datums.Member entry)) least is = tt
below_more count more (Some (datums.Object number)) least is = omega (arith, least, is)

pub objects_more : (count more : ℕ) (objects : List MadeObject) → count ≤ more → EachObjectBelow count objects → EachObjectBelow more objects
objects_more count more [] least are = tt
objects_more count more (object ∷ objects) least are =
    (λ name. below_more count more (field_datum name object.fields) least (are.0 name), objects_more count more objects least are.1)

pub objects_append : (count : ℕ) (one other : List MadeObject) → EachObjectBelow count one → EachObjectBelow count other
    → EachObjectBelow count (one ++ other)
objects_append count [] other first second = second
objects_append count (object ∷ one) other first second = (first.0, objects_append count one other first.1 second)

pub object_there : (count : ℕ) (objects : List MadeObject) (number : ℕ) (object : MadeObject) → EachObjectBelow count objects
    → slice_get objects number ≡ Some object → AreFieldsBelow count object.fields
object_there count [] number object are is = absurd (let e : None ≡ Some object = is in cc)
object_there count (first ∷ objects) zero object are is =
    let F : MadeObject → Type 0 = λ o. AreFieldsBelow count o.fields in subst F (same_Some first object is) are.0
object_there count (first ∷ objects) (suc number) object are is = object_there count objects number object are.1 is

passed_append : (count : ℕ) (one other : List Passed) → EachPassedBelow count one → EachPassedBelow count other
    → EachPassedBelow count (one ++ other)
passed_append count [] other first second = second
passed_append count (passed ∷ one) other first second = (first.0, passed_append count one other first.1 second)

passed_reverse : (count : ℕ) (some : List Passed) → EachPassedBelow count some → EachPassedBelow count (reverse some)
passed_reverse count [] are = tt
passed_reverse count (passed ∷ more) are =
    let P : List Passed → Type 0 = λ some. EachPassedBelow count some in
    subst P (sym (reverse-append (passed ∷ []) more))
    (passed_append count (reverse more) (passed ∷ []) (passed_reverse count more are.1) (are.0, tt))

cond_below : (count : ℕ) (test : Bool) (datum : Option Datum) → IsBelow count datum → IsBelow count (if test then datum else None)
cond_below count true datum is = is
cond_below count false datum is = tt

-- ---- where the objects that were there are still there

-- the first of these objects are those
abbrev pub Keep : List MadeObject → List MadeObject → Type 0
Keep front objects = (number : ℕ) → number < length front → slice_get objects number ≡ slice_get front number

module _ (facts : Facts) (there : There) (closed : IsClosed there) where
  abbrev grounds : Grounds
  grounds = grounds_there facts there

  abbrev before : ℕ
  before = length there.objects

  -- ---- names

  field_below : (datum : Option Datum) (name : Name) → IsBelow before (datum_behind there.objects datum name)
  field_below None name = tt
  field_below (Some (datums.Number number)) name = tt
  field_below (Some (datums.Decimal thousandths)) name = tt
  field_below (Some (datums.Truth truth)) name = tt
  field_below (Some (datums.Member entry)) name = tt
  field_below (Some (datums.Object number)) name = by (slice_get there.objects number) refl
    where
      by : (found : Option MadeObject) → slice_get there.objects number ≡ found
          → IsBelow before (option_and_then (λ (object : MadeObject). field_datum name.text object.fields) found)
      by None is = tt
      by (Some object) is = object_there before there.objects number object closed.objects is name.text

  names_below : (datum : Option Datum) (names : List Name) → IsBelow before datum → IsBelow before (data_behind there.objects datum names)
  names_below datum [] is = is
  names_below datum (name ∷ more) is = names_below (datum_behind there.objects datum name) more (field_below datum name)

  sort_below : (entry : ℕ) (sort : Sort) → IsBelow before (sort_datum there.named_objects entry sort)
  sort_below entry (sorts.Member enum place) = tt
  sort_below entry sorts.Object = closed.named_objects entry
  sort_below entry sort = tt

  entry_below : (entry : ℕ) → IsBelow before (entry_datum grounds entry)
  entry_below entry = by (slice_get facts.names entry)
    where
      by : (found : Option Declared)
          → IsBelow before (option_and_then (λ (declared : Declared). sort_datum there.named_objects entry declared.sort) found)
      by None = tt
      by (Some declared) = sort_below entry declared.sort

  meaning_below : (meaning : Option Meaning) → IsBelow before (meaning_datum grounds meaning)
  meaning_below None = tt
  meaning_below (Some (meanings.BuiltIn number)) = tt
  meaning_below (Some (meanings.Entry entry)) = entry_below entry

  first_below : (scene : Scenery) (name : List ℕ) → AreBelow before scene.values → IsBelow before (first_datum grounds scene name)
  first_below scene name are = by (formal_number scene.formals name)
    where
      by : (found : Option ℕ)
          → IsBelow before (option_map_or (datum_at scene.values) found (meaning_datum grounds (meaning_of facts.names name)))
      by None = meaning_below (meaning_of facts.names name)
      by (Some number) = are number

  -- ---- values

  decimal_below : (decimal : Option ℤ) → IsBelow before (option_map datums.Decimal decimal)
  decimal_below None = tt
  decimal_below (Some thousandths) = tt

  literal_below : (wanted : Option TypeKind) (constant : Constant) → IsBelow before (literal_datum wanted constant)
  literal_below (Some kinds.Float) constant = decimal_below (constant_decimal constant)
  literal_below wanted (constants.Number number) = tt
  literal_below wanted (constants.Decimal thousandths) = tt
  literal_below wanted (constants.Truth truth) = tt

  expr_below : (scene : Scenery) (wanted : Option TypeKind) (expr : Expr) → AreBelow before scene.values
      → IsBelow before (expr_datum grounds scene there.objects wanted expr)
  expr_below scene wanted (exprs.Path path) are =
      names_below (first_datum grounds scene path.first.text) path.rest (first_below scene path.first.text are)
  expr_below scene wanted (exprs.Literal literal) are = literal_below wanted literal.constant

  pub fine_below : (scene : Scenery) (wanted : Option TypeKind) (expr : Expr) → AreBelow before scene.values
      → IsBelow before (fine_datum grounds scene there.objects wanted expr)
  unfolding fine_datum
  fine_below scene wanted expr are =
      cond_below before (is_well_written grounds scene wanted expr) (expr_datum grounds scene there.objects wanted expr)
      (expr_below scene wanted expr are)

  pub data_below : (scene : Scenery) (wants : List (Option TypeKind)) (number : ℕ) (some : List Expr) → AreBelow before scene.values
      → (place : ℕ) → IsBelow before (datum_at (fine_data grounds scene there.objects wants number some) place)
  data_below scene wants number [] are place = tt
  data_below scene wants number (expr ∷ more) are zero = fine_below scene (wanted_at wants number) expr are
  data_below scene wants number (expr ∷ more) are (suc place) = data_below scene wants (number + 1) more are place

  -- ---- what is passed

  handed_below : (scene : Scenery) (wants : List (Option TypeKind)) (body : List Set) → AreBelow before scene.values
      → AreGivenBelow before (handed_data grounds scene there.objects wants body)
  handed_below scene wants body are = by (handed_arguments (length wants) body)
    where
      by : (found : Option (List Expr))
          → AreGivenBelow before (option_map_or (λ arguments. Some (fine_data grounds scene there.objects wants 0 arguments)) found None)
      by None = tt
      by (Some arguments) = data_below scene wants 0 arguments are

  above_below : (class : Meaning) (values : List (Option Datum)) → AreBelow before values
      → AreGivenBelow before (data_above grounds there.objects values class)
  above_below (meanings.BuiltIn number) values are = tt
  above_below (meanings.Entry entry) values are = by (constructor_at facts.names facts.program entry)
    where
      by : (found : Option Member)
          → AreGivenBelow before (option_map_or (super_data grounds there.objects entry values) found (Some values))
      by None = are
      by (Some constructor) =
          handed_below (constructor_scene facts entry constructor values) (wants_above facts entry) (constructor_sets constructor) are

  line_below : (line : List Meaning) (given : Option (List (Option Datum))) → AreGivenBelow before given
      → EachPassedBelow before (passed_from grounds there.objects line given)
  line_below [] given are = tt
  line_below (class ∷ more) None are = line_below more None tt
  line_below (class ∷ more) (Some values) are =
      passed_append before (passed_here facts class (Some values))
      (passed_from grounds there.objects more (data_above grounds there.objects values class)) (here (is_building facts class))
      (line_below more (data_above grounds there.objects values class) (above_below class values are))
    where
      here : (test : Bool) → EachPassedBelow before (if test then record { class = class; values = values } ∷ [] else [])
      here true = (are, tt)
      here false = tt

  pub down_below : (class : Meaning) (values : List (Option Datum)) → AreBelow before values
      → EachPassedBelow before (passed_down grounds there.objects class values)
  unfolding passed_down
  down_below class values are =
      passed_reverse before (passed_from grounds there.objects (line_up facts class) (Some values))
      (line_below (line_up facts class) (Some values) are)

  -- ---- the same of more objects

  module _ (objects : List MadeObject) (keep : Keep there.objects objects) where
    field_same : (datum : Option Datum) (name : Name) → IsBelow before datum
        → datum_behind objects datum name ≡ datum_behind there.objects datum name
    field_same None name is = refl
    field_same (Some (datums.Number number)) name is = refl
    field_same (Some (datums.Decimal thousandths)) name is = refl
    field_same (Some (datums.Truth truth)) name is = refl
    field_same (Some (datums.Member entry)) name is = refl
    field_same (Some (datums.Object number)) name is =
        ap (λ (found : Option MadeObject). option_and_then (λ (object : MadeObject). field_datum name.text object.fields) found)
        (keep number is)

    names_same : (datum : Option Datum) (names : List Name) → IsBelow before datum
        → data_behind objects datum names ≡ data_behind there.objects datum names
    names_same datum [] is = refl
    names_same datum (name ∷ more) is =
        ap (λ found. data_behind objects found more) (field_same datum name is)
        ∙ names_same (datum_behind there.objects datum name) more (field_below datum name)

    expr_same : (scene : Scenery) (wanted : Option TypeKind) (expr : Expr) → AreBelow before scene.values
        → expr_datum grounds scene objects wanted expr ≡ expr_datum grounds scene there.objects wanted expr
    expr_same scene wanted (exprs.Path path) are =
        names_same (first_datum grounds scene path.first.text) path.rest (first_below scene path.first.text are)
    expr_same scene wanted (exprs.Literal literal) are = refl

    pub fine_same : (scene : Scenery) (wanted : Option TypeKind) (expr : Expr) → AreBelow before scene.values
        → fine_datum grounds scene objects wanted expr ≡ fine_datum grounds scene there.objects wanted expr
    unfolding fine_datum
    fine_same scene wanted expr are =
        ap (λ datum. if is_well_written grounds scene wanted expr then datum else None) (expr_same scene wanted expr are)

    pub data_same : (scene : Scenery) (wants : List (Option TypeKind)) (number : ℕ) (some : List Expr) → AreBelow before scene.values
        → fine_data grounds scene objects wants number some ≡ fine_data grounds scene there.objects wants number some
    data_same scene wants number [] are = refl
    data_same scene wants number (expr ∷ more) are =
        λ i. fine_same scene (wanted_at wants number) expr are i ∷ data_same scene wants (number + 1) more are i

    handed_same : (scene : Scenery) (wants : List (Option TypeKind)) (body : List Set) → AreBelow before scene.values
        → handed_data grounds scene objects wants body ≡ handed_data grounds scene there.objects wants body
    handed_same scene wants body are = by (handed_arguments (length wants) body)
      where
        by : (found : Option (List Expr))
            → option_map_or (λ arguments. Some (fine_data grounds scene objects wants 0 arguments)) found None
            ≡ option_map_or (λ arguments. Some (fine_data grounds scene there.objects wants 0 arguments)) found None
        by None = refl
        by (Some arguments) = ap (λ values. Some values) (data_same scene wants 0 arguments are)

    above_same : (class : Meaning) (values : List (Option Datum)) → AreBelow before values
        → data_above grounds objects values class ≡ data_above grounds there.objects values class
    above_same (meanings.BuiltIn number) values are = refl
    above_same (meanings.Entry entry) values are = by (constructor_at facts.names facts.program entry)
      where
        by : (found : Option Member)
            → option_map_or (super_data grounds objects entry values) found (Some values)
            ≡ option_map_or (super_data grounds there.objects entry values) found (Some values)
        by None = refl
        by (Some constructor) =
            handed_same (constructor_scene facts entry constructor values) (wants_above facts entry) (constructor_sets constructor) are

    line_same : (line : List Meaning) (given : Option (List (Option Datum))) → AreGivenBelow before given
        → passed_from grounds objects line given ≡ passed_from grounds there.objects line given
    line_same [] given are = refl
    line_same (class ∷ more) None are = line_same more None tt
    line_same (class ∷ more) (Some values) are =
        ap (λ rest. passed_here facts class (Some values) ++ rest)
        (ap (λ above. passed_from grounds objects more above) (above_same class values are)
        ∙ line_same more (data_above grounds there.objects values class) (above_below class values are))

    pub down_same : (class : Meaning) (values : List (Option Datum)) → AreBelow before values
        → passed_down grounds objects class values ≡ passed_down grounds there.objects class values
    unfolding passed_down
    down_same class values are = ap reverse (line_same (line_up facts class) (Some values) are)

-- ---- classes of objects, and the names under which they are declared

pub record Head : Type 0 where
  pub class : Meaning
  pub entry : Option ℕ

abbrev pub head_of : MadeObject → Head
head_of object = record { class = object.class; entry = object.entry }

-- the value is the same kind of object in both lists, if it is one
abbrev pub IsAlikeIn : List MadeObject → List MadeObject → Option Datum → Type 0
IsAlikeIn one other None = ⊤
IsAlikeIn one other (Some (datums.Number number)) = ⊤
IsAlikeIn one other (Some (datums.Decimal thousandths)) = ⊤
IsAlikeIn one other (Some (datums.Truth truth)) = ⊤
IsAlikeIn one other (Some (datums.Member entry)) = ⊤
IsAlikeIn one other (Some (datums.Object number)) = option_map head_of (slice_get one number) ≡ option_map head_of (slice_get other number)

module _ (grounds : Grounds) (one other : List MadeObject) where
  class_by : (class : Meaning) (found : Option MadeObject)
      → option_map_or (λ (object : MadeObject). not (is_of_class grounds.facts class object.class)) found false
      ≡ option_map_or (λ (head : Head). not (is_of_class grounds.facts class head.class)) (option_map head_of found) false
  class_by class None = refl
  class_by class (Some object) = refl

  entry_by : (found : Option MadeObject)
      → option_map pos (option_and_then (λ (object : MadeObject). object.entry) found)
      ≡ option_map pos (option_and_then (λ (head : Head). head.entry) (option_map head_of found))
  entry_by None = refl
  entry_by (Some object) = refl

  pub foreign_alike : (kind : Option TypeKind) (datum : Option Datum) → IsAlikeIn one other datum
      → is_foreign_datum grounds one kind datum ≡ is_foreign_datum grounds other kind datum
  foreign_alike (Some (kinds.Object class)) (Some (datums.Object number)) alike =
      class_by class (slice_get one number)
      ∙ (ap (λ (found : Option Head). option_map_or (λ (head : Head). not (is_of_class grounds.facts class head.class)) found false) alike
      ∙ sym (class_by class (slice_get other number)))
  foreign_alike kind datum alike = refl

  number_alike : (datum : Datum) → IsAlikeIn one other (Some datum) → datum_number one datum ≡ datum_number other datum
  number_alike (datums.Number number) alike = refl
  number_alike (datums.Decimal thousandths) alike = refl
  number_alike (datums.Truth truth) alike = refl
  number_alike (datums.Member entry) alike = refl
  number_alike (datums.Object number) alike =
      entry_by (slice_get one number)
      ∙ (ap (λ (found : Option Head). option_map pos (option_and_then (λ (head : Head). head.entry) found)) alike
      ∙ sym (entry_by (slice_get other number)))

  within_alike : (extent : Extent) (datum : Datum) → IsAlikeIn one other (Some datum)
      → is_datum_within one extent datum ≡ is_datum_within other extent datum
  within_alike extents.Whole datum alike = refl
  within_alike (extents.Range least greatest) datum alike =
      ap (λ number. option_map_or (is_within (extents.Range least greatest)) number false) (number_alike datum alike)
  within_alike (extents.Set members) datum alike =
      ap (λ number. option_map_or (is_within (extents.Set members)) number false) (number_alike datum alike)

  meaning_alike : (datum : Datum) (meaning : TypeMeaning) → IsAlikeIn one other (Some datum)
      → is_outside_meaning grounds one datum meaning ≡ is_outside_meaning grounds other datum meaning
  meaning_alike datum meaning alike =
      λ i. foreign_alike (Some meaning.kind) (Some datum) alike i || not (within_alike meaning.extent datum alike i)

  type_alike : (declared : types.Type) (datum : Option Datum) → IsAlikeIn one other datum
      → is_outside_type grounds one declared datum ≡ is_outside_type grounds other declared datum
  type_alike declared None alike = refl
  type_alike declared (Some datum) alike = by (type_meaning grounds.facts.names grounds.facts.known declared)
    where
      by : (found : Option TypeMeaning)
          → option_map_or (is_outside_meaning grounds one datum) found false ≡ option_map_or (is_outside_meaning grounds other datum) found false
      by None = refl
      by (Some meaning) = meaning_alike datum meaning alike

  pub outside_alike : (entry : ℕ) (name : List ℕ) (datum : Option Datum) → IsAlikeIn one other datum
      → is_outside_field grounds one entry name datum ≡ is_outside_field grounds other entry name datum
  outside_alike entry name datum alike =
      by (field_along grounds.facts.names grounds.facts.program name (ancestry grounds.facts.parents entry))
    where
      by : (found : Option Typed)
          → option_map_or (λ (typed : Typed). is_outside_type grounds one typed.declared datum) found false
          ≡ option_map_or (λ (typed : Typed). is_outside_type grounds other typed.declared datum) found false
      by None = refl
      by (Some typed) = type_alike typed.declared datum alike

-- a value that is below the objects that are kept is alike in both
pub kept_alike : (front objects : List MadeObject) → Keep front objects → (datum : Option Datum) → IsBelow (length front) datum
    → IsAlikeIn objects front datum
kept_alike front objects keep None is = tt
kept_alike front objects keep (Some (datums.Number number)) is = tt
kept_alike front objects keep (Some (datums.Decimal thousandths)) is = tt
kept_alike front objects keep (Some (datums.Truth truth)) is = tt
kept_alike front objects keep (Some (datums.Member entry)) is = tt
kept_alike front objects keep (Some (datums.Object number)) is = ap (option_map head_of) (keep number is)

-- the same is wrong with what a constructor is passed
module _ (facts : Facts) (there : There) (objects : List MadeObject) (keep : Keep there.objects objects) where
  foreign_same : (values : List (Option Datum)) (number : ℕ) (formals : List Typed) → AreBelow (length there.objects) values
      → has_foreign_from (grounds_there facts there) objects values number formals
      ≡ has_foreign_from (grounds_there facts there) there.objects values number formals
  foreign_same values number [] are = refl
  foreign_same values number (typed ∷ more) are = λ i.
      foreign_alike (grounds_there facts there) objects there.objects (formal_kind facts typed) (datum_at values number)
      (kept_alike there.objects objects keep (datum_at values number) (are number)) i
      || foreign_same values (number + 1) more are i

  pub passing_same : (place : Place) (entry : ℕ) (values : List (Option Datum)) (constructor : Member) → AreBelow (length there.objects) values
      → passing_faults (grounds_there facts there) objects place entry values constructor
      ≡ passing_faults (grounds_there facts there) there.objects place entry values constructor
  passing_same place entry values constructor are =
      let rest : List Fault =
      faults_here place.decl place.at (fault_if (is_wrong_super (wants_above facts entry) (constructor_sets constructor)) faults.WrongCount)
      ++ read_faults (grounds_there facts there) (constructor_scene facts entry constructor values) (super_arguments (constructor_sets constructor)) in
      ap (λ foreign. faults_here place.decl place.at (fault_if foreign faults.NotInDomain) ++ rest)
      (foreign_same values 0 (constructor_formals constructor) are)
