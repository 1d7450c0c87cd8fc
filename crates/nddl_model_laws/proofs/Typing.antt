-- What a value stands for is of the kind of which it is said to be.
use Rattle.std.proofs.Common.{◌≡◌, ◌≢◌, ℕ, zero, suc, ◌+◌, Bool, true, false, not, List, [], ◌∷◌, map, ℤ, refl, sym, ◌∙◌, ap, subst, arith}
use Rattle.std.specs.Prelude.{Option, Some, None, Ok, Err, All, slice_get, is_none, ⊤, if◌then◌else◌}
use Rattle.std.specs.List.{AllByRecursion, position_from}
use Rattle.std.specs.Option.{option_and_then, option_map, option_map_or, option_or}
use Rattle.std.specs.Str.{bytes_eq}
use Rattle.std.proofs.lemmas.Bool.Decides.{Decides-eqb}
use Rattle.std.proofs.lemmas.List.Elements.{All-head, All-tail}
use Rattle.std.proofs.lemmas.Option.{same_Some, none-some}
use Rattle.domain_core.specs.Domain.{IsValue}
use Rattle.nddl_ast.specs.declared.expression.Constant.{Constant}
use Rattle.nddl_ast.specs.declared.expression.Constant.TheVariants as constants
use Rattle.nddl_ast.specs.declared.expression.Expr.{Expr}
use Rattle.nddl_ast.specs.declared.expression.Expr.TheVariants as exprs
use Rattle.nddl_ast.specs.declared.expression.Literal.{Literal}
use Rattle.nddl_ast.specs.declared.kind.TextKind.TheVariants as faults
use Rattle.nddl_ast.specs.declared.name.Name.{Name}
use Rattle.nddl_ast.specs.declared.name.Path.{Path}
use Rattle.nddl_ast.specs.Decimals.{constant_decimal}
use Rattle.nddl_symbols.specs.declared.declared.Declared.{Declared}
use Rattle.nddl_symbols.specs.declared.declared.Sort.{Sort}
use Rattle.nddl_symbols.specs.declared.declared.Sort.TheVariants as sorts
use Rattle.nddl_symbols.specs.declared.scope.Meaning.{Meaning}
use Rattle.nddl_symbols.specs.declared.scope.Meaning.TheVariants as meanings
use Rattle.nddl_symbols.specs.Scope.{fault_if, meaning_of}
use Rattle.nddl_typeexpr.specs.declared.kind.TypeKind.{TypeKind}
use Rattle.nddl_typeexpr.specs.declared.kind.TypeKind.TheVariants as kinds
use Rattle.nddl_typeexpr.specs.Kinds.{are_one_kind}
use Rattle.nddl_hierarchy.specs.Facts.{Facts}
use Rattle.nddl_resolve.specs.declared.denoted.Denoted.{Denoted}
use Rattle.nddl_resolve.specs.declared.denoted.Denoted.TheVariants as denoted
use Rattle.nddl_resolve.specs.declared.denoted.Seen.{Seen}
use Rattle.nddl_resolve.specs.Fields.{class_field}
use Rattle.nddl_resolve.specs.Files.{declared_value, file_denoted, meaning_denoted, sort_denoted}
use Rattle.nddl_resolve.specs.Following.{Understood, found_at, found_next, object_alone, rest_denoted, unknown_at}
use Rattle.nddl_resolve.specs.Kinds.{kind_fault, other_kind_fault}
use Rattle.nddl_resolve.specs.Paths.{first_denoted, last_seen, literal_denoted}
use Rattle.nddl_constructors.specs.Constants.{constant_fault, is_understood, wanted_fault}
use Rattle.nddl_constructors.specs.Creations.{is_of_class}
use Rattle.nddl_constructors.specs.Formals.{around_formals, formal_number}
use Rattle.nddl_constructors.specs.Wants.{wanted_at}
use Rattle.nddl_construction.specs.declared.made.Datum.{Datum}
use Rattle.nddl_construction.specs.declared.made.Datum.TheVariants as datums
use Rattle.nddl_construction.specs.declared.made.FieldValue.{FieldValue}
use Rattle.nddl_construction.specs.declared.made.MadeObject.{MadeObject}
use Rattle.nddl_construction.specs.declared.made.NamedObject.{NamedObject}
use Rattle.nddl_construction.specs.declared.made.NamedObject.TheVariants as stands
use Rattle.nddl_construction.specs.Fields.{field_datum}
use Rattle.nddl_construction.specs.Fitting.{is_foreign_datum}
use Rattle.nddl_construction.specs.Reading.{data_behind, datum_at, expr_datum, fine_data, fine_datum, first_datum, is_well_written, literal_datum, meaning_datum, named_datum, sort_datum}
use Rattle.nddl_construction.specs.Scene.{Grounds, Scenery}
use Rattle.nddl_laws.specs.Fine.{IsFineConstant, IsFineExpr}
use Rattle.nddl_laws.proofs.Apart.{AreOnce}
use Rattle.nddl_laws.proofs.Decimals.{constant_kept}
use Rattle.nddl_model_laws.proofs.Fielded.{same_field, same_word}
use Rattle.nddl_model_laws.proofs.Lined.{Lined}

-- ---- data

-- the name of this number is a member of the enum
pub record IsMemberAt (facts : Facts) (number entry : ℕ) : Type 0 where
  pub declared : Declared
  pub there : slice_get facts.names entry ≡ Some declared
  pub place : ℕ
  pub sort : declared.sort ≡ sorts.Member number place

-- the object of this number is of the class
pub record IsObjectAt (facts : Facts) (objects : List MadeObject) (class : Meaning) (number : ℕ) : Type 0 where
  pub object : MadeObject
  pub there : slice_get objects number ≡ Some object
  pub of_class : is_of_class facts class object.class ≡ true

-- the value is one of this kind; of objects, of the class
abbrev pub IsDatum : Facts → List MadeObject → TypeKind → Datum → Type 0
IsDatum facts objects kinds.Int (datums.Number number) = IsValue number
IsDatum facts objects kinds.Float (datums.Decimal thousandths) = IsValue thousandths
IsDatum facts objects kinds.Bool (datums.Truth truth) = ⊤
IsDatum facts objects (kinds.Enum number) (datums.Member entry) = IsMemberAt facts number entry
IsDatum facts objects (kinds.Object class) (datums.Object number) = IsObjectAt facts objects class number
IsDatum facts objects kind datum = ⊥

-- the same, of whatever class
abbrev pub IsKindly : Facts → List MadeObject → TypeKind → Datum → Type 0
IsKindly facts objects kinds.Int (datums.Number number) = IsValue number
IsKindly facts objects kinds.Float (datums.Decimal thousandths) = IsValue thousandths
IsKindly facts objects kinds.Bool (datums.Truth truth) = ⊤
IsKindly facts objects (kinds.Enum number) (datums.Member entry) = IsMemberAt facts number entry
IsKindly facts objects (kinds.Object class) (datums.Object number) = (object : MadeObject) × (slice_get objects number ≡ Some object)
IsKindly facts objects kind datum = ⊥

-- what a field is set to is of the kind of a field of the class
abbrev pub IsTypedField : Facts → List MadeObject → Meaning → FieldValue → Type 0
IsTypedField facts objects class field =
    (datum : Datum) → field.value ≡ Some datum
    → (kind : TypeKind) × (class_field facts true field.name class ≡ Some (denoted.Value kind true)) × IsDatum facts objects kind datum

-- so it is of all fields of all objects
abbrev pub AreTyped : Facts → List MadeObject → Type 0
AreTyped facts objects =
    (number : ℕ) (object : MadeObject) → slice_get objects number ≡ Some object → All (IsTypedField facts objects object.class) object.fields

-- a class of the files has a line
abbrev pub HasLine : Facts → Meaning → Type 0
HasLine facts class = (entry : ℕ) → class ≡ meanings.Entry entry → (levels : ℕ) × Lined facts levels entry

abbrev pub HaveLines : Facts → List MadeObject → Type 0
HaveLines facts objects = (number : ℕ) (object : MadeObject) → slice_get objects number ≡ Some object → HasLine facts object.class

-- ---- more objects

-- each object is still there, and of its class
abbrev pub Extends : List MadeObject → List MadeObject → Type 0
Extends old new =
    (number : ℕ) (object : MadeObject) → slice_get old number ≡ Some object
    → (found : MadeObject) × (slice_get new number ≡ Some found) × (found.class ≡ object.class)

pub extends_not : (objects : List MadeObject) → Extends objects objects
extends_not objects number object at = (object, at, refl)

pub extends_on : (one two three : List MadeObject) → Extends one two → Extends two three → Extends one three
extends_on one two three first second number object at =
    let mid = first number object at in
    let last = second number mid.0 mid.1 in
    (last.0, last.1, last.2 ∙ mid.2)

pub datum_stays : (facts : Facts) (old new : List MadeObject) → Extends old new → (kind : TypeKind) (datum : Datum) → IsDatum facts old kind datum
    → IsDatum facts new kind datum
datum_stays facts old new more kinds.Int (datums.Number number) is = is
datum_stays facts old new more kinds.Float (datums.Decimal thousandths) is = is
datum_stays facts old new more kinds.Bool (datums.Truth truth) is = is
datum_stays facts old new more (kinds.Enum number) (datums.Member entry) is = is
datum_stays facts old new more (kinds.Object class) (datums.Object number) is =
    let found = more number is.object is.there in
    record { object = found.0; there = found.1; of_class = ap (is_of_class facts class) found.2 ∙ is.of_class }
datum_stays facts old new more kind datum is = absurd is

pub kindly_stays : (facts : Facts) (old new : List MadeObject) → Extends old new → (kind : TypeKind) (datum : Datum) → IsKindly facts old kind datum
    → IsKindly facts new kind datum
kindly_stays facts old new more kinds.Int (datums.Number number) is = is
kindly_stays facts old new more kinds.Float (datums.Decimal thousandths) is = is
kindly_stays facts old new more kinds.Bool (datums.Truth truth) is = is
kindly_stays facts old new more (kinds.Enum number) (datums.Member entry) is = is
kindly_stays facts old new more (kinds.Object class) (datums.Object number) is =
    let found = more number is.0 is.1 in (found.0, found.1)
kindly_stays facts old new more kind datum is = absurd is

pub field_stays : (facts : Facts) (old new : List MadeObject) → Extends old new → (class : Meaning) (field : FieldValue) → IsTypedField facts old class field
    → IsTypedField facts new class field
field_stays facts old new more class field is datum told =
    let it = is datum told in (it.0, it.1, datum_stays facts old new more it.0 datum it.2)

-- ---- kinds

not_true : (b : Bool) → not b ≡ false → b ≡ true
not_true true is = refl
not_true false is = absurd (let e : true ≡ false = is in cc)

-- a value of a kind is one of each that is the same but for the class
pub kindly_of : (facts : Facts) (objects : List MadeObject) (wanted kind : TypeKind) (datum : Datum) → are_one_kind wanted kind ≡ true
    → IsDatum facts objects kind datum → IsKindly facts objects wanted datum
kindly_of facts objects kinds.Int kinds.Int (datums.Number number) same is = is
kindly_of facts objects kinds.Float kinds.Float (datums.Decimal thousandths) same is = is
kindly_of facts objects kinds.Bool kinds.Bool (datums.Truth truth) same is = is
kindly_of facts objects (kinds.Enum one) (kinds.Enum other) (datums.Member entry) same is =
    subst (λ (n : ℕ). IsMemberAt facts n entry) (sym ((Decides-eqb one other).0 same)) is
kindly_of facts objects (kinds.Object one) (kinds.Object other) (datums.Object number) same is = (is.object, is.there)
kindly_of facts objects kinds.Int kinds.Float datum same is = absurd (let e : false ≡ true = same in cc)
kindly_of facts objects kinds.Int kinds.Bool datum same is = absurd (let e : false ≡ true = same in cc)
kindly_of facts objects kinds.Int (kinds.Enum other) datum same is = absurd (let e : false ≡ true = same in cc)
kindly_of facts objects kinds.Int (kinds.Object other) datum same is = absurd (let e : false ≡ true = same in cc)
kindly_of facts objects kinds.Float kinds.Int datum same is = absurd (let e : false ≡ true = same in cc)
kindly_of facts objects kinds.Float kinds.Bool datum same is = absurd (let e : false ≡ true = same in cc)
kindly_of facts objects kinds.Float (kinds.Enum other) datum same is = absurd (let e : false ≡ true = same in cc)
kindly_of facts objects kinds.Float (kinds.Object other) datum same is = absurd (let e : false ≡ true = same in cc)
kindly_of facts objects kinds.Bool kinds.Int datum same is = absurd (let e : false ≡ true = same in cc)
kindly_of facts objects kinds.Bool kinds.Float datum same is = absurd (let e : false ≡ true = same in cc)
kindly_of facts objects kinds.Bool (kinds.Enum other) datum same is = absurd (let e : false ≡ true = same in cc)
kindly_of facts objects kinds.Bool (kinds.Object other) datum same is = absurd (let e : false ≡ true = same in cc)
kindly_of facts objects (kinds.Enum one) kinds.Int datum same is = absurd (let e : false ≡ true = same in cc)
kindly_of facts objects (kinds.Enum one) kinds.Float datum same is = absurd (let e : false ≡ true = same in cc)
kindly_of facts objects (kinds.Enum one) kinds.Bool datum same is = absurd (let e : false ≡ true = same in cc)
kindly_of facts objects (kinds.Enum one) (kinds.Object other) datum same is = absurd (let e : false ≡ true = same in cc)
kindly_of facts objects (kinds.Object one) kinds.Int datum same is = absurd (let e : false ≡ true = same in cc)
kindly_of facts objects (kinds.Object one) kinds.Float datum same is = absurd (let e : false ≡ true = same in cc)
kindly_of facts objects (kinds.Object one) kinds.Bool datum same is = absurd (let e : false ≡ true = same in cc)
kindly_of facts objects (kinds.Object one) (kinds.Enum other) datum same is = absurd (let e : false ≡ true = same in cc)
kindly_of facts objects kinds.Int kinds.Int datum same is = absurd is
kindly_of facts objects kinds.Float kinds.Float datum same is = absurd is
kindly_of facts objects kinds.Bool kinds.Bool datum same is = absurd is
kindly_of facts objects (kinds.Enum one) (kinds.Enum other) datum same is = absurd is
kindly_of facts objects (kinds.Object one) (kinds.Object other) datum same is = absurd is

-- if it isn't an object of another class, it is of the class
pub datum_of : (grounds : Grounds) (objects : List MadeObject) (kind : TypeKind) (datum : Datum)
    → is_foreign_datum grounds objects (Some kind) (Some datum) ≡ false → IsKindly grounds.facts objects kind datum → IsDatum grounds.facts objects kind datum
datum_of grounds objects kinds.Int (datums.Number number) own is = is
datum_of grounds objects kinds.Float (datums.Decimal thousandths) own is = is
datum_of grounds objects kinds.Bool (datums.Truth truth) own is = is
datum_of grounds objects (kinds.Enum number) (datums.Member entry) own is = is
datum_of grounds objects (kinds.Object class) (datums.Object number) own is = record {
  object = is.0;
  there = is.1;
  of_class = not_true (is_of_class grounds.facts class is.0.class)
      (sym (ap (λ (o : Option MadeObject). option_map_or (λ (object : MadeObject). not (is_of_class grounds.facts class object.class)) o false) is.1) ∙ own);
}
datum_of grounds objects kind datum own is = absurd is

-- ---- fields

-- what a field is set to, if to anything
pub typed_datum : (facts : Facts) (objects : List MadeObject) (class : Meaning) (fields : List FieldValue) (name : List ℕ) (datum : Datum)
    → All (IsTypedField facts objects class) fields → field_datum name fields ≡ Some datum
    → (kind : TypeKind) × (class_field facts true name class ≡ Some (denoted.Value kind true)) × IsDatum facts objects kind datum
typed_datum facts objects class [] name datum all is = absurd (none-some datum is)
typed_datum facts objects class (field ∷ more) name datum all is =
    by (bytes_eq name field.name) refl is
    (λ there. typed_datum facts objects class more name datum (All-tail (IsTypedField facts objects class) field more all) there)
  where
    by : (b : Bool) → bytes_eq name field.name ≡ b → (if b then field.value else field_datum name more) ≡ Some datum
        → (field_datum name more ≡ Some datum
        → (kind : TypeKind) × (class_field facts true name class ≡ Some (denoted.Value kind true)) × IsDatum facts objects kind datum)
        → (kind : TypeKind) × (class_field facts true name class ≡ Some (denoted.Value kind true)) × IsDatum facts objects kind datum
    by true same found rest =
        let it = All-head (IsTypedField facts objects class) field more all datum found in
        let e = same_word name field.name same in
        (it.0, ap (λ (word : List ℕ). class_field facts true word class) e ∙ it.1, it.2)
    by false same found rest = rest found

-- ---- paths

none_behind : (objects : List MadeObject) (names : List Name) → data_behind objects None names ≡ None
none_behind objects [] = refl
none_behind objects (name ∷ more) = none_behind objects more

-- ---- what stands around

-- the formals have different names, and each that is passed something is of the kind that it denotes
pub record AreFormals (facts : Facts) (objects : List MadeObject) (formals : List Seen) (values : List (Option Datum)) : Type 0 where
  pub once : AreOnce (map (λ (seen : Seen). seen.name) formals)
  pub each : (number : ℕ) (seen : Seen) (datum : Datum) → slice_get formals number ≡ Some seen → datum_at values number ≡ Some datum
      → (kind : TypeKind) × (seen.denoted ≡ denoted.Value kind true) × IsDatum facts objects kind datum

-- what is made under a name is an object of the class with which it is declared
abbrev pub AreDeclared : Facts → List MadeObject → List NamedObject → Type 0
AreDeclared facts objects named_objects =
    (entry : ℕ) (declared : Declared) (datum : Datum) → slice_get facts.names entry ≡ Some declared → declared.sort ≡ sorts.Object
    → slice_get named_objects entry ≡ Some (stands.Made (Some datum))
    → (kind : TypeKind) × (object_alone (declared_value facts true declared) ≡ denoted.Value kind true) × IsDatum facts objects kind datum

record IsSeenAt (formals : List Seen) (name : List ℕ) (start number : ℕ) : Type 0 where
  place : ℕ
  is_number : number ≡ start + place
  seen : Seen
  there : slice_get formals place ≡ Some seen
  last : last_seen name formals ≡ Some seen.denoted

none_later : (formals : List Seen) (name : List ℕ) → AllByRecursion (λ (other : List ℕ). name ≢ other) (map (λ (seen : Seen). seen.name) formals)
    → last_seen name formals ≡ None
none_later [] name all = refl
none_later (seen ∷ more) name all = by (bytes_eq name seen.name) refl (last_seen name more) (none_later more name all.1)
  where
    by : (b : Bool) → bytes_eq name seen.name ≡ b → (o : Option Denoted) → o ≡ None → option_or o (if b then Some seen.denoted else None) ≡ None
    by true same o none = absurd (all.0 (same_word name seen.name same))
    by false same o none = ap (λ (p : Option Denoted). option_or p None) none

seen_number : (formals : List Seen) (name : List ℕ) (start number : ℕ) → AreOnce (map (λ (seen : Seen). seen.name) formals)
    → position_from (λ (formal : Seen). bytes_eq name formal.name) start formals ≡ Some number → IsSeenAt formals name start number
seen_number [] name start number once is = absurd (none-some number is)
seen_number (seen ∷ more) name start number once is =
    by (bytes_eq name seen.name) refl is (λ there. seen_number more name (start + 1) number once.1 there)
  where
    by : (b : Bool) → bytes_eq name seen.name ≡ b
        → (if b then Some start else position_from (λ (formal : Seen). bytes_eq name formal.name) (start + 1) more) ≡ Some number
        → (position_from (λ (formal : Seen). bytes_eq name formal.name) (start + 1) more ≡ Some number → IsSeenAt more name (start + 1) number)
        → IsSeenAt (seen ∷ more) name start number
    by true same found rest =
        let e : start ≡ number = same_Some start number found in
        let word = same_word name seen.name same in
        let none = none_later more name (subst (λ (w : List ℕ). AllByRecursion (λ (other : List ℕ). w ≢ other) (map (λ (one : Seen). one.name) more)) (sym word) once.0) in
        record {
          place = 0;
          is_number = omega arith;
          seen = seen;
          there = refl;
          last = (λ i. option_or (none i) (if same i then Some seen.denoted else None));
        }
    by false same found rest =
        let it = rest found in
        let e : number ≡ start + 1 + it.place = it.is_number in
        record {
          place = suc it.place;
          is_number = omega arith;
          seen = it.seen;
          there = it.there;
          last = ap (λ (o : Option Denoted). option_or o (if bytes_eq name seen.name then Some seen.denoted else None)) it.last;
        }

unseen : (formals : List Seen) (name : List ℕ) (start : ℕ) → position_from (λ (formal : Seen). bytes_eq name formal.name) start formals ≡ None
    → last_seen name formals ≡ None
unseen [] name start none = refl
unseen (seen ∷ more) name start none =
    by (bytes_eq name seen.name) refl none (λ later. unseen more name (start + 1) later)
  where
    by : (b : Bool) → bytes_eq name seen.name ≡ b
        → (if b then Some start else position_from (λ (formal : Seen). bytes_eq name formal.name) (start + 1) more) ≡ None
        → (position_from (λ (formal : Seen). bytes_eq name formal.name) (start + 1) more ≡ None → last_seen name more ≡ None)
        → option_or (last_seen name more) (if bytes_eq name seen.name then Some seen.denoted else None) ≡ None
    by true same found rest = absurd (none-some start (sym found))
    by false same found rest = (λ i. option_or (rest found i) (if same i then Some seen.denoted else None))

module _ (facts : Facts) (objects : List MadeObject) (typed : AreTyped facts objects) (lines : HaveLines facts objects) where
  -- a value of a kind that the path leads to
  abbrev Leads : Denoted → Datum → Type 0
  Leads meant datum = (kind : TypeKind) × (meant ≡ denoted.Value kind true) × IsDatum facts objects kind datum

  path_sound : (first : ℕ) (names : List Name) (kind : TypeKind) (datum : Datum) → IsDatum facts objects kind datum → (meant : Denoted) (found : Datum)
      → rest_denoted facts first (denoted.Value kind true) names ≡ Ok meant → data_behind objects (Some datum) names ≡ Some found → Leads meant found
  path_sound first [] kind datum is meant found means leads =
      let same : denoted.Value kind true ≡ meant = cc in
      (kind, sym same, subst (IsDatum facts objects kind) (same_Some datum found leads) is)
  path_sound first (name ∷ more) (kinds.Object class) (datums.Object number) is meant found means leads =
      by (class_field facts true name.text class) refl means (field_datum name.text is.object.fields) refl
      (sym (ap (λ (o : Option MadeObject). data_behind objects
      (option_and_then (λ (object : MadeObject). field_datum name.text object.fields) o) more) is.there) ∙ leads)
      (λ kind datum. path_sound first more kind datum)
    where
      by : (o : Option Denoted) → class_field facts true name.text class ≡ o
          → found_next (λ (next : Denoted). rest_denoted facts first next more) (found_at name o) ≡ Ok meant
          → (d : Option Datum) → field_datum name.text is.object.fields ≡ d → data_behind objects d more ≡ Some found
          → ((kind : TypeKind) (datum : Datum) → IsDatum facts objects kind datum → (meant : Denoted) (found : Datum)
          → rest_denoted facts first (denoted.Value kind true) more ≡ Ok meant → data_behind objects (Some datum) more ≡ Some found → Leads meant found)
          → Leads meant found
      by None field means d value leads rest = absurd (cc)
      by (Some next) field means None value leads rest = absurd (none-some found (sym (none_behind objects more) ∙ leads))
      by (Some next) field means (Some behind) value leads rest =
          let it = typed_datum facts objects is.object.class is.object.fields name.text behind (typed number is.object is.there) value in
          let own = same_field facts class is.object.class (lines number is.object is.there) true name.text next is.of_class field in
          let same : next ≡ denoted.Value it.0 true = same_Some next (denoted.Value it.0 true) (sym own ∙ it.1) in
          rest it.0 behind it.2 meant found (sym (ap (λ (n : Denoted). rest_denoted facts first n more) same) ∙ means) leads
  path_sound first (name ∷ more) (kinds.Object class) (datums.Number number) is meant found means leads = absurd is
  path_sound first (name ∷ more) (kinds.Object class) (datums.Decimal thousandths) is meant found means leads = absurd is
  path_sound first (name ∷ more) (kinds.Object class) (datums.Truth truth) is meant found means leads = absurd is
  path_sound first (name ∷ more) (kinds.Object class) (datums.Member entry) is meant found means leads = absurd is
  path_sound first (name ∷ more) kinds.Int datum is meant found means leads = absurd (cc)
  path_sound first (name ∷ more) kinds.Float datum is meant found means leads = absurd (cc)
  path_sound first (name ∷ more) kinds.Bool datum is meant found means leads = absurd (cc)
  path_sound first (name ∷ more) (kinds.Enum number) datum is meant found means leads = absurd (cc)

  -- ---- the front of a path

  module _ (named_objects : List NamedObject) (declared_are : AreDeclared facts objects named_objects) where
    abbrev grounds : Grounds
    grounds = record { facts = facts; named_objects = named_objects }

    sort_sound : (entry : ℕ) (declared : Declared) (sort : Sort) (begin : Denoted) (datum : Datum) → slice_get facts.names entry ≡ Some declared
        → declared.sort ≡ sort → sort_denoted facts entry declared sort ≡ Some begin → sort_datum named_objects entry sort ≡ Some datum → Leads begin datum
    sort_sound entry declared (sorts.Member of place) begin datum there sort means is = (
      kinds.Enum of,
      sym (same_Some (denoted.Value (kinds.Enum of) true) begin means),
      subst (IsDatum facts objects (kinds.Enum of)) (same_Some (datums.Member entry) datum is)
          (record { declared = declared; there = there; place = place; sort = sort }),
    )
    sort_sound entry declared sorts.Object begin datum there sort means is = by (slice_get named_objects entry) refl is
      where
        by : (o : Option NamedObject) → slice_get named_objects entry ≡ o → named_datum o ≡ Some datum → Leads begin datum
        by None at found = absurd (none-some datum found)
        by (Some stands.Unmade) at found = absurd (none-some datum found)
        by (Some (stands.Made made)) at found =
            let it = declared_are entry declared datum there sort (at ∙ ap (λ (d : Option Datum). Some (stands.Made d)) found) in
            (it.0, sym (same_Some (object_alone (declared_value facts true declared)) begin means) ∙ it.1, it.2)
    sort_sound entry declared (sorts.Enum number) begin datum there sort means is = absurd (none-some datum is)
    sort_sound entry declared sorts.Typedef begin datum there sort means is = absurd (none-some datum is)
    sort_sound entry declared sorts.Forward begin datum there sort means is = absurd (none-some datum is)
    sort_sound entry declared sorts.Body begin datum there sort means is = absurd (none-some datum is)
    sort_sound entry declared sorts.Global begin datum there sort means is = absurd (none-some datum is)
    sort_sound entry declared sorts.Root begin datum there sort means is = absurd (none-some datum is)
    sort_sound entry declared sorts.Config begin datum there sort means is = absurd (none-some datum is)

    file_sound : (name : List ℕ) (begin : Denoted) (datum : Datum) → file_denoted facts name ≡ Some begin
        → meaning_datum grounds (meaning_of facts.names name) ≡ Some datum → Leads begin datum
    file_sound name begin datum means is = by (meaning_of facts.names name) means is
      where
        inner : (entry : ℕ) (o : Option Declared) → slice_get facts.names entry ≡ o
            → option_and_then (λ (declared : Declared). sort_denoted facts entry declared declared.sort) o ≡ Some begin
            → option_and_then (λ (declared : Declared). sort_datum named_objects entry declared.sort) o ≡ Some datum → Leads begin datum
        inner entry None there means is = absurd (none-some datum is)
        inner entry (Some declared) there means is = sort_sound entry declared declared.sort begin datum there refl means is

        by : (o : Option Meaning) → option_and_then (meaning_denoted facts) o ≡ Some begin → meaning_datum grounds o ≡ Some datum → Leads begin datum
        by None means is = absurd (none-some datum is)
        by (Some (meanings.BuiltIn number)) means is = absurd (none-some datum is)
        by (Some (meanings.Entry entry)) means is = inner entry (slice_get facts.names entry) refl means is

    pub front_sound : (scene : Scenery) (name : List ℕ) (begin : Denoted) (datum : Datum) → AreFormals facts objects scene.formals scene.values
        → first_denoted facts (around_formals scene.formals) name ≡ Some begin → first_datum grounds scene name ≡ Some datum → Leads begin datum
    front_sound scene name begin datum formals means is = by (formal_number scene.formals name) refl is
      where
        by : (o : Option ℕ) → formal_number scene.formals name ≡ o
            → option_map_or (datum_at scene.values) o (meaning_datum grounds (meaning_of facts.names name)) ≡ Some datum → Leads begin datum
        by None none found =
            let last = unseen scene.formals name 0 none in
            let file : file_denoted facts name ≡ Some begin =
            sym (ap (λ (o : Option Denoted). option_or (option_or (option_or (option_or o None) None) None) (option_or None (file_denoted facts name))) last) ∙ means in
            file_sound name begin datum file found
        by (Some number) some found =
            let it = seen_number scene.formals name 0 number formals.once some in
            let e : it.place ≡ number = (let sum : number ≡ 0 + it.place = it.is_number in omega arith) in
            let told = formals.each it.place it.seen datum it.there (ap (datum_at scene.values) e ∙ found) in
            let same : Some it.seen.denoted ≡ Some begin =
            sym (ap (λ (o : Option Denoted). option_or (option_or (option_or (option_or o None) None) None) (option_or None (file_denoted facts name))) it.last) ∙ means in
            (told.0, sym (same_Some it.seen.denoted begin same) ∙ told.1, told.2)

    -- ---- values

    one_kind : (asked kind : TypeKind) → is_none (other_kind_fault asked kind) ≡ true → are_one_kind asked kind ≡ true
    one_kind asked kind none = by (are_one_kind asked kind) none
      where
        by : (b : Bool) → is_none (fault_if (not b) faults.WrongType) ≡ true → b ≡ true
        by true fine = refl
        by false fine = absurd (let e : false ≡ true = fine in cc)

    -- a path is no number that is written out
    path_kind : (asked : TypeKind) (path : Path) (kind : TypeKind) → is_none (kind_fault asked (exprs.Path path) kind) ≡ true
        → are_one_kind asked kind ≡ true
    path_kind kinds.Float path kind none = one_kind kinds.Float kind none
    path_kind asked path kind none = one_kind asked kind none

    -- a value that stands for something is of the kind that is wanted
    abbrev Fits : Option TypeKind → Datum → Type 0
    Fits wanted datum = (asked : TypeKind) → wanted ≡ Some asked → IsKindly facts objects asked datum

    meant_fits : (wanted : Option TypeKind) (path : Path) (meant : Denoted) (datum : Datum) → Leads meant datum
        → is_none (constant_fault wanted (exprs.Path path) meant) ≡ true → Fits wanted datum
    meant_fits wanted path meant datum leads fine asked is =
        let expr = exprs.Path path in
        let none : is_none (wanted_fault wanted expr leads.0) ≡ true = ap (λ (m : Denoted). is_none (constant_fault wanted expr m)) (sym leads.1) ∙ fine in
        let told : is_none (kind_fault asked expr leads.0) ≡ true =
        sym (ap (λ (w : Option TypeKind). is_none (wanted_fault w expr leads.0)) is) ∙ none in
        kindly_of facts objects asked leads.0 datum (path_kind asked path leads.0 told) leads.2

    decimal_sound : (constant : Constant) (datum : Datum) → IsFineConstant constant → option_map datums.Decimal (constant_decimal constant) ≡ Some datum
        → IsKindly facts objects kinds.Float datum
    decimal_sound constant datum right is = by (constant_decimal constant) refl is
      where
        by : (o : Option ℤ) → constant_decimal constant ≡ o → option_map datums.Decimal o ≡ Some datum → IsKindly facts objects kinds.Float datum
        by None at found = absurd (none-some datum found)
        by (Some decimal) at found =
            subst (IsKindly facts objects kinds.Float) (same_Some (datums.Decimal decimal) datum found) (constant_kept constant decimal right at)

    -- what is written out where this kind is wanted
    literal_sound : (asked : TypeKind) (literal : Literal) (constant : Constant) (datum : Datum) → IsFineConstant constant
        → is_none (constant_fault (Some asked) (exprs.Literal literal) (literal_denoted constant)) ≡ true → literal_datum (Some asked) constant ≡ Some datum
        → IsKindly facts objects asked datum
    literal_sound kinds.Float literal constant datum right fine is = decimal_sound constant datum right is
    literal_sound asked literal (constants.Number number) datum right fine is =
        kindly_of facts objects asked kinds.Int datum (one_kind asked kinds.Int fine)
        (subst (IsDatum facts objects kinds.Int) (same_Some (datums.Number number) datum is) right)
    literal_sound asked literal (constants.Decimal thousandths) datum right fine is =
        kindly_of facts objects asked kinds.Float datum (one_kind asked kinds.Float fine)
        (subst (IsDatum facts objects kinds.Float) (same_Some (datums.Decimal thousandths.0) datum is) right)
    literal_sound asked literal (constants.Truth truth) datum right fine is =
        kindly_of facts objects asked kinds.Bool datum (one_kind asked kinds.Bool fine)
        (subst (IsDatum facts objects kinds.Bool) (same_Some (datums.Truth truth) datum is) tt)

    pub value_sound : (scene : Scenery) (wanted : Option TypeKind) (expr : Expr) (datum : Datum) → AreFormals facts objects scene.formals scene.values → IsFineExpr expr
        → fine_datum grounds scene objects wanted expr ≡ Some datum → Fits wanted datum
    unfolding fine_datum
    value_sound scene wanted (exprs.Literal literal) datum formals right is asked same =
        outer (is_well_written grounds scene (Some asked) (exprs.Literal literal)) refl
        (sym (ap (λ (w : Option TypeKind). fine_datum grounds scene objects w (exprs.Literal literal)) same) ∙ is)
      where
        outer : (b : Bool) → is_well_written grounds scene (Some asked) (exprs.Literal literal) ≡ b
            → (if b then literal_datum (Some asked) literal.constant else None) ≡ Some datum → IsKindly facts objects asked datum
        outer true fine found = literal_sound asked literal literal.constant datum right fine found
        outer false fine found = absurd (none-some datum found)
    value_sound scene wanted (exprs.Path path) datum formals right is asked same =
        outer (is_well_written grounds scene wanted (exprs.Path path)) refl is asked same
      where
        last : (begin : Denoted) (front : Datum) → Leads begin front → data_behind objects (Some front) path.rest ≡ Some datum
            → (u : Understood) → rest_denoted facts path.first.at begin path.rest ≡ u → is_understood wanted (exprs.Path path) u ≡ true → Fits wanted datum
        last begin front leads found (Err fault) means fine = absurd (let e : false ≡ true = fine in cc)
        last begin front leads found (Ok meant) means fine =
            let told : rest_denoted facts path.first.at (denoted.Value leads.0 true) path.rest ≡ Ok meant =
            ap (λ (d : Denoted). rest_denoted facts path.first.at d path.rest) (sym leads.1) ∙ means in
            meant_fits wanted path meant datum (path_sound path.first.at path.rest leads.0 front leads.2 meant datum told found) fine

        inner : (b : Option Denoted) → first_denoted facts (around_formals scene.formals) path.first.text ≡ b
            → is_understood wanted (exprs.Path path) (option_map_or (λ (begin : Denoted). rest_denoted facts path.first.at begin path.rest) b
            (unknown_at path.first.at)) ≡ true
            → (d : Option Datum) → first_datum grounds scene path.first.text ≡ d → data_behind objects d path.rest ≡ Some datum → Fits wanted datum
        inner b means fine None at found = absurd (none-some datum (sym (none_behind objects path.rest) ∙ found))
        inner None means fine (Some front) at found = absurd (let e : false ≡ true = fine in cc)
        inner (Some begin) means fine (Some front) at found =
            last begin front (front_sound scene path.first.text begin front formals means at) found (rest_denoted facts path.first.at begin path.rest) refl fine

        outer : (b : Bool) → is_well_written grounds scene wanted (exprs.Path path) ≡ b
            → (if b then expr_datum grounds scene objects wanted (exprs.Path path) else None) ≡ Some datum → Fits wanted datum
        outer true fine found =
            inner (first_denoted facts (around_formals scene.formals) path.first.text) refl fine (first_datum grounds scene path.first.text) refl found
        outer false fine found = absurd (none-some datum found)

    -- so are arguments
    pub data_sound : (scene : Scenery) (wants : List (Option TypeKind)) (number : ℕ) (some : List Expr) → AreFormals facts objects scene.formals scene.values → All IsFineExpr some
        → (place : ℕ) (datum : Datum) → datum_at (fine_data grounds scene objects wants number some) place ≡ Some datum → Fits (wanted_at wants (number + place)) datum
    data_sound scene wants number [] formals right place datum is = absurd (none-some datum is)
    data_sound scene wants number (expr ∷ more) formals right zero datum is =
        let e : number ≡ number + 0 = omega arith in
        subst (λ (n : ℕ). Fits (wanted_at wants n) datum) e
        (value_sound scene (wanted_at wants number) expr datum formals (All-head IsFineExpr expr more right) is)
    data_sound scene wants number (expr ∷ more) formals right (suc place) datum is =
        let e : number + 1 + place ≡ number + suc place = omega arith in
        subst (λ (n : ℕ). Fits (wanted_at wants n) datum) e
        (data_sound scene wants (number + 1) more formals (All-tail IsFineExpr expr more right) place datum is)
