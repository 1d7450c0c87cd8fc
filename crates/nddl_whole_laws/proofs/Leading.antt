-- A value with which nothing is wrong stands for something, where each object and each name by then does.
use Rattle.std.proofs.Common.{◌≡◌, ℕ, zero, suc, ◌+◌, ◌<◌, ◌⊎◌, inl, inr, Bool, true, false, List, [], ◌∷◌, length, ℤ, refl, sym, ◌∙◌, ap, subst, arith}
use Rattle.std.specs.Prelude.{Option, Some, None, Ok, Err, slice_get, is_none, is_some, if◌then◌else◌}
use Rattle.std.specs.List.{list_any, position_from}
use Rattle.std.specs.Option.{option_and_then, option_map, option_map_or, option_or}
use Rattle.std.specs.Str.{bytes_eq}
use Rattle.std.proofs.lemmas.Option.{same_Some, none-some}
use Rattle.nddl_ast.specs.declared.declaration.FileDecls.{FileDecls}
use Rattle.nddl_ast.specs.declared.expression.Constant.{Constant}
use Rattle.nddl_ast.specs.declared.expression.Constant.TheVariants as constants
use Rattle.nddl_ast.specs.declared.expression.Expr.{Expr}
use Rattle.nddl_ast.specs.declared.expression.Expr.TheVariants as exprs
use Rattle.nddl_ast.specs.declared.expression.Literal.{Literal}
use Rattle.nddl_ast.specs.declared.kind.TextKind.TheVariants as faults
use Rattle.nddl_ast.specs.declared.name.Name.{Name}
use Rattle.nddl_ast.specs.declared.name.Path.{Path}
use Rattle.nddl_ast.specs.Decimals.{constant_decimal, constant_number, decimal_for}
use Rattle.nddl_ast.specs.Places.{expr_place}
use Rattle.nddl_symbols.specs.declared.declared.Declared.{Declared}
use Rattle.nddl_symbols.specs.declared.declared.Sort.{Sort}
use Rattle.nddl_symbols.specs.declared.declared.Sort.TheVariants as sorts
use Rattle.nddl_symbols.specs.declared.scope.Meaning.{Meaning}
use Rattle.nddl_symbols.specs.declared.scope.Meaning.TheVariants as meanings
use Rattle.nddl_symbols.specs.Scope.{fault_if, meaning_of}
use Rattle.nddl_typeexpr.specs.declared.kind.TypeKind.{TypeKind}
use Rattle.nddl_typeexpr.specs.declared.kind.TypeKind.TheVariants as kinds
use Rattle.nddl_hierarchy.specs.Facts.{Facts}
use Rattle.nddl_types.specs.declared.table.TypeTable.{TypeTable}
use Rattle.nddl_types.specs.Table.{IsTable}
use Rattle.nddl_resolve.specs.declared.denoted.Denoted.{Denoted}
use Rattle.nddl_resolve.specs.declared.denoted.Denoted.TheVariants as denoted
use Rattle.nddl_resolve.specs.declared.denoted.Seen.{Seen}
use Rattle.nddl_resolve.specs.Fields.{class_field}
use Rattle.nddl_resolve.specs.Files.{declared_value, file_denoted, meaning_denoted, root_value, sort_denoted}
use Rattle.nddl_resolve.specs.Following.{Understood, found_at, found_next, rest_denoted, unknown_at}
use Rattle.nddl_resolve.specs.Kinds.{number_fault, other_kind_fault}
use Rattle.nddl_resolve.specs.Paths.{expr_denoted, first_denoted, last_seen, literal_denoted, path_denoted}
use Rattle.nddl_constructors.specs.Constants.{constant_fault, constant_faults, constants_faults, is_understood, value_faults}
use Rattle.nddl_constructors.specs.Formals.{around_formals, formal_number}
use Rattle.nddl_constructors.specs.Wants.{wanted_at}
use Rattle.nddl_construction.specs.declared.made.Datum.{Datum}
use Rattle.nddl_construction.specs.declared.made.Datum.TheVariants as datums
use Rattle.nddl_construction.specs.declared.made.MadeObject.{MadeObject}
use Rattle.nddl_construction.specs.declared.made.NamedObject.{NamedObject}
use Rattle.nddl_construction.specs.declared.made.NamedObject.TheVariants as stands
use Rattle.nddl_construction.specs.Classes.{line_up}
use Rattle.nddl_construction.specs.Fields.{field_datum}
use Rattle.nddl_construction.specs.Reading.{all_unmade_faults, data_behind, datum_at, expr_datum, fine_data, fine_datum, first_datum, is_unmade, is_unmade_meaning, is_unmade_object, is_unmade_sort, is_well_written, literal_datum, meaning_datum, named_datum, sort_datum, unmade_faults}
use Rattle.nddl_construction.specs.Scene.{Grounds, Scenery}
use Rattle.nddl_objects.specs.Finished.{is_class_out}
use Rattle.nddl_objects.specs.Objects.{last_progress, progress_fault}
use Rattle.nddl_problem_check.specs.Texts.{problem_text_faults}
use Rattle.nddl_laws.specs.Given.{AreGiven}
use Rattle.nddl_laws.proofs.Nothing.{none_first, none_second}
use Rattle.nddl_laws.proofs.Values.{no_fault, not_so}
use Rattle.nddl_model_laws.proofs.Fielded.{same_field}
use Rattle.nddl_model_laws.proofs.Typing.{AreDeclared, AreFormals, AreTyped, HaveLines, IsDatum, front_sound, typed_datum}
use Rattle.nddl_whole_laws.specs.Whole.{HasAll}
use Rattle.nddl_whole_laws.proofs.Changing.{IsChanging, global_changing, never_constant, root_changing}

-- there is one
abbrev pub Has : {X : Type 0} → Option X → Type 0
Has {X} o = (x : X) × (o ≡ Some x)

-- each of so many values is there
abbrev pub AreThere : ℕ → List (Option Datum) → Type 0
AreThere count values = (number : ℕ) → number < count → Has (datum_at values number)

-- the object is set to something in each field, and its numbers keep their bounds
pub record IsWhole (facts : Facts) (object : MadeObject) : Type 0 where
  pub set : HasAll facts object
  pub inside : list_any (is_class_out object.fields) (line_up facts object.class) ≡ false

-- so is each object
abbrev pub AreFull : Facts → List MadeObject → Type 0
AreFull facts objects = (number : ℕ) (object : MadeObject) → slice_get objects number ≡ Some object → IsWhole facts object

-- each name of an object that is made stands for it
abbrev pub AreNamed : List NamedObject → Type 0
AreNamed named_objects = (entry : ℕ) (datum : Option Datum) → slice_get named_objects entry ≡ Some (stands.Made datum) → Has datum

-- What is there is in order: fields are set to what is of their kinds, each object is full, and names stand for what is made.
pub record IsSettled (facts : Facts) (objects : List MadeObject) (named_objects : List NamedObject) : Type 0 where
  pub typed : AreTyped facts objects
  pub lines : HaveLines facts objects
  pub full : AreFull facts objects
  pub declared : AreDeclared facts objects named_objects
  pub named : AreNamed named_objects
  pub whole : (entry : ℕ) (one : Declared) → slice_get facts.names entry ≡ Some one → Has (slice_get named_objects entry)

-- ---- places

position_below : {X : Type 0} (test : X → Bool) (start number : ℕ) (some : List X) → position_from test start some ≡ Some number
    → number < start + length some
position_below test start number [] told = absurd (none-some number told)
position_below test start number (x ∷ more) told = by (test x) told (λ rest. position_below test (start + 1) number more rest)
  where
    by : (b : Bool) → (if b then Some start else position_from test (start + 1) more) ≡ Some number
        → (position_from test (start + 1) more ≡ Some number → number < start + 1 + length more) → number < start + suc (length more)
    by true here rest = let e : start ≡ number = same_Some start number here in omega arith
    by false later rest = let less : number < start + 1 + length more = rest later in omega arith

last_unseen : (formals : List Seen) (name : List ℕ) (start : ℕ) → position_from (λ (formal : Seen). bytes_eq name formal.name) start formals ≡ None
    → last_seen name formals ≡ None
last_unseen [] name start none = refl
last_unseen (seen ∷ more) name start none =
    by (bytes_eq name seen.name) refl none (λ later. last_unseen more name (start + 1) later)
  where
    by : (b : Bool) → bytes_eq name seen.name ≡ b
        → (if b then Some start else position_from (λ (formal : Seen). bytes_eq name formal.name) (start + 1) more) ≡ None
        → (position_from (λ (formal : Seen). bytes_eq name formal.name) (start + 1) more ≡ None → last_seen name more ≡ None)
        → option_or (last_seen name more) (if bytes_eq name seen.name then Some seen.denoted else None) ≡ None
    by true same found rest = absurd (none-some start (sym found))
    by false same found rest = (λ i. option_or (rest found i) (if same i then Some seen.denoted else None))

-- ---- what is written out

number_there : (number : ℤ) → number_fault number ≡ None → Has (decimal_for number)
number_there number none = by (decimal_for number) refl (not_so (is_none (decimal_for number)) faults.NotInDomain none)
  where
    by : (o : Option ℤ) → decimal_for number ≡ o → is_none o ≡ false → Has (decimal_for number)
    by None at missing = absurd (let e : true ≡ false = missing in cc)
    by (Some decimal) at missing = (decimal, at)

decimal_there : (constant : Constant) (kind : TypeKind) → literal_denoted constant ≡ denoted.Value kind true
    → option_map_or number_fault (constant_number constant) (other_kind_fault kinds.Float kind) ≡ None
    → Has (option_map datums.Decimal (constant_decimal constant))
decimal_there (constants.Number number) kind means none =
    let has = number_there number none in (datums.Decimal has.0, ap (option_map datums.Decimal) has.1)
decimal_there (constants.Decimal thousandths) kind means none = (datums.Decimal thousandths.0, refl)
decimal_there (constants.Truth truth) kind means none =
    let same : kinds.Bool ≡ kind = cc in
    absurd (none-some faults.WrongType (sym (ap (other_kind_fault kinds.Float) same ∙ none)))

literal_there : (wanted : Option TypeKind) (literal : Literal) → constant_fault wanted (exprs.Literal literal) (literal_denoted literal.constant) ≡ None
    → Has (literal_datum wanted literal.constant)
literal_there wanted literal none = by wanted literal.constant refl none
  where
    plain : (constant : Constant) → Has (literal_datum None constant)
    plain (constants.Number number) = (datums.Number number, refl)
    plain (constants.Decimal thousandths) = (datums.Decimal thousandths.0, refl)
    plain (constants.Truth truth) = (datums.Truth truth, refl)

    float : (constant : Constant) → literal.constant ≡ constant → constant_fault (Some kinds.Float) (exprs.Literal literal) (literal_denoted constant) ≡ None
        → Has (option_map datums.Decimal (constant_decimal constant))
    float (constants.Number number) same fine =
        decimal_there (constants.Number number) kinds.Int refl
        (sym (ap (λ (c : Constant). option_map_or number_fault (constant_number c) (other_kind_fault kinds.Float kinds.Int)) same) ∙ fine)
    float (constants.Decimal thousandths) same fine = (datums.Decimal thousandths.0, refl)
    float (constants.Truth truth) same fine =
        decimal_there (constants.Truth truth) kinds.Bool refl
        (sym (ap (λ (c : Constant). option_map_or number_fault (constant_number c) (other_kind_fault kinds.Float kinds.Bool)) same) ∙ fine)

    by : (w : Option TypeKind) (constant : Constant) → literal.constant ≡ constant → constant_fault w (exprs.Literal literal) (literal_denoted constant) ≡ None
        → Has (literal_datum w constant)
    by None constant same fine = plain constant
    by (Some kinds.Float) constant same fine = float constant same fine
    by (Some kinds.Int) (constants.Number number) same fine = (datums.Number number, refl)
    by (Some kinds.Int) (constants.Decimal thousandths) same fine = (datums.Decimal thousandths.0, refl)
    by (Some kinds.Int) (constants.Truth truth) same fine = (datums.Truth truth, refl)
    by (Some kinds.Bool) (constants.Number number) same fine = (datums.Number number, refl)
    by (Some kinds.Bool) (constants.Decimal thousandths) same fine = (datums.Decimal thousandths.0, refl)
    by (Some kinds.Bool) (constants.Truth truth) same fine = (datums.Truth truth, refl)
    by (Some (kinds.Enum of)) (constants.Number number) same fine = (datums.Number number, refl)
    by (Some (kinds.Enum of)) (constants.Decimal thousandths) same fine = (datums.Decimal thousandths.0, refl)
    by (Some (kinds.Enum of)) (constants.Truth truth) same fine = (datums.Truth truth, refl)
    by (Some (kinds.Object class)) (constants.Number number) same fine = (datums.Number number, refl)
    by (Some (kinds.Object class)) (constants.Decimal thousandths) same fine = (datums.Decimal thousandths.0, refl)
    by (Some (kinds.Object class)) (constants.Truth truth) same fine = (datums.Truth truth, refl)

-- ---- what is told of a value

pub unmade_not : (grounds : Grounds) (scene : Scenery) (expr : Expr) → unmade_faults grounds scene expr ≡ [] → is_unmade grounds scene expr ≡ false
unmade_not grounds scene expr none =
    not_so (is_unmade grounds scene expr) faults.Unknown
    (no_fault scene.decl (expr_place expr) (fault_if (is_unmade grounds scene expr) faults.Unknown) none)

understood_so : (decl : ℕ) (wanted : Option TypeKind) (expr : Expr) (u : Understood) → constant_faults decl wanted expr u ≡ []
    → (meant : Denoted) × (u ≡ Ok meant) × (constant_fault wanted expr meant ≡ None)
understood_so decl wanted expr (Ok meant) none = (meant, refl, no_fault decl (expr_place expr) (constant_fault wanted expr meant) none)
understood_so decl wanted expr (Err fault) none = absurd (cc)

told_value : (facts : Facts) (formals : List Seen) (decl : ℕ) (wanted : Option TypeKind) (expr : Expr) → value_faults facts (around_formals formals) decl wanted expr ≡ []
    → constant_faults decl wanted expr (expr_denoted facts (around_formals formals) expr) ≡ []
unfolding value_faults
told_value facts formals decl wanted expr none = none

module _ (files : List FileDecls) (table : TypeTable) (given : AreGiven files) (is : IsTable files table)
    (fine : progress_fault (last_progress is.facts) ≡ None) (text : problem_text_faults is.facts ≡ []) (objects : List MadeObject)
    (named_objects : List NamedObject) (settled : IsSettled is.facts objects named_objects) where
  abbrev facts : Facts
  facts = is.facts

  abbrev grounds : Grounds
  grounds = record { facts = facts; named_objects = named_objects }

  abbrev Changing : Denoted → Type 0
  Changing = IsChanging files table given is

  -- ---- paths

  path_leads : (first : ℕ) (names : List Name) (kind : TypeKind) (datum : Datum) → IsDatum facts objects kind datum → (meant : Denoted)
      → rest_denoted facts first (denoted.Value kind true) names ≡ Ok meant → Has (data_behind objects (Some datum) names)
  path_leads first [] kind datum it meant means = (datum, refl)
  path_leads first (name ∷ more) (kinds.Object class) (datums.Number number) it meant means = absurd it
  path_leads first (name ∷ more) (kinds.Object class) (datums.Decimal thousandths) it meant means = absurd it
  path_leads first (name ∷ more) (kinds.Object class) (datums.Truth truth) it meant means = absurd it
  path_leads first (name ∷ more) (kinds.Object class) (datums.Member entry) it meant means = absurd it
  path_leads first (name ∷ more) kinds.Int datum it meant means = absurd (cc)
  path_leads first (name ∷ more) kinds.Float datum it meant means = absurd (cc)
  path_leads first (name ∷ more) kinds.Bool datum it meant means = absurd (cc)
  path_leads first (name ∷ more) (kinds.Enum number) datum it meant means = absurd (cc)
  path_leads first (name ∷ more) (kinds.Object class) (datums.Object number) it meant means =
      by (class_field facts true name.text class) refl means (λ kind datum. path_leads first more kind datum)
    where
      by : (o : Option Denoted) → class_field facts true name.text class ≡ o
          → found_next (λ (next : Denoted). rest_denoted facts first next more) (found_at name o) ≡ Ok meant
          → ((kind : TypeKind) (datum : Datum) → IsDatum facts objects kind datum → (meant : Denoted)
          → rest_denoted facts first (denoted.Value kind true) more ≡ Ok meant → Has (data_behind objects (Some datum) more))
          → Has (data_behind objects (option_and_then (λ (object : MadeObject). field_datum name.text object.fields) (slice_get objects number)) more)
      by None field told rest = absurd (cc)
      by (Some next) field told rest =
          let own = same_field facts class it.object.class (settled.lines number it.object it.there) true name.text next it.of_class field in
          let has = (settled.full number it.object it.there).set name.text next own in
          let of = typed_datum facts objects it.object.class it.object.fields name.text has.0 (settled.typed number it.object it.there) has.1 in
          let same : next ≡ denoted.Value of.0 true = same_Some next (denoted.Value of.0 true) (sym own ∙ of.1) in
          let found = rest of.0 has.0 of.2 meant (sym (ap (λ (n : Denoted). rest_denoted facts first n more) same) ∙ told) in
          let behind : option_and_then (λ (object : MadeObject). field_datum name.text object.fields) (slice_get objects number) ≡ Some has.0 =
          ap (option_and_then (λ (object : MadeObject). field_datum name.text object.fields)) it.there ∙ has.1 in
          (found.0, ap (λ (d : Option Datum). data_behind objects d more) behind ∙ found.1)

  -- ---- the front of a path

  sort_leads : (entry : ℕ) (declared : Declared) (sort : Sort) (begin : Denoted) → slice_get facts.names entry ≡ Some declared → declared.sort ≡ sort
      → sort_denoted facts entry declared sort ≡ Some begin → is_unmade_sort named_objects entry sort ≡ false
      → Has (sort_datum named_objects entry sort) ⊎ Changing begin
  sort_leads entry declared (sorts.Member of place) begin there sort means made = inl (datums.Member entry, refl)
  sort_leads entry declared sorts.Object begin there sort means made = by (slice_get named_objects entry) refl made
    where
      by : (o : Option NamedObject) → slice_get named_objects entry ≡ o → is_unmade_object o ≡ false → Has (named_datum o) ⊎ Changing begin
      by None at told = let has = settled.whole entry declared there in absurd (none-some has.0 (sym at ∙ has.1))
      by (Some stands.Unmade) at told = absurd (let e : true ≡ false = told in cc)
      by (Some (stands.Made datum)) at told = inl (settled.named entry datum at)
  sort_leads entry declared sorts.Global begin there sort means made =
      inr (global_changing files table given is entry declared begin there sort (same_Some (declared_value facts false declared) begin means))
  sort_leads entry declared sorts.Root begin there sort means made =
      inr (root_changing files table given is fine text entry declared begin there sort (same_Some (root_value facts declared) begin means))
  sort_leads entry declared sorts.Forward begin there sort means made =
      inr (subst Changing (same_Some (denoted.Class (meanings.Entry entry)) begin means) tt)
  sort_leads entry declared sorts.Body begin there sort means made =
      inr (subst Changing (same_Some (denoted.Class (meanings.Entry entry)) begin means) tt)
  sort_leads entry declared (sorts.Enum number) begin there sort means made = absurd (none-some begin means)
  sort_leads entry declared sorts.Typedef begin there sort means made = absurd (none-some begin means)
  sort_leads entry declared sorts.Config begin there sort means made = absurd (none-some begin means)

  file_leads : (name : List ℕ) (begin : Denoted) → file_denoted facts name ≡ Some begin → is_unmade_meaning grounds (meaning_of facts.names name) ≡ false
      → Has (meaning_datum grounds (meaning_of facts.names name)) ⊎ Changing begin
  file_leads name begin means made = by (meaning_of facts.names name) means made
    where
      inner : (entry : ℕ) (o : Option Declared) → slice_get facts.names entry ≡ o
          → option_and_then (λ (declared : Declared). sort_denoted facts entry declared declared.sort) o ≡ Some begin
          → option_map_or (λ (declared : Declared). is_unmade_sort named_objects entry declared.sort) o false ≡ false
          → Has (option_and_then (λ (declared : Declared). sort_datum named_objects entry declared.sort) o) ⊎ Changing begin
      inner entry None there told made = absurd (none-some begin told)
      inner entry (Some declared) there told made = sort_leads entry declared declared.sort begin there refl told made

      by : (o : Option Meaning) → option_and_then (meaning_denoted facts) o ≡ Some begin → is_unmade_meaning grounds o ≡ false
          → Has (meaning_datum grounds o) ⊎ Changing begin
      by None told made = absurd (none-some begin told)
      by (Some (meanings.BuiltIn number)) told made = inr (subst Changing (same_Some (denoted.Class (meanings.BuiltIn number)) begin told) tt)
      by (Some (meanings.Entry entry)) told made = inner entry (slice_get facts.names entry) refl told made

  front_leads : (scene : Scenery) (path : Path) (begin : Denoted) → AreThere (length scene.formals) scene.values
      → first_denoted facts (around_formals scene.formals) path.first.text ≡ Some begin → is_unmade grounds scene (exprs.Path path) ≡ false
      → Has (first_datum grounds scene path.first.text) ⊎ Changing begin
  front_leads scene path begin there means made = by (formal_number scene.formals path.first.text) refl made
    where
      by : (o : Option ℕ) → formal_number scene.formals path.first.text ≡ o
          → (if is_some o then false else is_unmade_meaning grounds (meaning_of facts.names path.first.text)) ≡ false
          → Has (option_map_or (datum_at scene.values) o (meaning_datum grounds (meaning_of facts.names path.first.text))) ⊎ Changing begin
      by None none told =
          let last = last_unseen scene.formals path.first.text 0 none in
          let file : file_denoted facts path.first.text ≡ Some begin =
          sym (ap (λ (o : Option Denoted). option_or (option_or (option_or (option_or o None) None) None) (option_or None (file_denoted facts path.first.text))) last) ∙ means in
          file_leads path.first.text begin file told
      by (Some number) some told =
          let below = position_below (λ (formal : Seen). bytes_eq path.first.text formal.name) 0 number scene.formals some in
          inl (there number (let less : number < 0 + length scene.formals = below in omega arith))

  -- ---- values

  -- what is found of the paths and constants of a scene
  pub expr_leads : (scene : Scenery) (wanted : Option TypeKind) (decl : ℕ) (expr : Expr) → AreFormals facts objects scene.formals scene.values
      → AreThere (length scene.formals) scene.values → value_faults facts (around_formals scene.formals) decl wanted expr ≡ []
      → unmade_faults grounds scene expr ≡ [] → Has (fine_datum grounds scene objects wanted expr)
  unfolding fine_datum
  expr_leads scene wanted decl (exprs.Literal literal) formals there none made =
      let expr = exprs.Literal literal in
      let fault : constant_fault wanted expr (literal_denoted literal.constant) ≡ None =
      no_fault decl (expr_place expr) (constant_fault wanted expr (literal_denoted literal.constant)) (told_value facts scene.formals decl wanted expr none) in
      let well : is_well_written grounds scene wanted expr ≡ true = ap is_none fault in
      let has = literal_there wanted literal fault in
      (has.0, ap (λ (b : Bool). if b then literal_datum wanted literal.constant else None) well ∙ has.1)
  expr_leads scene wanted decl (exprs.Path path) formals there none made =
      let expr = exprs.Path path in
      let u = path_denoted facts (around_formals scene.formals) path in
      let told = understood_so decl wanted expr u (told_value facts scene.formals decl wanted expr none) in
      let well : is_well_written grounds scene wanted expr ≡ true = ap (is_understood wanted expr) told.1 ∙ ap is_none told.2 in
      let has = by told.0 told.2 (first_denoted facts (around_formals scene.formals) path.first.text) refl told.1 in
      (has.0, ap (λ (b : Bool). if b then expr_datum grounds scene objects wanted expr else None) well ∙ has.1)
    where
      by : (meant : Denoted) → constant_fault wanted (exprs.Path path) meant ≡ None
          → (o : Option Denoted) → first_denoted facts (around_formals scene.formals) path.first.text ≡ o
          → option_map_or (λ (begin : Denoted). rest_denoted facts path.first.at begin path.rest) o (unknown_at path.first.at) ≡ Ok meant
          → Has (data_behind objects (first_datum grounds scene path.first.text) path.rest)
      by meant fault None at told = absurd (cc)
      by meant fault (Some begin) at told =
          elim (front_leads scene path begin there at (unmade_not grounds scene (exprs.Path path) made)) [
            | inl has ↦
                (let leads = front_sound facts objects settled.typed settled.lines named_objects settled.declared scene path.first.text begin has.0 formals at has.1 in
                let found = path_leads path.first.at path.rest leads.0 has.0 leads.2 meant
                (sym (ap (λ (d : Denoted). rest_denoted facts path.first.at d path.rest) leads.1) ∙ told) in
                (found.0, ap (λ (d : Option Datum). data_behind objects d path.rest) has.1 ∙ found.1))
            | inr changing ↦
                absurd (never_constant files table given is wanted (exprs.Path path) path.first.at begin path.rest meant changing told fault)
          ]

  -- so do arguments
  pub arguments_lead : (scene : Scenery) (decl : ℕ) (wants : List (Option TypeKind)) (number : ℕ) (some : List Expr) → AreFormals facts objects scene.formals scene.values
      → AreThere (length scene.formals) scene.values → constants_faults facts (around_formals scene.formals) decl wants number some ≡ []
      → all_unmade_faults grounds scene some ≡ [] → AreThere (length some) (fine_data grounds scene objects wants number some)
  arguments_lead scene decl wants number [] formals there none made place less = absurd (omega arith)
  arguments_lead scene decl wants number (expr ∷ more) formals there none made zero less =
      expr_leads scene (wanted_at wants number) decl expr formals there
      (none_first (value_faults facts (around_formals scene.formals) decl (wanted_at wants number) expr)
      (constants_faults facts (around_formals scene.formals) decl wants (number + 1) more) none)
      (none_first (unmade_faults grounds scene expr) (all_unmade_faults grounds scene more) made)
  arguments_lead scene decl wants number (expr ∷ more) formals there none made (suc place) less =
      arguments_lead scene decl wants (number + 1) more formals there
      (none_second (value_faults facts (around_formals scene.formals) decl (wanted_at wants number) expr)
      (constants_faults facts (around_formals scene.formals) decl wants (number + 1) more) none)
      (none_second (unmade_faults grounds scene expr) (all_unmade_faults grounds scene more) made) place (omega (arith, less))
