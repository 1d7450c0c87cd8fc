-- A class has the fields of each class that it is under, of the same kinds.
use Rattle.std.proofs.Common.{◌≡◌, ◌≢◌, ℕ, zero, suc, ◌==◌, Bool, true, false, ◌||◌, ◌⊎◌, inl, inr, List, [], ◌∷◌, ◌++◌, refl, sym, ◌∙◌, ap, subst}
use Rattle.std.specs.Prelude.{Option, Some, None, All, codes, if◌then◌else◌}
use Rattle.std.specs.List.{AllByRecursion, filter_map, list_any}
use Rattle.std.specs.Option.{option_map_or, option_or}
use Rattle.std.specs.Str.{bytes_eq}
use Rattle.std.proofs.lemmas.Bool.Decides.{Decides-eqb}
use Rattle.std.proofs.lemmas.List.Elements.{All-weaker, recursion_from_All}
use Rattle.std.proofs.lemmas.Option.{same_Some, none-some}
use Rattle.std.proofs.lemmas.Slice.Eq.{bytes_eq-Decides}
use Rattle.eu_forest.specs.Ancestors.{ancestry}
use Rattle.nddl_ast.specs.declared.declaration.Member.{Member}
use Rattle.nddl_ast.specs.declared.declaration.Member.TheVariants as members
use Rattle.nddl_ast.specs.declared.declaration.Typed.{Typed}
use Rattle.nddl_symbols.specs.declared.scope.Meaning.{Meaning}
use Rattle.nddl_symbols.specs.declared.scope.Meaning.TheVariants as meanings
use Rattle.nddl_symbols.specs.Names.{scope_names}
use Rattle.nddl_typeexpr.specs.declared.kind.TypeKind.{TypeKind}
use Rattle.nddl_typeexpr.specs.declared.kind.TypeKind.TheVariants as kinds
use Rattle.nddl_typeexpr.specs.Bases.{base_kind}
use Rattle.nddl_hierarchy.specs.Ancestors.{above, is_every, is_extended, is_same_meaning, means}
use Rattle.nddl_hierarchy.specs.Decls.{members_of}
use Rattle.nddl_hierarchy.specs.Facts.{Facts}
use Rattle.nddl_hierarchy.specs.Members.{member_field, named_typed}
use Rattle.nddl_declarations.specs.Known.{AreFacts}
use Rattle.nddl_declarations.specs.Faults.{all_faults}
use Rattle.nddl_types.specs.Classes.{whole_field}
use Rattle.nddl_resolve.specs.declared.denoted.Denoted.{Denoted}
use Rattle.nddl_resolve.specs.declared.denoted.Denoted.TheVariants as denoted
use Rattle.nddl_resolve.specs.Fields.{class_field, field_along, is_builtin_field, is_given_along, is_given_field, line_field, number_field, type_value}
use Rattle.nddl_constructors.specs.Creations.{is_of_class}
use Rattle.nddl_laws.proofs.Apart.{Item}
use Rattle.nddl_laws.proofs.Declared.{IsRightDecl}
use Rattle.nddl_laws.proofs.Items.{builtin_items, class_items, member_item}
use Rattle.nddl_laws.proofs.Known.{meant}
use Rattle.nddl_laws.proofs.Lists.{all_kept}
use Rattle.nddl_laws.proofs.Members.{IsRightAt, members_right}
use Rattle.nddl_laws.proofs.WholeTypes.{type_means}
use Rattle.nddl_model_laws.proofs.Lined.{AreFree, Lined, own_items, stands_over, stands_top, stands_under}

-- no item is called so
abbrev pub IsFree : List ℕ → List Item → Type 0
IsFree name xs = AllByRecursion (λ (x : Item). x.1 ≢ name) xs

-- ---- among members

pub same_word : (name word : List ℕ) → bytes_eq name word ≡ true → name ≡ word
same_word name word is = (bytes_eq-Decides name word).0 is

-- what is found is an item of this name
own_found : (some : List Member) (name : List ℕ) (typed : Typed) → named_typed name (filter_map member_field some) ≡ Some typed
    → (P : Item → Type 0) → AllByRecursion P (filter_map member_item some) → P (true, typed.name.text) × (name ≡ typed.name.text)
own_found [] name typed is P all = absurd (none-some typed is)
own_found (members.Predicate at own parts ∷ more) name typed is P all = own_found more name typed is P all.1
own_found (members.Constructor own formals sets ∷ more) name typed is P all = own_found more name typed is P all
own_found (members.Field one ∷ more) name typed is P all =
    by (bytes_eq name one.name.text) refl is (λ there. own_found more name typed there P all.1)
  where
    by : (b : Bool) → bytes_eq name one.name.text ≡ b → (if b then Some one else named_typed name (filter_map member_field more)) ≡ Some typed
        → (named_typed name (filter_map member_field more) ≡ Some typed → P (true, typed.name.text) × (name ≡ typed.name.text))
        → P (true, typed.name.text) × (name ≡ typed.name.text)
    by true same found rest =
        let it : one ≡ typed = same_Some one typed found in
        subst (λ (t : Typed). P (true, t.name.text) × (name ≡ t.name.text)) it (all.0, same_word name one.name.text same)
    by false same found rest = rest found

-- what holds of each field holds of the one that is found
pub found_so : (P : Typed → Type 0) (some : List Typed) (name : List ℕ) (typed : Typed) → AllByRecursion P some → named_typed name some ≡ Some typed → P typed
found_so P [] name typed all is = absurd (none-some typed is)
found_so P (one ∷ more) name typed all is = by (bytes_eq name one.name.text) is (λ there. found_so P more name typed all.1 there)
  where
    by : (b : Bool) → (if b then Some one else named_typed name more) ≡ Some typed → (named_typed name more ≡ Some typed → P typed) → P typed
    by true found rest = subst P (same_Some one typed found) all.0
    by false found rest = rest found

-- and none is found where none is called so
own_none : (some : List Member) (name : List ℕ) → IsFree name (filter_map member_item some) → named_typed name (filter_map member_field some) ≡ None
own_none [] name free = refl
own_none (members.Predicate at own parts ∷ more) name free = own_none more name free.1
own_none (members.Constructor own formals sets ∷ more) name free = own_none more name free
own_none (members.Field one ∷ more) name free = by (bytes_eq name one.name.text) refl (own_none more name free.1)
  where
    by : (b : Bool) → bytes_eq name one.name.text ≡ b → named_typed name (filter_map member_field more) ≡ None
        → (if b then Some one else named_typed name (filter_map member_field more)) ≡ None
    by true same rest = absurd (free.0 (sym (same_word name one.name.text same)))
    by false same rest = rest

-- ---- built-in fields

not_word : (name word : List ℕ) → word ≢ name → bytes_eq name word ≡ false
not_word name word differ = by (bytes_eq name word) refl
  where
    by : (b : Bool) → bytes_eq name word ≡ b → bytes_eq name word ≡ false
    by true same = absurd (differ (sym (same_word name word same)))
    by false same = same

builtin_free : (number : ℕ) (name : List ℕ) → IsFree name (builtin_items number) → is_builtin_field name number ≡ false
builtin_free number name = by (number == 2) (number == 3)
  where
    by : (two three : Bool)
        → IsFree name (if two then (true, codes "capacity") ∷ (false, codes "uses") ∷ []
        else (if three
        then (true, codes "initial") ∷ (true, codes "low") ∷ (true, codes "high") ∷ (false, codes "produce") ∷ (false, codes "consume") ∷ []
        else []))
        → list_any (λ field. bytes_eq name field.name)
        (if two then whole_field (codes "capacity") ∷ []
        else (if three then whole_field (codes "initial") ∷ whole_field (codes "low") ∷ whole_field (codes "high") ∷ [] else [])) ≡ false
    by true three free = ap (λ (b : Bool). b || false) (not_word name (codes "capacity") free.0)
    by false true free =
        (λ i. not_word name (codes "initial") free.0 i || (not_word name (codes "low") free.1.0 i || (not_word name (codes "high") free.1.1.0 i || false)))
    by false false free = refl

-- ---- along a line

pub or_cases : (one other : Bool) → (one || other) ≡ true → (one ≡ true) ⊎ (other ≡ true)
or_cases true other is = inl refl
or_cases false other is = inr is

same_meanings : (one other : Meaning) → is_same_meaning one other ≡ true → one ≡ other
same_meanings (meanings.BuiltIn one) (meanings.BuiltIn other) is = ap meanings.BuiltIn ((Decides-eqb one other).0 is)
same_meanings (meanings.Entry one) (meanings.Entry other) is = ap meanings.Entry ((Decides-eqb one other).0 is)
same_meanings (meanings.BuiltIn one) (meanings.Entry other) is = absurd (let e : false ≡ true = is in cc)
same_meanings (meanings.Entry one) (meanings.BuiltIn other) is = absurd (let e : false ≡ true = is in cc)

module _ (facts : Facts) where
  abbrev pub own_field : ℕ → List ℕ → Option Typed
  own_field entry name = named_typed name (filter_map member_field (members_of facts.names facts.program entry))

  abbrev pub value_of : Bool → Typed → Option Denoted
  value_of constant typed = Some (type_value facts.names facts.known constant typed.declared)

  -- the field of a class with this line, which extends this
  abbrev pub field_with : Bool → List ℕ → Option Typed → Option Meaning → List ℕ → Option Denoted
  field_with constant name own up line =
      option_map_or (value_of constant) (option_or own (field_along facts.names facts.program name line))
      (number_field constant (is_given_field name up || is_given_along facts.names facts.program name line))

  pub field_is : (constant : Bool) (name : List ℕ) (entry : ℕ) (up : Option Meaning) (line : List ℕ) → above facts.names facts.program entry ≡ up
      → ancestry facts.parents entry ≡ entry ∷ line
      → class_field facts constant name (meanings.Entry entry) ≡ field_with constant name (own_field entry name) up line
  field_is constant name entry up line extends is =
      ap (line_field facts constant name) is ∙ ap (λ (m : Option Meaning). field_with constant name (own_field entry name) m line) extends

  -- where no item is called so there is no field
  free_none : (levels entry : ℕ) → Lined facts levels entry → (constant : Bool) (name : List ℕ) → IsFree name (class_items facts entry)
      → class_field facts constant name (meanings.Entry entry) ≡ None
  free_none zero entry line constant name free = absurd line
  free_none (suc levels) entry (stands_top is up line items) constant name free =
      let own = own_none (members_of facts.names facts.program entry) name (subst (IsFree name) items free) in
      field_is constant name entry None [] up line ∙ ap (λ (o : Option Typed). field_with constant name o None []) own
  free_none (suc levels) entry (stands_over number few is up line items apart) constant name free =
      let both = subst (IsFree name) items free in
      let own = own_none (members_of facts.names facts.program entry) name (free_behind (builtin_items number) (own_items facts entry) both) in
      let given = builtin_free number name (free_before (builtin_items number) (own_items facts entry) both) in
      field_is constant name entry (Some (meanings.BuiltIn number)) [] up line
      ∙ (ap (λ (o : Option Typed). field_with constant name o (Some (meanings.BuiltIn number)) []) own
      ∙ ap (λ (b : Bool). number_field constant (b || false)) given)
    where
      free_before : (xs ys : List Item) → IsFree name (xs ++ ys) → IsFree name xs
      free_before [] ys all = tt
      free_before (x ∷ xs) ys all = (all.0, free_before xs ys all.1)

      free_behind : (xs ys : List Item) → IsFree name (xs ++ ys) → IsFree name ys
      free_behind [] ys all = all
      free_behind (x ∷ xs) ys all = free_behind xs ys all.1
  free_none (suc levels) entry (stands_under other is class up line items apart above_it) constant name free =
      let both = subst (IsFree name) items free in
      let own = own_none (members_of facts.names facts.program entry) name (free_behind (class_items facts other) (own_items facts entry) both) in
      let rest = free_none levels other above_it constant name (free_before (class_items facts other) (own_items facts entry) both) in
      field_is constant name entry (Some (meanings.Entry other)) (ancestry facts.parents other) up line
      ∙ (ap (λ (o : Option Typed). field_with constant name o (Some (meanings.Entry other)) (ancestry facts.parents other)) own ∙ rest)
    where
      free_before : (xs ys : List Item) → IsFree name (xs ++ ys) → IsFree name xs
      free_before [] ys all = tt
      free_before (x ∷ xs) ys all = (all.0, free_before xs ys all.1)

      free_behind : (xs ys : List Item) → IsFree name (xs ++ ys) → IsFree name ys
      free_behind [] ys all = all
      free_behind (x ∷ xs) ys all = free_behind xs ys all.1

  -- a class has each field of the class that it extends
  pub over_builtin : (entry number : ℕ) (constant : Bool) (name : List ℕ) (value : Denoted) → above facts.names facts.program entry ≡ Some (meanings.BuiltIn number)
      → ancestry facts.parents entry ≡ entry ∷ [] → AreFree (builtin_items number) (own_items facts entry)
      → class_field facts constant name (meanings.BuiltIn number) ≡ Some value → class_field facts constant name (meanings.Entry entry) ≡ Some value
  over_builtin entry number constant name value up line apart is =
      field_is constant name entry (Some (meanings.BuiltIn number)) [] up line ∙ by (own_field entry name) refl
    where
      known : (b : Bool) → number_field constant b ≡ Some value → number_field constant (b || false) ≡ Some value
      known true given = given
      known false given = absurd (none-some value given)

      by : (o : Option Typed) → own_field entry name ≡ o → field_with constant name o (Some (meanings.BuiltIn number)) [] ≡ Some value
      by None at = known (is_builtin_field name number) is
      by (Some typed) at =
          let found = own_found (members_of facts.names facts.program entry) name typed at
          (λ (y : Item). AllByRecursion (λ (x : Item). x.1 ≢ y.1) (builtin_items number)) apart in
          let free = subst (λ (word : List ℕ). IsFree word (builtin_items number)) (sym found.1) found.0 in
          let none : number_field constant false ≡ Some value = ap (number_field constant) (sym (builtin_free number name free)) ∙ is in
          absurd (none-some value none)

  pub over_class : (levels entry other : ℕ) (constant : Bool) (name : List ℕ) (value : Denoted) → above facts.names facts.program entry ≡ Some (meanings.Entry other)
      → ancestry facts.parents entry ≡ entry ∷ ancestry facts.parents other → AreFree (class_items facts other) (own_items facts entry) → Lined facts levels other
      → class_field facts constant name (meanings.Entry other) ≡ Some value → class_field facts constant name (meanings.Entry entry) ≡ Some value
  over_class levels entry other constant name value up line apart above_it is =
      field_is constant name entry (Some (meanings.Entry other)) (ancestry facts.parents other) up line ∙ by (own_field entry name) refl
    where
      by : (o : Option Typed) → own_field entry name ≡ o → field_with constant name o (Some (meanings.Entry other)) (ancestry facts.parents other) ≡ Some value
      by None at = is
      by (Some typed) at =
          let found = own_found (members_of facts.names facts.program entry) name typed at
          (λ (y : Item). AllByRecursion (λ (x : Item). x.1 ≢ y.1) (class_items facts other)) apart in
          let free = subst (λ (word : List ℕ). IsFree word (class_items facts other)) (sym found.1) found.0 in
          absurd (none-some value (sym (free_none levels other above_it constant name free) ∙ is))

  -- so each field of a class that is extended along its line
  along : (levels entry : ℕ) → Lined facts levels entry → (class : Meaning) (constant : Bool) (name : List ℕ) (value : Denoted)
      → is_extended facts.names facts.program class (ancestry facts.parents entry) ≡ true → class_field facts constant name class ≡ Some value
      → class_field facts constant name (meanings.Entry entry) ≡ Some value
  along zero entry line class constant name value extended is = absurd line
  along (suc levels) entry (stands_top one up line items) class constant name value extended is =
      let never : false ≡ true = sym (ap (is_extended facts.names facts.program class) line ∙ ap (λ (m : Option Meaning). means class m || false) up) ∙ extended in
      absurd (cc)
  along (suc levels) entry (stands_over number few one up line items apart) class constant name value extended is =
      let first : (is_same_meaning class (meanings.BuiltIn number) || false) ≡ true =
      sym (ap (is_extended facts.names facts.program class) line ∙ ap (λ (m : Option Meaning). means class m || false) up) ∙ extended in
      let same = same_meanings class (meanings.BuiltIn number) (by (is_same_meaning class (meanings.BuiltIn number)) first) in
      over_builtin entry number constant name value up line apart (subst (λ (c : Meaning). class_field facts constant name c ≡ Some value) same is)
    where
      by : (b : Bool) → (b || false) ≡ true → b ≡ true
      by true so = refl
      by false so = so
  along (suc levels) entry (stands_under other one over up line items apart above_it) class constant name value extended is =
      let first : (is_same_meaning class (meanings.Entry other) || is_extended facts.names facts.program class (ancestry facts.parents other)) ≡ true =
      sym (ap (is_extended facts.names facts.program class) line
      ∙ ap (λ (m : Option Meaning). means class m || is_extended facts.names facts.program class (ancestry facts.parents other)) up) ∙ extended in
      over_class levels entry other constant name value up line apart above_it
      (elim (or_cases (is_same_meaning class (meanings.Entry other)) (is_extended facts.names facts.program class (ancestry facts.parents other)) first) [
        | inl same ↦ subst (λ (c : Meaning). class_field facts constant name c ≡ Some value) (same_meanings class (meanings.Entry other) same) is
        | inr further ↦ along levels other above_it class constant name value further is
      ])

  no_fields : (constant : Bool) (name : List ℕ) (class : Meaning) (value : Denoted) → is_every class ≡ true → class_field facts constant name class ≡ Some value → ⊥
  no_fields constant name class value every is =
      let same = same_meanings class (meanings.BuiltIn 0) every in
      none-some value (subst (λ (c : Meaning). class_field facts constant name c ≡ Some value) same is)

  -- and of each class that it is under, or is
  pub same_field : (class own : Meaning) → ((entry : ℕ) → own ≡ meanings.Entry entry → (levels : ℕ) × Lined facts levels entry)
      → (constant : Bool) (name : List ℕ) (value : Denoted) → is_of_class facts class own ≡ true → class_field facts constant name class ≡ Some value
      → class_field facts constant name own ≡ Some value
  same_field class (meanings.BuiltIn number) line constant name value under is =
      elim (or_cases (is_every class) (is_same_meaning class (meanings.BuiltIn number)) under) [
        | inl every ↦ absurd (no_fields constant name class value every is)
        | inr same ↦
            subst (λ (c : Meaning). class_field facts constant name c ≡ Some value) (same_meanings class (meanings.BuiltIn number) same) is
      ]
  same_field class (meanings.Entry entry) line constant name value under is =
      let extended = is_extended facts.names facts.program class (ancestry facts.parents entry) in
      elim (or_cases (is_every class) (is_same_meaning class (meanings.Entry entry) || extended) under) [
        | inl every ↦ absurd (no_fields constant name class value every is)
        | inr other ↦
            (elim (or_cases (is_same_meaning class (meanings.Entry entry)) extended other) [
              | inl same ↦
                  subst (λ (c : Meaning). class_field facts constant name c ≡ Some value) (same_meanings class (meanings.Entry entry) same) is
              | inr further ↦
                  (let found = line entry refl in along found.0 entry found.1 class constant name value further is)
            ])
      ]

-- ---- what a field means is known

module _ (facts : Facts) (are : AreFacts (scope_names facts.program) facts.program facts) (fine : all_faults facts ≡ [])
    (right : All (IsRightDecl facts) facts.program) where
  abbrev HasKind : Typed → Type 0
  HasKind typed = (kind : TypeKind) × (base_kind facts.names facts.known typed.declared.base ≡ Some kind)

  member_kind : (number : ℕ) (member : Member) (typed : Typed) → IsRightAt facts number member → member_field member ≡ Some typed → HasKind typed
  member_kind number (members.Field one) typed is found =
      subst HasKind (same_Some one typed found)
      (let means_it = type_means facts are fine right number one.declared is.1 in
      let told = meant facts one.declared means_it.0 means_it.1 in
      (told.kind, told.is_kind))
  member_kind number (members.Predicate at name parts) typed is found = absurd (none-some typed found)
  member_kind number (members.Constructor name formals sets) typed is found = absurd (none-some typed found)

  own_kind : (entry : ℕ) (name : List ℕ) (typed : Typed) → own_field facts entry name ≡ Some typed → HasKind typed
  own_kind entry name typed found =
      let some = members_of facts.names facts.program entry in
      let is = members_right facts right entry in
      found_so HasKind (filter_map member_field some) name typed
      (recursion_from_All HasKind (filter_map member_field some)
      (all_kept HasKind member_field some
      (All-weaker (IsRightAt facts is.number) (λ member. (typed : Typed) → member_field member ≡ Some typed → HasKind typed)
      (λ member one typed there. member_kind is.number member typed one there) some is.each))) found

  -- the value of a field is one of some kind, as constant as what it is read of
  abbrev IsSomeValue : Bool → Denoted → Type 0
  IsSomeValue constant value = (kind : TypeKind) × (value ≡ denoted.Value kind constant)

  number_value : (constant b : Bool) (value : Denoted) → number_field constant b ≡ Some value → IsSomeValue constant value
  number_value constant true value is = (kinds.Int, sym (same_Some (denoted.Value kinds.Int constant) value is))
  number_value constant false value is = absurd (none-some value is)

  typed_value : (constant : Bool) (typed : Typed) (value : Denoted) → HasKind typed → value_of facts constant typed ≡ Some value → IsSomeValue constant value
  typed_value constant typed value has is = (
    has.0,
    sym (same_Some (type_value facts.names facts.known constant typed.declared) value is)
        ∙ ap (λ (o : Option TypeKind). option_map_or (λ (kind : TypeKind). denoted.Value kind constant) o denoted.Faulty) has.1,
  )

  entry_value : (levels entry : ℕ) → Lined facts levels entry → (constant : Bool) (name : List ℕ) (value : Denoted)
      → class_field facts constant name (meanings.Entry entry) ≡ Some value → IsSomeValue constant value
  entry_value zero entry line constant name value is = absurd line
  entry_value (suc levels) entry (stands_top one up line items) constant name value is =
      by (own_field facts entry name) refl (sym (field_is facts constant name entry None [] up line) ∙ is)
    where
      by : (o : Option Typed) → own_field facts entry name ≡ o → field_with facts constant name o None [] ≡ Some value → IsSomeValue constant value
      by None at found = absurd (none-some value found)
      by (Some typed) at found = typed_value constant typed value (own_kind entry name typed at) found
  entry_value (suc levels) entry (stands_over number few one up line items apart) constant name value is =
      by (own_field facts entry name) refl (sym (field_is facts constant name entry (Some (meanings.BuiltIn number)) [] up line) ∙ is)
    where
      by : (o : Option Typed) → own_field facts entry name ≡ o → field_with facts constant name o (Some (meanings.BuiltIn number)) [] ≡ Some value
          → IsSomeValue constant value
      by None at found = number_value constant (is_builtin_field name number || false) value found
      by (Some typed) at found = typed_value constant typed value (own_kind entry name typed at) found
  entry_value (suc levels) entry (stands_under other one over up line items apart above_it) constant name value is =
      by (own_field facts entry name) refl
      (sym (field_is facts constant name entry (Some (meanings.Entry other)) (ancestry facts.parents other) up line) ∙ is)
      (entry_value levels other above_it constant name value)
    where
      by : (o : Option Typed) → own_field facts entry name ≡ o
          → field_with facts constant name o (Some (meanings.Entry other)) (ancestry facts.parents other) ≡ Some value
          → (class_field facts constant name (meanings.Entry other) ≡ Some value → IsSomeValue constant value) → IsSomeValue constant value
      by None at found rest = rest found
      by (Some typed) at found rest = typed_value constant typed value (own_kind entry name typed at) found

  pub field_value : (class : Meaning) → ((entry : ℕ) → class ≡ meanings.Entry entry → (levels : ℕ) × Lined facts levels entry)
      → (constant : Bool) (name : List ℕ) (value : Denoted) → class_field facts constant name class ≡ Some value → IsSomeValue constant value
  field_value (meanings.BuiltIn number) line constant name value is = number_value constant (is_builtin_field name number) value is
  field_value (meanings.Entry entry) line constant name value is =
      let found = line entry refl in entry_value found.0 entry found.1 constant name value is
