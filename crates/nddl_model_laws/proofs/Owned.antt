-- The fields of a class of a table are those that are found by their names, and of the same kinds.
use Rattle.std.proofs.Common.{◌≡◌, ◌≢◌, ℕ, zero, suc, ◌==◌, Bool, true, false, List, [], ◌∷◌, ◌++◌, map, refl, sym, ◌∙◌, ap, subst}
use Rattle.std.specs.Prelude.{Option, Some, None, All, codes, if◌then◌else◌}
use Rattle.std.specs.List.{AllByRecursion, filter_map}
use Rattle.std.specs.Option.{option_map, option_map_or}
use Rattle.std.specs.Str.{bytes_eq}
use Rattle.std.proofs.lemmas.Bool.Decides.{Decides-eqb}
use Rattle.std.proofs.lemmas.List.Elements.{All-nil, All-cons, All-append, All-from_recursion, All-weaker}
use Rattle.std.proofs.lemmas.Option.{same_Some, none-some}
use Rattle.std.proofs.lemmas.Slice.Eq.{bytes_eq-Decides}
use Rattle.eu_forest.specs.Ancestors.{ancestry}
use Rattle.model_core.specs.declared.class.Enum.{Enum}
use Rattle.model_core.specs.declared.variable.VarDecl.{VarDecl}
use Rattle.nddl_ast.specs.declared.declaration.Member.{Member}
use Rattle.nddl_ast.specs.declared.declaration.Member.TheVariants as members
use Rattle.nddl_ast.specs.declared.declaration.Typed.{Typed}
use Rattle.nddl_symbols.specs.declared.scope.Meaning.{Meaning}
use Rattle.nddl_symbols.specs.declared.scope.Meaning.TheVariants as meanings
use Rattle.nddl_symbols.specs.Names.{scope_names}
use Rattle.nddl_typeexpr.specs.declared.kind.TypeKind.{TypeKind}
use Rattle.nddl_typeexpr.specs.declared.kind.TypeKind.TheVariants as kinds
use Rattle.nddl_typeexpr.specs.declared.kind.TypeMeaning.{TypeMeaning}
use Rattle.nddl_hierarchy.specs.Ancestors.{above}
use Rattle.nddl_hierarchy.specs.Decls.{members_of}
use Rattle.nddl_hierarchy.specs.Facts.{Facts}
use Rattle.nddl_hierarchy.specs.Members.{member_field, named_typed}
use Rattle.nddl_declarations.specs.Declares.{declared_variable, variable_with}
use Rattle.nddl_declarations.specs.Domains.{value_kind}
use Rattle.nddl_declarations.specs.Known.{AreFacts, fine_meaning}
use Rattle.nddl_declarations.specs.Faults.{all_faults}
use Rattle.nddl_types.specs.Classes.{builtin_fields, class_fields, declared_fields, fields_at, given_fields, line_down, whole_field}
use Rattle.nddl_resolve.specs.declared.denoted.Denoted.TheVariants as denoted
use Rattle.nddl_resolve.specs.Fields.{class_field, is_builtin_field, number_field}
use Rattle.nddl_laws.proofs.Apart.{AreApart, AreOnce, Item, all_reverse, field_name, fields_once}
use Rattle.nddl_laws.proofs.Declared.{IsRightDecl}
use Rattle.nddl_laws.proofs.Items.{builtin_items, class_items, items_apart, member_item}
use Rattle.nddl_laws.proofs.Known.{meant}
use Rattle.nddl_laws.proofs.Lists.{all_flat, all_kept}
use Rattle.nddl_laws.proofs.Standing.{IsClassEntry}
use Rattle.nddl_model_laws.proofs.Fielded.{field_is, field_with, over_builtin, over_class, own_field, same_word}
use Rattle.nddl_model_laws.proofs.Lined.{Lined, own_items, stands_over, stands_top, stands_under}

-- the class has a field of the variable's name and kind
abbrev pub HasKindOf : Facts → Meaning → VarDecl → Type 0
HasKindOf facts class variable =
    (kind : TypeKind) × (class_field facts true variable.name class ≡ Some (denoted.Value kind true)) × (variable.kind ≡ value_kind kind)

-- ---- built-in classes

pub builtin_has : (facts : Facts) (number : ℕ) → All (HasKindOf facts (meanings.BuiltIn number)) (builtin_fields number)
builtin_has facts number = by (number == 2) refl (number == 3) refl
  where
    one : (word : List ℕ) → is_builtin_field word number ≡ true → HasKindOf facts (meanings.BuiltIn number) (whole_field word)
    one word has = (kinds.Int, ap (number_field true) has, refl)

    by : (two : Bool) → (number == 2) ≡ two → (three : Bool) → (number == 3) ≡ three
        → All (HasKindOf facts (meanings.BuiltIn number))
        (if two then whole_field (codes "capacity") ∷ []
        else (if three then whole_field (codes "initial") ∷ whole_field (codes "low") ∷ whole_field (codes "high") ∷ [] else []))
    by true is three other =
        let e : number ≡ 2 = (Decides-eqb number 2).0 is in
        let has : is_builtin_field (codes "capacity") number ≡ true = subst (λ (n : ℕ). is_builtin_field (codes "capacity") n ≡ true) (sym e) refl in
        All-cons (HasKindOf facts (meanings.BuiltIn number)) (whole_field (codes "capacity")) [] (one (codes "capacity") has)
        (All-nil (HasKindOf facts (meanings.BuiltIn number)))
    by false other true is =
        let e : number ≡ 3 = (Decides-eqb number 3).0 is in
        let has_initial : is_builtin_field (codes "initial") number ≡ true = subst (λ (n : ℕ). is_builtin_field (codes "initial") n ≡ true) (sym e) refl in
        let has_low : is_builtin_field (codes "low") number ≡ true = subst (λ (n : ℕ). is_builtin_field (codes "low") n ≡ true) (sym e) refl in
        let has_high : is_builtin_field (codes "high") number ≡ true = subst (λ (n : ℕ). is_builtin_field (codes "high") n ≡ true) (sym e) refl in
        All-cons (HasKindOf facts (meanings.BuiltIn number)) (whole_field (codes "initial")) (whole_field (codes "low") ∷ whole_field (codes "high") ∷ [])
        (one (codes "initial") has_initial)
        (All-cons (HasKindOf facts (meanings.BuiltIn number)) (whole_field (codes "low")) (whole_field (codes "high") ∷ []) (one (codes "low") has_low)
        (All-cons (HasKindOf facts (meanings.BuiltIn number)) (whole_field (codes "high")) [] (one (codes "high") has_high)
        (All-nil (HasKindOf facts (meanings.BuiltIn number)))))
    by false one_not false other_not = All-nil (HasKindOf facts (meanings.BuiltIn number))

-- ---- members

field_texts : (some : List Member) → map (λ (typed : Typed). typed.name.text) (filter_map member_field some) ≡ filter_map field_name (filter_map member_item some)
field_texts [] = refl
field_texts (members.Field typed ∷ more) = ap (λ (rest : List (List ℕ)). typed.name.text ∷ rest) (field_texts more)
field_texts (members.Predicate at name parts ∷ more) = field_texts more
field_texts (members.Constructor name formals sets ∷ more) = field_texts more

apart_second : (xs ys : List Item) → AreApart (xs ++ ys) → AreApart ys
apart_second [] ys apart = apart
apart_second (x ∷ xs) ys apart = apart_second xs ys apart.1

-- each of a list of different names is found by its name
found_own : (some : List Typed) → AreOnce (map (λ (typed : Typed). typed.name.text) some)
    → AllByRecursion (λ (typed : Typed). named_typed typed.name.text some ≡ Some typed) some
found_own [] once = tt
found_own (first ∷ more) once = (
  ap (λ (b : Bool). if b then Some first else named_typed first.name.text more) ((bytes_eq-Decides first.name.text first.name.text).1 refl),
  later more once.0 (found_own more once.1),
)
  where
    not_first : (typed : Typed) → first.name.text ≢ typed.name.text → bytes_eq typed.name.text first.name.text ≡ false
    not_first typed differ = by (bytes_eq typed.name.text first.name.text) refl
      where
        by : (b : Bool) → bytes_eq typed.name.text first.name.text ≡ b → bytes_eq typed.name.text first.name.text ≡ false
        by true same = absurd (differ (sym (same_word typed.name.text first.name.text same)))
        by false same = same

    later : (rest : List Typed) → AllByRecursion (λ (other : List ℕ). first.name.text ≢ other) (map (λ (typed : Typed). typed.name.text) rest)
        → AllByRecursion (λ (typed : Typed). named_typed typed.name.text more ≡ Some typed) rest
        → AllByRecursion (λ (typed : Typed). named_typed typed.name.text (first ∷ more) ≡ Some typed) rest
    later [] differ found = tt
    later (typed ∷ rest) differ found = (
      ap (λ (b : Bool). if b then Some first else named_typed typed.name.text more) (not_first typed differ.0) ∙ found.0,
      later rest differ.1 found.1,
    )

module _ (facts : Facts) (are : AreFacts (scope_names facts.program) facts.program facts) (fine : all_faults facts ≡ [])
    (right : All (IsRightDecl facts) facts.program) (enums : List Enum) where
  own_apart : (entry : ℕ) → IsClassEntry facts.names entry → (before : List Item) → class_items facts entry ≡ before ++ own_items facts entry
      → AreApart (own_items facts entry)
  own_apart entry is before items =
      apart_second before (own_items facts entry) (subst AreApart items (items_apart facts are fine right entry is))

  -- what a class declares itself
  declared_has : (entry : ℕ) (up : Option Meaning) (line : List ℕ) → above facts.names facts.program entry ≡ up → ancestry facts.parents entry ≡ entry ∷ line
      → AreApart (own_items facts entry)
      → All (HasKindOf facts (meanings.Entry entry)) (declared_fields facts enums (members_of facts.names facts.program entry))
  declared_has entry up line extends is apart =
      let some = filter_map member_field (members_of facts.names facts.program entry) in
      let once : AreOnce (map (λ (typed : Typed). typed.name.text) some) =
      subst AreOnce (sym (field_texts (members_of facts.names facts.program entry))) (fields_once (own_items facts entry) apart) in
      all_kept (HasKindOf facts (meanings.Entry entry)) (declared_variable facts enums) some
      (All-weaker (λ (typed : Typed). named_typed typed.name.text some ≡ Some typed)
      (λ (typed : Typed). (variable : VarDecl) → declared_variable facts enums typed ≡ Some variable → HasKindOf facts (meanings.Entry entry) variable)
      (λ typed found variable told. one typed found variable told) some
      (All-from_recursion (λ (typed : Typed). named_typed typed.name.text some ≡ Some typed) some (found_own some once)))
    where
      one : (typed : Typed) → own_field facts entry typed.name.text ≡ Some typed → (variable : VarDecl) → declared_variable facts enums typed ≡ Some variable
          → HasKindOf facts (meanings.Entry entry) variable
      one typed found variable told = by (fine_meaning facts typed.declared) refl told
        where
          by : (o : Option TypeMeaning) → fine_meaning facts typed.declared ≡ o → option_map (variable_with facts enums typed) o ≡ Some variable
              → HasKindOf facts (meanings.Entry entry) variable
          by None at given = absurd (none-some variable given)
          by (Some meaning) at given =
              let it = meant facts typed.declared meaning at in
              let field : class_field facts true typed.name.text (meanings.Entry entry) ≡ Some (denoted.Value it.kind true) =
              field_is facts true typed.name.text entry up line extends is
              ∙ (ap (λ (o : Option Typed). field_with facts true typed.name.text o up line) found
              ∙ ap (λ (o : Option TypeKind). Some (option_map_or (λ (kind : TypeKind). denoted.Value kind true) o denoted.Faulty)) it.is_kind) in
              subst (HasKindOf facts (meanings.Entry entry)) (same_Some (variable_with facts enums typed meaning) variable given)
              (it.kind, field, ap (λ (m : TypeMeaning). value_kind m.kind) it.is_meaning)

  -- what stands in the classes of a line
  line_has : (levels entry : ℕ) → Lined facts levels entry
      → All (λ (k : ℕ). All (HasKindOf facts (meanings.Entry entry)) (fields_at facts enums k)) (ancestry facts.parents entry)
  line_has zero entry line = absurd line
  line_has (suc levels) entry (stands_top one up line items) =
      let own = declared_has entry None [] up line (own_apart entry one [] items) in
      let P : ℕ → Type 0 = λ k. All (HasKindOf facts (meanings.Entry entry)) (fields_at facts enums k) in
      let D = declared_fields facts enums (members_of facts.names facts.program entry) in
      subst (All P) (sym line)
      (All-cons P entry []
      (subst (λ (m : Option Meaning). All (HasKindOf facts (meanings.Entry entry)) (given_fields m ++ D)) (sym up) own) (All-nil P))
  line_has (suc levels) entry (stands_over number few one up line items apart) =
      let own = declared_has entry (Some (meanings.BuiltIn number)) [] up line (own_apart entry one (builtin_items number) items) in
      let P : ℕ → Type 0 = λ k. All (HasKindOf facts (meanings.Entry entry)) (fields_at facts enums k) in
      let D = declared_fields facts enums (members_of facts.names facts.program entry) in
      let given = All-weaker (HasKindOf facts (meanings.BuiltIn number)) (HasKindOf facts (meanings.Entry entry))
      (λ variable has. (has.0, over_builtin facts entry number true variable.name (denoted.Value has.0 true) up line apart has.1, has.2))
      (builtin_fields number) (builtin_has facts number) in
      subst (All P) (sym line)
      (All-cons P entry []
      (subst (λ (m : Option Meaning). All (HasKindOf facts (meanings.Entry entry)) (given_fields m ++ D)) (sym up)
      (All-append (HasKindOf facts (meanings.Entry entry)) (builtin_fields number) D given own)) (All-nil P))
  line_has (suc levels) entry (stands_under other one class up line items apart above_it) =
      let own = declared_has entry (Some (meanings.Entry other)) (ancestry facts.parents other) up line (own_apart entry one (class_items facts other) items) in
      let P : ℕ → Type 0 = λ k. All (HasKindOf facts (meanings.Entry entry)) (fields_at facts enums k) in
      let D = declared_fields facts enums (members_of facts.names facts.program entry) in
      let rest = All-weaker (λ (k : ℕ). All (HasKindOf facts (meanings.Entry other)) (fields_at facts enums k)) P
      (λ k all. All-weaker (HasKindOf facts (meanings.Entry other)) (HasKindOf facts (meanings.Entry entry))
      (λ variable has. (has.0, over_class facts levels entry other true variable.name (denoted.Value has.0 true) up line apart above_it has.1, has.2))
      (fields_at facts enums k) all) (ancestry facts.parents other) (line_has levels other above_it) in
      subst (All P) (sym line)
      (All-cons P entry (ancestry facts.parents other)
      (subst (λ (m : Option Meaning). All (HasKindOf facts (meanings.Entry entry)) (given_fields m ++ D)) (sym up) own) rest)

  -- each field of a class
  pub class_has : (levels entry : ℕ) → Lined facts levels entry → All (HasKindOf facts (meanings.Entry entry)) (class_fields facts enums entry)
  class_has levels entry line =
      all_flat (HasKindOf facts (meanings.Entry entry)) (fields_at facts enums) (line_down facts entry)
      (all_reverse (λ (k : ℕ). All (HasKindOf facts (meanings.Entry entry)) (fields_at facts enums k)) (ancestry facts.parents entry) (line_has levels entry line))
