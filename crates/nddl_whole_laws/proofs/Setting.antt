-- Where nothing is wrong with an object, each field of its class is set to something.
use Rattle.std.proofs.Common.{◌≡◌, ℕ, zero, suc, ◌==◌, Bool, true, false, not, ◌||◌, ◌&&◌, List, [], ◌∷◌, refl, sym, ◌∙◌, subst}
use Rattle.std.specs.Prelude.{Option, Some, None, codes, if◌then◌else◌}
use Rattle.std.specs.List.{AllByRecursion, filter_map, list_all, list_any}
use Rattle.std.specs.Str.{bytes_eq}
use Rattle.std.proofs.lemmas.Option.{none-some}
use Rattle.eu_forest.specs.Ancestors.{ancestry}
use Rattle.nddl_ast.specs.declared.declaration.Member.{Member}
use Rattle.nddl_ast.specs.declared.declaration.Member.TheVariants as members
use Rattle.nddl_ast.specs.declared.declaration.Typed.{Typed}
use Rattle.nddl_ast.specs.declared.kind.TextKind.TheVariants as faults
use Rattle.nddl_symbols.specs.declared.place.Place.{Place}
use Rattle.nddl_symbols.specs.declared.scope.Meaning.{Meaning}
use Rattle.nddl_symbols.specs.declared.scope.Meaning.TheVariants as meanings
use Rattle.nddl_symbols.specs.Finding.{faults_here}
use Rattle.nddl_symbols.specs.Scope.{fault_if}
use Rattle.nddl_hierarchy.specs.Decls.{members_of}
use Rattle.nddl_hierarchy.specs.Facts.{Facts}
use Rattle.nddl_hierarchy.specs.Members.{member_field, named_typed}
use Rattle.nddl_types.specs.Classes.{whole_field}
use Rattle.nddl_resolve.specs.declared.denoted.Denoted.{Denoted}
use Rattle.nddl_resolve.specs.Fields.{class_field, is_builtin_field, number_field}
use Rattle.nddl_construction.specs.declared.made.FieldValue.{FieldValue}
use Rattle.nddl_construction.specs.Classes.{line_up}
use Rattle.nddl_construction.specs.Fields.{field_datum, is_set, is_set_once}
use Rattle.nddl_objects.specs.Finished.{are_all_set, are_builtin_set, finished_faults, is_class_out, is_class_set, is_member_set}
use Rattle.nddl_laws.proofs.Nothing.{none_first, none_second}
use Rattle.nddl_laws.proofs.Values.{no_fault, not_so}
use Rattle.nddl_model_laws.proofs.Fielded.{field_is, field_with, own_field, same_word}
use Rattle.nddl_model_laws.proofs.Lined.{Lined, stands_over, stands_top, stands_under}
use Rattle.nddl_model_laws.proofs.Passing.{next_over, next_top, next_under}
use Rattle.nddl_whole_laws.proofs.Each.{both_true}
use Rattle.nddl_whole_laws.proofs.Leading.{Has}

-- the field is set to something
abbrev pub HasValue : FieldValue → Type 0
HasValue field = Has field.value

-- ---- fields that are set

once_set : (name : List ℕ) (fields : List FieldValue) → is_set_once name fields ≡ true → is_set name fields ≡ true
once_set name [] is = absurd (let e : false ≡ true = is in cc)
once_set name (field ∷ more) is = by (bytes_eq name field.name) is (λ rest. once_set name more rest)
  where
    by : (b : Bool) → (if b then not (is_set name more) else is_set_once name more) ≡ true → (is_set_once name more ≡ true → is_set name more ≡ true)
        → (b || is_set name more) ≡ true
    by true is rest = refl
    by false is rest = rest is

pub set_there : (name : List ℕ) (fields : List FieldValue) → AllByRecursion HasValue fields → is_set name fields ≡ true → Has (field_datum name fields)
set_there name [] all is = absurd (let e : false ≡ true = is in cc)
set_there name (field ∷ more) all is = by (bytes_eq name field.name) is (λ rest. set_there name more all.1 rest)
  where
    by : (b : Bool) → (b || is_set name more) ≡ true → (is_set name more ≡ true → Has (field_datum name more))
        → Has (if b then field.value else field_datum name more)
    by true is rest = all.0
    by false is rest = rest is

module _ (fields : List FieldValue) where
  -- ---- along a line

  set_in_members : (some : List Member) (name : List ℕ) (typed : Typed) → named_typed name (filter_map member_field some) ≡ Some typed
      → list_all (is_member_set fields) some ≡ true → is_set name fields ≡ true
  set_in_members [] name typed found all = absurd (none-some typed found)
  set_in_members (members.Predicate at own parts ∷ more) name typed found all = set_in_members more name typed found all
  set_in_members (members.Constructor own formals sets ∷ more) name typed found all = set_in_members more name typed found all
  set_in_members (members.Field one ∷ more) name typed found all =
      let both = both_true (is_set_once one.name.text fields) (list_all (is_member_set fields) more) all in
      by both.0 (bytes_eq name one.name.text) refl found (λ there. set_in_members more name typed there both.1)
    where
      by : is_set_once one.name.text fields ≡ true → (b : Bool) → bytes_eq name one.name.text ≡ b
          → (if b then Some one else named_typed name (filter_map member_field more)) ≡ Some typed
          → (named_typed name (filter_map member_field more) ≡ Some typed → is_set name fields ≡ true) → is_set name fields ≡ true
      by once true same told rest =
          let e = same_word name one.name.text same in
          subst (λ (word : List ℕ). is_set word fields ≡ true) (sym e) (once_set one.name.text fields once)
      by once false same told rest = rest told

  set_as : (name word : List ℕ) → bytes_eq name word ≡ true → is_set_once word fields ≡ true → is_set name fields ≡ true
  set_as name word same once =
      subst (λ (w : List ℕ). is_set w fields ≡ true) (sym (same_word name word same)) (once_set word fields once)

  set_in_builtin : (number : ℕ) (name : List ℕ) → is_builtin_field name number ≡ true → are_builtin_set fields number ≡ true → is_set name fields ≡ true
  set_in_builtin number name = by (number == 2) (number == 3)
    where
      one : (word : List ℕ) (b : Bool) → bytes_eq name word ≡ b → (b || false) ≡ true → is_set_once word fields ≡ true → is_set name fields ≡ true
      one word true same is once = set_as name word same once
      one word false same is once = absurd (let e : false ≡ true = is in cc)

      two_words : (first second : List ℕ) (b : Bool) → bytes_eq name first ≡ b → (b || (bytes_eq name second || false)) ≡ true
          → (is_set_once first fields ≡ true) × (is_set_once second fields ≡ true) → is_set name fields ≡ true
      two_words first second true same is once = set_as name first same once.0
      two_words first second false same is once = one second (bytes_eq name second) refl is once.1

      three_words : (first second third : List ℕ) (b : Bool) → bytes_eq name first ≡ b → (b || (bytes_eq name second || (bytes_eq name third || false))) ≡ true
          → is_set_once first fields ≡ true → (is_set_once second fields ≡ true) × (is_set_once third fields ≡ true) → is_set name fields ≡ true
      three_words first second third true same is once others = set_as name first same once
      three_words first second third false same is once others = two_words second third (bytes_eq name second) refl is others

      by : (two three : Bool)
          → list_any (λ field. bytes_eq name field.name)
          (if two then whole_field (codes "capacity") ∷ []
          else (if three then whole_field (codes "initial") ∷ whole_field (codes "low") ∷ whole_field (codes "high") ∷ [] else [])) ≡ true
          → (if two then is_set_once (codes "capacity") fields
          else (if three
          then is_set_once (codes "initial") fields && (is_set_once (codes "low") fields && is_set_once (codes "high") fields)
          else true)) ≡ true
          → is_set name fields ≡ true
      by true three is set = one (codes "capacity") (bytes_eq name (codes "capacity")) refl is set
      by false true is set =
          let first = both_true (is_set_once (codes "initial") fields) (is_set_once (codes "low") fields && is_set_once (codes "high") fields) set in
          let rest = both_true (is_set_once (codes "low") fields) (is_set_once (codes "high") fields) first.1 in
          three_words (codes "initial") (codes "low") (codes "high") (bytes_eq name (codes "initial")) refl is first.0 rest
      by false false is set = absurd (let e : false ≡ true = is in cc)

  module _ (facts : Facts) where
    abbrev AreSet : List Meaning → Type 0
    AreSet line = list_all (is_class_set facts fields) line ≡ true

    number_set : (number : ℕ) (name : List ℕ) (value : Denoted) → number_field true (is_builtin_field name number) ≡ Some value
        → AreSet (line_up facts (meanings.BuiltIn number)) → is_set name fields ≡ true
    number_set number name value is all = by (is_builtin_field name number) refl is
      where
        by : (b : Bool) → is_builtin_field name number ≡ b → number_field true b ≡ Some value → is_set name fields ≡ true
        by true has told = set_in_builtin number name has (both_true (are_builtin_set fields number) true all).0
        by false has told = absurd (none-some value told)

    line_set : (levels entry : ℕ) → Lined facts levels entry → (name : List ℕ) (value : Denoted) → class_field facts true name (meanings.Entry entry) ≡ Some value
        → AreSet (line_up facts (meanings.Entry entry)) → is_set name fields ≡ true
    line_set zero entry line name value is all = absurd line
    line_set (suc levels) entry (stands_top one up line items) name value is all =
        let next = next_top facts entry up line in
        let both = both_true (is_class_set facts fields (meanings.Entry entry)) (list_all (is_class_set facts fields) (line_up facts (meanings.BuiltIn 0)))
        (subst AreSet next.line all) in
        by both.0 (own_field facts entry name) refl (sym (field_is facts true name entry None [] up line) ∙ is)
      where
        by : is_class_set facts fields (meanings.Entry entry) ≡ true → (o : Option Typed) → own_field facts entry name ≡ o
            → field_with facts true name o None [] ≡ Some value → is_set name fields ≡ true
        by set None at told = absurd (none-some value told)
        by set (Some typed) at told = set_in_members (members_of facts.names facts.program entry) name typed at set
    line_set (suc levels) entry (stands_over number few one up line items apart) name value is all =
        let next = next_over facts entry number up line in
        let both = both_true (is_class_set facts fields (meanings.Entry entry)) (list_all (is_class_set facts fields) (line_up facts (meanings.BuiltIn number)))
        (subst AreSet next.line all) in
        by both.0 both.1 (own_field facts entry name) refl (sym (field_is facts true name entry (Some (meanings.BuiltIn number)) [] up line) ∙ is)
      where
        plain : (b : Bool) → number_field true (b || false) ≡ Some value → number_field true b ≡ Some value
        plain true told = told
        plain false told = told

        by : is_class_set facts fields (meanings.Entry entry) ≡ true → AreSet (line_up facts (meanings.BuiltIn number)) → (o : Option Typed) → own_field facts entry name ≡ o
            → field_with facts true name o (Some (meanings.BuiltIn number)) [] ≡ Some value → is_set name fields ≡ true
        by set rest None at told = number_set number name value (plain (is_builtin_field name number) told) rest
        by set rest (Some typed) at told = set_in_members (members_of facts.names facts.program entry) name typed at set
    line_set (suc levels) entry (stands_under other one over up line items apart above_it) name value is all =
        let next = next_under facts entry other up line in
        let both = both_true (is_class_set facts fields (meanings.Entry entry)) (list_all (is_class_set facts fields) (line_up facts (meanings.Entry other)))
        (subst AreSet next.line all) in
        by both.0 (own_field facts entry name) refl
        (sym (field_is facts true name entry (Some (meanings.Entry other)) (ancestry facts.parents other) up line) ∙ is)
        (λ found. line_set levels other above_it name value found both.1)
      where
        by : is_class_set facts fields (meanings.Entry entry) ≡ true → (o : Option Typed) → own_field facts entry name ≡ o
            → field_with facts true name o (Some (meanings.Entry other)) (ancestry facts.parents other) ≡ Some value
            → (class_field facts true name (meanings.Entry other) ≡ Some value → is_set name fields ≡ true) → is_set name fields ≡ true
        by set None at told rest = rest told
        by set (Some typed) at told rest = set_in_members (members_of facts.names facts.program entry) name typed at set

    -- each field of a class is set
    pub class_set : (class : Meaning) → ((entry : ℕ) → class ≡ meanings.Entry entry → (levels : ℕ) × Lined facts levels entry) → (name : List ℕ) (value : Denoted)
        → class_field facts true name class ≡ Some value → are_all_set facts fields (line_up facts class) ≡ true → is_set name fields ≡ true
    class_set (meanings.BuiltIn number) line name value is all = number_set number name value is all
    class_set (meanings.Entry entry) line name value is all =
        let found = line entry refl in line_set found.0 entry found.1 name value is all

  -- ---- what is told

  pub all_set : (facts : Facts) (place : Place) (line : List Meaning) → finished_faults facts place line fields ≡ [] → are_all_set facts fields line ≡ true
  all_set facts place line none =
      let wrong = faults_here place.decl place.at (fault_if (not (are_all_set facts fields line)) faults.WrongCount) in
      let rest = faults_here place.decl place.at (fault_if (list_any (is_class_out fields) line) faults.NotInDomain) in
      by (are_all_set facts fields line)
      (not_so (not (are_all_set facts fields line)) faults.WrongCount
      (no_fault place.decl place.at (fault_if (not (are_all_set facts fields line)) faults.WrongCount) (none_first wrong rest none)))
    where
      by : (b : Bool) → not b ≡ false → b ≡ true
      by true is = refl
      by false is = absurd (let e : true ≡ false = is in cc)

  pub none_out : (facts : Facts) (place : Place) (line : List Meaning) → finished_faults facts place line fields ≡ [] → list_any (is_class_out fields) line ≡ false
  none_out facts place line none =
      let wrong = faults_here place.decl place.at (fault_if (not (are_all_set facts fields line)) faults.WrongCount) in
      let rest = faults_here place.decl place.at (fault_if (list_any (is_class_out fields) line) faults.NotInDomain) in
      not_so (list_any (is_class_out fields) line) faults.NotInDomain
      (no_fault place.decl place.at (fault_if (list_any (is_class_out fields) line) faults.NotInDomain) (none_second wrong rest none))
