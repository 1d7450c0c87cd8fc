-- Where nothing is wrong each type means something, so no field and no parameter is left out.
use Rattle.std.proofs.Common.{◌≡◌, ℕ, zero, suc, ◌<◌, true, false, List, [], ◌∷◌, ◌++◌, length, map, refl, sym, ◌∙◌, ap, subst, arith}
use Rattle.std.specs.Prelude.{Option, Some, None, All, slice_get, if◌then◌else◌}
use Rattle.std.specs.List.{flat_map, cons_option}
use Rattle.std.specs.Option.{option_and_then, option_map, option_map_or}
use Rattle.std.proofs.lemmas.Option.{same_Some, none-some, slice_get_within}
use Rattle.std.proofs.lemmas.List.Elements.{All-head, All-tail}
use Rattle.eu_forest.specs.Lines.{StandsUnder, rootedness_in}
use Rattle.model_core.specs.declared.class.Enum.{Enum}
use Rattle.model_core.specs.Naming.{names_of}
use Rattle.model_core.proofs.Items.{item_all}
use Rattle.nddl_ast.specs.declared.declaration.Decl.{Decl}
use Rattle.nddl_ast.specs.declared.declaration.Decl.TheVariants as decls
use Rattle.nddl_ast.specs.declared.declaration.Member.{Member}
use Rattle.nddl_ast.specs.declared.declaration.Typed.{Typed}
use Rattle.nddl_ast.specs.declared.expression.BaseType.{BaseType}
use Rattle.nddl_ast.specs.declared.expression.BaseType.TheVariants as bases
use Rattle.nddl_ast.specs.declared.expression.Type as types
use Rattle.nddl_ast.specs.declared.kind.TextKind.TheVariants as faults
use Rattle.nddl_ast.specs.declared.name.Name.{Name}
use Rattle.nddl_symbols.specs.declared.declared.Declared.{Declared}
use Rattle.nddl_symbols.specs.declared.declared.Sort.{Sort}
use Rattle.nddl_symbols.specs.declared.declared.Sort.TheVariants as sorts
use Rattle.nddl_symbols.specs.declared.scope.Meaning.{Meaning}
use Rattle.nddl_symbols.specs.declared.scope.Meaning.TheVariants as meanings
use Rattle.nddl_symbols.specs.Finding.{faults_here}
use Rattle.nddl_symbols.specs.Names.{scope_names}
use Rattle.nddl_symbols.specs.Repeats.{repeated_faults}
use Rattle.nddl_symbols.specs.Scope.{meaning_of}
use Rattle.nddl_typeexpr.specs.declared.kind.TypeKind.{TypeKind}
use Rattle.nddl_typeexpr.specs.declared.kind.TypeKind.TheVariants as kinds
use Rattle.nddl_typeexpr.specs.declared.kind.TypeMeaning.{TypeMeaning}
use Rattle.nddl_typeexpr.specs.Bases.{base_extent, base_fault, base_kind, meaning_fault, meaning_kind, sort_fault, sort_kind, typedef_meaning}
use Rattle.nddl_typeexpr.specs.Bounds.{bounds_extent, bounds_faults, missing_faults}
use Rattle.nddl_typeexpr.specs.Types.{bounded_meaning, is_fine}
use Rattle.nddl_hierarchy.specs.Ancestors.{objects_faults}
use Rattle.nddl_hierarchy.specs.Decls.{decl_of_name, typedef_type}
use Rattle.nddl_hierarchy.specs.Facts.{Facts}
use Rattle.nddl_hierarchy.specs.Lines.{is_rooted, is_typedef_sort, parents_of}
use Rattle.nddl_declarations.specs.Known.{AreFacts, all_type_faults, declared_type, fine_meaning}
use Rattle.nddl_declarations.proofs.Depends.{named_by}
use Rattle.nddl_declarations.proofs.Settled.{typedef_under}
use Rattle.nddl_hierarchy.specs.Inherited.{inherited_noted, member_names}
use Rattle.nddl_declarations.specs.Classes.{parent_faults}
use Rattle.nddl_declarations.specs.Members.{constructors_faults, member_faults}
use Rattle.nddl_declarations.specs.Declares.{declared_variable, variable_with, variables_of}
use Rattle.nddl_declarations.specs.Faults.{all_faults, decl_faults}
use Rattle.nddl_laws.specs.Fine.{IsFineMember}
use Rattle.nddl_laws.proofs.Anywhere.{none_anywhere}
use Rattle.nddl_laws.proofs.Declared.{IsRightDecl}
use Rattle.nddl_laws.proofs.Lists.{none_flat}
use Rattle.nddl_laws.proofs.Places.{declared_in}
use Rattle.nddl_laws.proofs.Standing.{IsTypedefEntry, typedef_rooted}
use Rattle.nddl_laws.proofs.Values.{no_fault}
use Rattle.nddl_laws.proofs.Nothing.{none_first, none_second}
use Rattle.nddl_laws.proofs.Parents.{meant_first}

-- the type of a typedef with which nothing is wrong
typedef_none : (facts : Facts) (number : ℕ) (decl : Decl) (type : types.Type) → decl_faults facts number decl ≡ [] → typedef_type decl ≡ Some type
    → all_type_faults facts 0 type ≡ []
typedef_none facts number (decls.Typedef at declared name) type none is =
    let P : types.Type → Type 0 = λ t. all_type_faults facts number t ≡ [] in
    none_anywhere facts number type (subst P (same_Some declared type is) none)
typedef_none facts number decl type none is = absurd (none-some type is)

module _ (facts : Facts) (are : AreFacts (scope_names facts.program) facts.program facts) (fine : all_faults facts ≡ [])
    (right : All (IsRightDecl facts) facts.program) where
  abbrev Meaning_of : types.Type → Type 0
  Meaning_of type = (meaning : TypeMeaning) × (fine_meaning facts type ≡ Some meaning)

  abbrev Known_of : ℕ → Type 0
  Known_of entry = (meaning : TypeMeaning) × (typedef_meaning facts.known entry ≡ Some meaning)

  abbrev Kind_of : BaseType → Type 0
  Kind_of base = (kind : TypeKind) × (base_kind facts.names facts.known base ≡ Some kind)

  -- a base with which nothing is wrong has a kind
  sort_has_kind : (entry : ℕ) (declared : Declared) (sort : Sort) → slice_get facts.names entry ≡ Some declared → declared.sort ≡ sort
      → sort_fault sort ≡ None → (IsTypedefEntry facts are fine entry → Known_of entry)
      → (kind : TypeKind) × (sort_kind facts.known entry sort ≡ Some kind)
  sort_has_kind entry declared (sorts.Enum number) there sort none below = (kinds.Enum number, refl)
  sort_has_kind entry declared sorts.Forward there sort none below = (kinds.Object (meanings.Entry entry), refl)
  sort_has_kind entry declared sorts.Body there sort none below = (kinds.Object (meanings.Entry entry), refl)
  sort_has_kind entry declared sorts.Typedef there sort none below =
      let known = below (record { declared = declared; there = there; sort = sort }) in
      (known.0.kind, ap (option_map (λ (meaning : TypeMeaning). meaning.kind)) known.1)
  sort_has_kind entry declared (sorts.Member of place) there sort none below = absurd (none-some faults.WrongType (sym none))
  sort_has_kind entry declared sorts.Global there sort none below = absurd (none-some faults.WrongType (sym none))
  sort_has_kind entry declared sorts.Object there sort none below = absurd (none-some faults.WrongType (sym none))
  sort_has_kind entry declared sorts.Root there sort none below = absurd (none-some faults.WrongType (sym none))
  sort_has_kind entry declared sorts.Config there sort none below = absurd (none-some faults.WrongType (sym none))

  name_has_kind : (name : Name) (o : Option Meaning) → meaning_of facts.names name.text ≡ o → meaning_fault facts.names o ≡ None
      → ((entry : ℕ) → IsTypedefEntry facts are fine entry → o ≡ Some (meanings.Entry entry) → Known_of entry)
      → (kind : TypeKind) × (option_and_then (meaning_kind facts.names facts.known) o ≡ Some kind)
  name_has_kind name None means none below = absurd (none-some faults.Unknown (sym none))
  name_has_kind name (Some (meanings.BuiltIn number)) means none below = (kinds.Object (meanings.BuiltIn number), refl)
  name_has_kind name (Some (meanings.Entry entry)) means none below =
      let found = meant_first facts.names name.text entry means in
      let sort_none : sort_fault found.found.sort ≡ None =
      sym (ap (option_and_then (λ (declared : Declared). sort_fault declared.sort)) found.there) ∙ none in
      let kind = sort_has_kind entry found.found found.found.sort found.there refl sort_none (λ is. below entry is refl) in
      (kind.0, ap (option_and_then (λ (declared : Declared). sort_kind facts.known entry declared.sort)) found.there ∙ kind.1)

  base_has_kind : (base : BaseType) → base_fault facts.names base ≡ None
      → ((entry : ℕ) → IsTypedefEntry facts are fine entry → named_by facts.names base ≡ Some (meanings.Entry entry) → Known_of entry) → Kind_of base
  base_has_kind (bases.Named name) none below = name_has_kind name (meaning_of facts.names name.text) refl none below
  base_has_kind bases.Int none below = (kinds.Int, refl)
  base_has_kind bases.Bool none below = (kinds.Bool, refl)
  base_has_kind bases.Float none below = (kinds.Float, refl)
  base_has_kind bases.Str none below = absurd (none-some faults.WrongType (sym none))

  -- a type with which nothing is wrong means something, if the typedef does that its base names
  meaning_by : (type : types.Type) → all_type_faults facts 0 type ≡ []
      → ((entry : ℕ) → IsTypedefEntry facts are fine entry → named_by facts.names type.base ≡ Some (meanings.Entry entry) → Known_of entry) → Meaning_of type
  unfolding all_type_faults
  meaning_by type none below =
      let here = faults_here 0 type.at (base_fault facts.names type.base) in
      let kind = base_kind facts.names facts.known type.base in
      let extent = base_extent facts.names facts.known type.base in
      let rest =
      option_map_or (λ (kind : TypeKind). bounds_faults facts.names kind extent 0 type.bounds) kind (missing_faults facts.names 0 type.bounds) in
      let objects = objects_faults facts.names facts.program facts.parents 0 kind type.bounds in
      let own : here ++ rest ≡ [] = none_first (here ++ rest) objects none in
      let found = base_has_kind type.base (no_fault 0 type.at (base_fault facts.names type.base) (none_first here rest own)) below in
      let meaning : TypeMeaning = record { kind = found.0; extent = bounds_extent facts.names found.0 extent type.bounds } in
      let bounded : bounded_meaning facts.names facts.known type ≡ Some meaning =
      ap (option_map (λ (kind : TypeKind). record { kind = kind; extent = bounds_extent facts.names kind extent type.bounds })) found.1 in (
        meaning,
        (λ i. if is_fine (none i) then (if is_fine (own i) then bounded i else None) else None),
      )

  -- what a typedef is declared as
  record IsTyped (entry : ℕ) : Type 0 where
    type : types.Type
    declared : declared_type facts.names facts.program entry ≡ Some type
    none : all_type_faults facts 0 type ≡ []

  typed : (entry : ℕ) → IsTypedefEntry facts are fine entry → IsTyped entry
  typed entry is =
      let at = sym (ap (λ names. slice_get names entry) are.is_names) ∙ is.there in
      let stands = declared_in facts.program entry is.declared at in
      let of = stands.typed is.sort in
      let decl = item_all (IsRightDecl facts) facts.program is.declared.place.decl stands.decl right stands.there in
      record {
        type = of.0;
        declared = ap (option_and_then (λ (d : Declared). if is_typedef_sort d.sort then option_and_then typedef_type (decl_of_name facts.program d) else None)) is.there
            ∙ (ap (λ s. if is_typedef_sort s then option_and_then typedef_type (decl_of_name facts.program is.declared) else None) is.sort
            ∙ (ap (option_and_then typedef_type) stands.there ∙ of.1));
        none = typedef_none facts decl.number stands.decl of.0 decl.none of.1;
      }

  rooted_so : (entry : ℕ) → IsTypedefEntry facts are fine entry → is_rooted (rootedness_in facts.marked entry) ≡ true
  rooted_so entry is = ap is_rooted (typedef_rooted facts are fine entry is)

  known_of : (entry : ℕ) (is : IsTypedefEntry facts are fine entry) (type : types.Type) (meaning : TypeMeaning)
      → declared_type facts.names facts.program entry ≡ Some type → fine_meaning facts type ≡ Some meaning → typedef_meaning facts.known entry ≡ Some meaning
  known_of entry is type meaning declared means =
      let within : entry < length (scope_names facts.program) =
      slice_get_within (scope_names facts.program) entry is.declared (sym (ap (λ names. slice_get names entry) are.is_names) ∙ is.there) in
      ap (option_and_then (λ (m : Option TypeMeaning). m)) (are.means entry within)
      ∙ (ap (λ b. if b then option_and_then (fine_meaning facts) (declared_type facts.names facts.program entry) else None) (rooted_so entry is)
      ∙ (ap (option_and_then (fine_meaning facts)) declared ∙ means))

  known_upto : (count place entry : ℕ) → place < count → slice_get are.order place ≡ Some entry → IsTypedefEntry facts are fine entry → Known_of entry
  known_upto zero place entry below at is = absurd (omega arith)
  known_upto (suc count) place entry below at is =
      let one = typed entry is in
      let parents : facts.parents ≡ parents_of facts.names facts.program =
      are.is_parents ∙ ap (λ names. parents_of names facts.program) (sym are.is_names) in
      let P : ℕ → List (Option ℕ) → Type 0 = λ parent p. StandsUnder p entry parent in
      let found = meaning_by one.type one.none (λ parent above named.
      let under = typedef_under facts.names facts.program entry parent one.type (typed parent above).type one.declared (typed parent above).declared named in
      let earlier = are.lineage.ordered place entry parent at (subst (P parent) (sym parents) under) in
      known_upto count earlier.0 parent (let less : earlier.0 < place = earlier.1 in omega arith) earlier.2 above) in
      (found.0, known_of entry is one.type found.0 one.declared found.1)

  typedef_known : (entry : ℕ) → IsTypedefEntry facts are fine entry → Known_of entry
  typedef_known entry is =
      let place = are.lineage.whole entry (typedef_rooted facts are fine entry is) in
      known_upto (suc place.0) place.0 entry (omega arith) place.1 is

  -- so a base with which nothing is wrong is of some kind
  pub base_means : (base : BaseType) → base_fault facts.names base ≡ None → (kind : TypeKind) × (base_kind facts.names facts.known base ≡ Some kind)
  base_means base none = base_has_kind base none (λ entry is named. typedef_known entry is)

  -- a type with which nothing is wrong means something
  pub type_means : (decl : ℕ) (type : types.Type) → all_type_faults facts decl type ≡ [] → (meaning : TypeMeaning) × (fine_meaning facts type ≡ Some meaning)
  type_means decl type none = meaning_by type (none_anywhere facts decl type none) (λ entry is named. typedef_known entry is)

  -- so no variable is left out
  pub names_kept : (enums : List Enum) (decl : ℕ) (some : List Typed) → All (λ typed. all_type_faults facts decl typed.declared ≡ []) some
      → names_of (variables_of facts enums some) ≡ map (λ (typed : Typed). typed.name.text) some
  names_kept enums decl [] none = refl
  names_kept enums decl (typed ∷ some) none =
      let means = type_means decl typed.declared (All-head (λ (typed : Typed). all_type_faults facts decl typed.declared ≡ []) typed some none) in
      let here : declared_variable facts enums typed ≡ Some (variable_with facts enums typed means.0) = ap (option_map (variable_with facts enums typed)) means.1 in
      ap (λ o. names_of (cons_option o (variables_of facts enums some))) here
      ∙ ap (λ rest. typed.name.text ∷ rest) (names_kept enums decl some (All-tail (λ (typed : Typed). all_type_faults facts decl typed.declared ≡ []) typed some none))

-- ---- members

-- a member with which nothing is wrong
pub record IsRightMember (facts : Facts) (member : Member) : Type 0 where
  pub fine : IsFineMember member
  pub number : ℕ
  pub none : member_faults facts number member ≡ []

-- all that is right of a class
pub record IsRightClass (facts : Facts) (class : Name) (parent : Option Name) (some : List Member) : Type 0 where
  pub number : ℕ
  pub repeated : repeated_faults number (inherited_noted facts parent) (member_names some) ≡ []
  pub members : All (λ member. IsFineMember member × (member_faults facts number member ≡ [])) some

pub class_right : (facts : Facts) (at : ℕ) (class : Name) (parent : Option Name) (some : List Member) → IsRightDecl facts (decls.Class at class parent some)
    → IsRightClass facts class parent some
class_right facts at class parent some right =
    let one = parent_faults facts.names right.number parent in
    let two = repeated_faults right.number (inherited_noted facts parent) (member_names some) in
    let three = flat_map (member_faults facts right.number) some in
    let four = constructors_faults right.number class false some in
    let rest : two ++ (three ++ four) ≡ [] = none_second one (two ++ (three ++ four)) right.none in
    let inside = none_flat (member_faults facts right.number) some (none_first three four (none_second two (three ++ four) rest)) in
    record {
      number = right.number;
      repeated = none_first two (three ++ four) rest;
      members = λ k d within. (right.fine.1.1 k d within, inside k d within);
    }
