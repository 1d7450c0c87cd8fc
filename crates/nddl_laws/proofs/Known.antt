-- What the typedefs of a program mean fits it.
use Rattle.std.proofs.Common.{◌≡◌, ℕ, zero, suc, ◌<◌, Bool, true, false, List, [], ◌∷◌, ◌++◌, refl, sym, ◌∙◌, ap, subst, arith}
use Rattle.std.specs.Prelude.{Option, Some, None, slice_get, if◌then◌else◌}
use Rattle.std.specs.Option.{option_and_then, option_map, option_map_or}
use Rattle.std.proofs.lemmas.Option.{same_Some, none-some, slice_get_within}
use Rattle.eu_forest.specs.Lines.{StandsUnder, rootedness_in}
use Rattle.nddl_ast.specs.declared.expression.BaseType.{BaseType}
use Rattle.nddl_ast.specs.declared.expression.BaseType.TheVariants as bases
use Rattle.nddl_ast.specs.declared.expression.Type as types
use Rattle.nddl_symbols.specs.declared.declared.Declared.{Declared}
use Rattle.nddl_symbols.specs.declared.declared.Sort.{Sort}
use Rattle.nddl_symbols.specs.declared.declared.Sort.TheVariants as sorts
use Rattle.nddl_symbols.specs.declared.scope.Meaning.{Meaning}
use Rattle.nddl_symbols.specs.declared.scope.Meaning.TheVariants as meanings
use Rattle.nddl_symbols.specs.declared.fault.Fault.{Fault}
use Rattle.nddl_symbols.specs.Finding.{faults_here}
use Rattle.nddl_symbols.specs.Names.{scope_names}
use Rattle.nddl_symbols.specs.Scope.{meaning_of}
use Rattle.nddl_typeexpr.specs.declared.kind.Extent.{Extent}
use Rattle.nddl_typeexpr.specs.declared.kind.Extent.TheVariants as extents
use Rattle.nddl_typeexpr.specs.declared.kind.TypeKind.{TypeKind}
use Rattle.nddl_typeexpr.specs.declared.kind.TypeKind.TheVariants as kinds
use Rattle.nddl_typeexpr.specs.declared.kind.TypeMeaning.{TypeMeaning}
use Rattle.nddl_typeexpr.specs.Bases.{base_extent, base_fault, base_kind, entry_extent, meaning_extent, meaning_kind, sort_kind, typedef_meaning}
use Rattle.nddl_typeexpr.specs.Bounds.{bounds_extent, bounds_faults, missing_faults}
use Rattle.nddl_typeexpr.specs.Types.{bounded_meaning, is_fine, type_faults, type_meaning}
use Rattle.nddl_hierarchy.specs.Facts.{Facts}
use Rattle.nddl_hierarchy.specs.Decls.{decl_of_name, typedef_type}
use Rattle.nddl_hierarchy.specs.Lines.{is_rooted, is_typedef_sort, parents_of}
use Rattle.nddl_declarations.specs.Known.{AreFacts, all_type_faults, declared_type, fine_meaning, known_meaning}
use Rattle.nddl_declarations.proofs.Depends.{named_by}
use Rattle.nddl_declarations.proofs.Settled.{typedef_under}
use Rattle.nddl_types.specs.Classes.{enums_of}
use Rattle.nddl_laws.specs.Fine.{IsFineType}
use Rattle.nddl_laws.proofs.Fitting.{Fits, FitsExtent, FitsKind, bounds_fit}
use Rattle.nddl_laws.proofs.Numbers.{enum_there}
use Rattle.nddl_laws.proofs.Knowledge.{rooted_is}
use Rattle.nddl_laws.proofs.Nothing.{none_second}

pub nothing_wrong : (some : List Fault) → is_fine some ≡ true → some ≡ []
nothing_wrong [] is = refl
nothing_wrong (fault ∷ more) is = absurd (cc)

-- a type that means something has a kind, and nothing is wrong with its bounds
pub record IsMeant (facts : Facts) (type : types.Type) (meaning : TypeMeaning) : Type 0 where
  pub kind : TypeKind
  pub is_kind : base_kind facts.names facts.known type.base ≡ Some kind
  pub is_meaning : meaning ≡ record { kind = kind; extent = bounds_extent facts.names kind (base_extent facts.names facts.known type.base) type.bounds }
  pub bounded : bounds_faults facts.names kind (base_extent facts.names facts.known type.base) 0 type.bounds ≡ []

pub meant : (facts : Facts) (type : types.Type) (meaning : TypeMeaning) → fine_meaning facts type ≡ Some meaning → IsMeant facts type meaning
meant facts type meaning is = outer (is_fine (all_type_faults facts 0 type)) is
  where
    last : (o : Option TypeKind) → base_kind facts.names facts.known type.base ≡ o
        → faults_here 0 type.at (base_fault facts.names type.base)
        ++ option_map_or (λ (found : TypeKind). bounds_faults facts.names found (base_extent facts.names facts.known type.base) 0 type.bounds) o
        (missing_faults facts.names 0 type.bounds) ≡ []
        → option_map (λ (found : TypeKind). record { kind = found; extent = bounds_extent facts.names found (base_extent facts.names facts.known type.base) type.bounds }) o ≡ Some meaning
        → IsMeant facts type meaning
    last None at none is = absurd (none-some meaning is)
    last (Some kind) at none is =
        let own : TypeMeaning = record { kind = kind; extent = bounds_extent facts.names kind (base_extent facts.names facts.known type.base) type.bounds } in
        record {
          kind = kind;
          is_kind = at;
          is_meaning = sym (same_Some own meaning is);
          bounded = none_second (faults_here 0 type.at (base_fault facts.names type.base))
              (bounds_faults facts.names kind (base_extent facts.names facts.known type.base) 0 type.bounds) none;
        }

    inner : (b : Bool) → is_fine (type_faults facts.names facts.known 0 type) ≡ b
        → (if b then bounded_meaning facts.names facts.known type else None) ≡ Some meaning → IsMeant facts type meaning
    inner false fine is = absurd (none-some meaning is)
    inner true fine is =
        last (base_kind facts.names facts.known type.base) refl (nothing_wrong (type_faults facts.names facts.known 0 type) fine) is

    outer : (b : Bool) → (if b then type_meaning facts.names facts.known type else None) ≡ Some meaning → IsMeant facts type meaning
    outer false is = absurd (none-some meaning is)
    outer true is = inner (is_fine (type_faults facts.names facts.known 0 type)) refl is

-- the type is the one that this name is declared as
abbrev pub HasFineTypes : Facts → Type 0
HasFineTypes facts = (entry : ℕ) (type : types.Type) → declared_type facts.names facts.program entry ≡ Some type → IsFineType type

module _ (facts : Facts) (are : AreFacts (scope_names facts.program) facts.program facts) (fine : HasFineTypes facts) where
  FitsHere : TypeMeaning → Type 0
  FitsHere meaning = Fits facts.names (enums_of facts.program) meaning

  -- what is known of a name is what it means
  means_known : (entry : ℕ) (meaning : TypeMeaning) → typedef_meaning facts.known entry ≡ Some meaning → known_meaning facts entry ≡ Some meaning
  means_known entry meaning is = by (slice_get facts.known entry) refl is
    where
      by : (o : Option (Option TypeMeaning)) → slice_get facts.known entry ≡ o → option_and_then (λ (found : Option TypeMeaning). found) o ≡ Some meaning
          → known_meaning facts entry ≡ Some meaning
      by None at is = absurd (none-some meaning is)
      by (Some found) at is =
          let within = slice_get_within facts.known entry found at in
          let told = are.means entry (let e = are.whole in omega arith) in
          same_Some (known_meaning facts entry) (Some meaning) (sym told ∙ (at ∙ ap (λ o. Some o) is))

  -- a known name is a typedef of a type that means the same, and stands on no circle
  record IsKnown (entry : ℕ) (meaning : TypeMeaning) : Type 0 where
    rooted : is_rooted (rootedness_in facts.marked entry) ≡ true
    type : types.Type
    declared : declared_type facts.names facts.program entry ≡ Some type
    meant : fine_meaning facts type ≡ Some meaning

  is_known : (entry : ℕ) (meaning : TypeMeaning) → known_meaning facts entry ≡ Some meaning → IsKnown entry meaning
  is_known entry meaning is = by (is_rooted (rootedness_in facts.marked entry)) refl (declared_type facts.names facts.program entry) refl is
    where
      by : (b : Bool) → is_rooted (rootedness_in facts.marked entry) ≡ b → (o : Option types.Type) → declared_type facts.names facts.program entry ≡ o
          → (if b then option_and_then (fine_meaning facts) o else None) ≡ Some meaning → IsKnown entry meaning
      by false rooted o declared is = absurd (none-some meaning is)
      by true rooted None declared is = absurd (none-some meaning is)
      by true rooted (Some type) declared is = record { rooted = rooted; type = type; declared = declared; meant = is }

  -- of another name nothing is known
  none_known : (entry : ℕ) (declared : Declared) → slice_get facts.names entry ≡ Some declared → is_typedef_sort declared.sort ≡ false
      → entry_extent facts.known entry ≡ extents.Whole
  none_known entry declared there other = by (typedef_meaning facts.known entry) refl
    where
      by : (o : Option TypeMeaning) → typedef_meaning facts.known entry ≡ o
          → option_map_or (λ (meaning : TypeMeaning). meaning.extent) o extents.Whole ≡ extents.Whole
      by None at = refl
      by (Some meaning) at =
          let known = is_known entry meaning (means_known entry meaning at) in
          let none : declared_type facts.names facts.program entry ≡ None =
          ap (option_and_then (λ (d : Declared). if is_typedef_sort d.sort then option_and_then typedef_type (decl_of_name facts.program d) else None)) there
          ∙ ap (λ b. if b then option_and_then typedef_type (decl_of_name facts.program declared) else None) other in
          absurd (none-some known.type (sym none ∙ known.declared))

  -- what a base means fits, if what is known of the typedef that it names does
  abbrev FitsBelow : Option Meaning → Type 0
  FitsBelow named = (entry : ℕ) (meaning : TypeMeaning) → named ≡ Some (meanings.Entry entry) → typedef_meaning facts.known entry ≡ Some meaning → FitsHere meaning

  record FitsSo (kind : TypeKind) (extent : Extent) : Type 0 where
    of_kind : FitsKind (enums_of facts.program) kind
    of_extent : FitsExtent facts.names kind extent

  sort_fits : (entry : ℕ) (declared : Declared) (sort : Sort) (kind : TypeKind) → slice_get facts.names entry ≡ Some declared → declared.sort ≡ sort
      → sort_kind facts.known entry sort ≡ Some kind → FitsBelow (Some (meanings.Entry entry)) → FitsSo kind (entry_extent facts.known entry)
  unfolding FitsHere
  sort_fits entry declared (sorts.Enum number) kind there sort is below =
      let there_too = sym (ap (λ names. slice_get names entry) are.is_names) ∙ there in
      let has = enum_there facts.program entry number declared there_too sort in
      let P : TypeKind → Type 0 = λ k. FitsKind (enums_of facts.program) k in
      let whole = none_known entry declared there (ap is_typedef_sort sort) in
      record {
        of_kind = subst P (same_Some (kinds.Enum number) kind is) has;
        of_extent = subst (FitsExtent facts.names kind) (sym whole) tt;
      }
  sort_fits entry declared sorts.Typedef kind there sort is below = by (typedef_meaning facts.known entry) refl is
    where
      by : (o : Option TypeMeaning) → typedef_meaning facts.known entry ≡ o → option_map (λ (meaning : TypeMeaning). meaning.kind) o ≡ Some kind
          → FitsSo kind (option_map_or (λ (meaning : TypeMeaning). meaning.extent) o extents.Whole)
      by None at is = absurd (none-some kind is)
      by (Some meaning) at is =
          let fits = below entry meaning refl at in
          let same : meaning.kind ≡ kind = same_Some meaning.kind kind is in
          record { of_kind = subst (FitsKind (enums_of facts.program)) same fits.kind; of_extent = subst (λ k. FitsExtent facts.names k meaning.extent) same fits.extent }
  sort_fits entry declared sorts.Forward kind there sort is below =
      let whole = none_known entry declared there (ap is_typedef_sort sort) in
      record {
        of_kind = subst (FitsKind (enums_of facts.program)) (same_Some (kinds.Object (meanings.Entry entry)) kind is) tt;
        of_extent = subst (FitsExtent facts.names kind) (sym whole) tt;
      }
  sort_fits entry declared sorts.Body kind there sort is below =
      let whole = none_known entry declared there (ap is_typedef_sort sort) in
      record {
        of_kind = subst (FitsKind (enums_of facts.program)) (same_Some (kinds.Object (meanings.Entry entry)) kind is) tt;
        of_extent = subst (FitsExtent facts.names kind) (sym whole) tt;
      }
  sort_fits entry declared (sorts.Member of place) kind there sort is below = absurd (none-some kind is)
  sort_fits entry declared sorts.Global kind there sort is below = absurd (none-some kind is)
  sort_fits entry declared sorts.Object kind there sort is below = absurd (none-some kind is)
  sort_fits entry declared sorts.Root kind there sort is below = absurd (none-some kind is)
  sort_fits entry declared sorts.Config kind there sort is below = absurd (none-some kind is)

  meaning_fits : (named : Option Meaning) (kind : TypeKind) → option_and_then (meaning_kind facts.names facts.known) named ≡ Some kind → FitsBelow named
      → FitsSo kind (meaning_extent facts.known named)
  meaning_fits None kind is below = absurd (none-some kind is)
  meaning_fits (Some (meanings.BuiltIn number)) kind is below = record {
    of_kind = subst (FitsKind (enums_of facts.program)) (same_Some (kinds.Object (meanings.BuiltIn number)) kind is) tt;
    of_extent = tt;
  }
  meaning_fits (Some (meanings.Entry entry)) kind is below = by (slice_get facts.names entry) refl is
    where
      by : (o : Option Declared) → slice_get facts.names entry ≡ o → option_and_then (λ (declared : Declared). sort_kind facts.known entry declared.sort) o ≡ Some kind
          → FitsSo kind (entry_extent facts.known entry)
      by None there is = absurd (none-some kind is)
      by (Some declared) there is = sort_fits entry declared declared.sort kind there refl is below

  base_fits : (base : BaseType) (kind : TypeKind) → base_kind facts.names facts.known base ≡ Some kind → FitsBelow (named_by facts.names base)
      → FitsSo kind (base_extent facts.names facts.known base)
  base_fits (bases.Named name) kind is below = meaning_fits (meaning_of facts.names name.text) kind is below
  base_fits bases.Int kind is below = record { of_kind = subst (FitsKind (enums_of facts.program)) (same_Some kinds.Int kind is) tt; of_extent = tt }
  base_fits bases.Bool kind is below = record { of_kind = subst (FitsKind (enums_of facts.program)) (same_Some kinds.Bool kind is) tt; of_extent = tt }
  base_fits bases.Float kind is below = record { of_kind = subst (FitsKind (enums_of facts.program)) (same_Some kinds.Float kind is) tt; of_extent = tt }
  base_fits bases.Str kind is below = absurd (none-some kind is)

  type_fits_by : (type : types.Type) (meaning : TypeMeaning) → IsFineType type → fine_meaning facts type ≡ Some meaning
      → FitsBelow (named_by facts.names type.base) → FitsHere meaning
  unfolding FitsHere
  type_fits_by type meaning right is below =
      let found = meant facts type meaning is in
      let base = base_fits type.base found.kind found.is_kind below in
      subst (Fits facts.names (enums_of facts.program)) (sym found.is_meaning)
      (record {
        kind = base.of_kind;
        extent = bounds_fit facts.names found.kind (base_extent facts.names facts.known type.base) type.bounds base.of_extent right.1 found.bounded;
      })

  -- of the first so many of the order what is known fits
  known_upto : (count place entry : ℕ) (meaning : TypeMeaning) → place < count → slice_get are.order place ≡ Some entry → known_meaning facts entry ≡ Some meaning
      → FitsHere meaning
  known_upto zero place entry meaning below at is = absurd (omega arith)
  known_upto (suc count) place entry meaning below at is =
      let known = is_known entry meaning is in
      type_fits_by known.type meaning (fine entry known.type known.declared) known.meant
      (λ parent other named told.
      let above = is_known parent other (means_known parent other told) in
      let under = typedef_under facts.names facts.program entry parent known.type above.type known.declared above.declared named in
      let parents : facts.parents ≡ parents_of facts.names facts.program =
      are.is_parents ∙ ap (λ names. parents_of names facts.program) (sym are.is_names) in
      let P : List (Option ℕ) → Type 0 = λ p. StandsUnder p entry parent in
      let found = are.lineage.ordered place entry parent at (subst P (sym parents) under) in
      known_upto count found.0 parent other (let less : found.0 < place = found.1 in omega arith) found.2 (means_known parent other told))

  known_fits : (entry : ℕ) (meaning : TypeMeaning) → known_meaning facts entry ≡ Some meaning → FitsHere meaning
  known_fits entry meaning is =
      let known = is_known entry meaning is in
      let place = are.lineage.whole entry (rooted_is (rootedness_in facts.marked entry) known.rooted) in
      known_upto (suc place.0) place.0 entry meaning (omega arith) place.1 is

  -- what a type means fits
  pub type_fits : (type : types.Type) (meaning : TypeMeaning) → IsFineType type → fine_meaning facts type ≡ Some meaning
      → Fits facts.names (enums_of facts.program) meaning
  unfolding FitsHere
  type_fits type meaning right is = type_fits_by type meaning right is (λ entry other named told. known_fits entry other (means_known entry other told))
