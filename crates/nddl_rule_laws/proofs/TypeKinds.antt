-- The class of a type of objects is one that there is.
use Rattle.std.proofs.Common.{◌≡◌, ℕ, zero, suc, ◌<◌, ◌&&◌, Bool, true, false, List, refl, sym, ◌∙◌, ap, subst, arith}
use Rattle.std.specs.Prelude.{⊤, Option, Some, None, slice_get, if◌then◌else◌}
use Rattle.std.specs.Option.{option_and_then, option_map}
use Rattle.std.proofs.lemmas.Option.{same_Some, none-some, slice_get_within}
use Rattle.eu_forest.specs.Lines.{StandsUnder, rootedness_in}
use Rattle.nddl_ast.specs.declared.declaration.FileDecls.{FileDecls}
use Rattle.nddl_ast.specs.declared.expression.BaseType.{BaseType}
use Rattle.nddl_ast.specs.declared.expression.BaseType.TheVariants as bases
use Rattle.nddl_ast.specs.declared.expression.Type as types
use Rattle.nddl_symbols.specs.declared.declared.Declared.{Declared}
use Rattle.nddl_symbols.specs.declared.declared.Sort.{Sort}
use Rattle.nddl_symbols.specs.declared.declared.Sort.TheVariants as sorts
use Rattle.nddl_symbols.specs.declared.scope.Meaning.{Meaning}
use Rattle.nddl_symbols.specs.declared.scope.Meaning.TheVariants as meanings
use Rattle.nddl_symbols.specs.Names.{is_class_sort}
use Rattle.nddl_symbols.specs.Scope.{meaning_of}
use Rattle.nddl_typeexpr.specs.declared.kind.TypeKind.{TypeKind}
use Rattle.nddl_typeexpr.specs.declared.kind.TypeKind.TheVariants as kinds
use Rattle.nddl_typeexpr.specs.declared.kind.TypeMeaning.{TypeMeaning}
use Rattle.nddl_typeexpr.specs.Bases.{base_kind, meaning_kind, sort_kind, typedef_meaning}
use Rattle.nddl_hierarchy.specs.Lines.{is_rooted, parents_of}
use Rattle.nddl_declarations.specs.Known.{declared_type, fine_meaning, known_meaning}
use Rattle.nddl_declarations.proofs.Depends.{named_by}
use Rattle.nddl_declarations.proofs.Settled.{typedef_under}
use Rattle.nddl_types.specs.declared.table.TypeTable.{TypeTable}
use Rattle.nddl_types.specs.Classes.{class_number, is_first_class}
use Rattle.nddl_types.specs.Table.{IsTable}
use Rattle.nddl_laws.specs.Given.{AreGiven}
use Rattle.nddl_laws.proofs.Knowledge.{rooted_is}
use Rattle.nddl_laws.proofs.Known.{meant}
use Rattle.nddl_laws.proofs.Parents.{few_builtin, meant_first}
use Rattle.nddl_rule_laws.proofs.Classes.{Extended, are_facts, builtin_extended, entry_extended, entry_number, entry_place}

module _ (files : List FileDecls) (table : TypeTable) (given : AreGiven files) (is : IsTable files table) where
  -- a class that there is
  abbrev pub IsThere : Meaning → Type 0
  IsThere class = (it : Extended files table given is (class_number is.facts.names class)) × (it.class ≡ class)

  abbrev pub KindThere : TypeKind → Type 0
  KindThere (kinds.Object class) = IsThere class
  KindThere kind = ⊤

  pub builtin_there : (number : ℕ) → number < 4 → IsThere (meanings.BuiltIn number)
  builtin_there number few = (builtin_extended files table given is number few, refl)

  pub entry_there : (entry : ℕ) (found : Declared) → slice_get is.facts.names entry ≡ Some found → is_first_class is.facts.names entry found ≡ true
      → IsThere (meanings.Entry entry)
  entry_there entry found there first =
      let at = entry_place files table given is entry found there first in
      let P : ℕ → Type 0 = λ number. (it : Extended files table given is number) × (it.class ≡ meanings.Entry entry) in
      subst P (sym (entry_number files table given is at.0 entry at.1)) (entry_extended files table given is at.0 entry at.1, refl)

  -- what a name means that is a class
  pub meaning_there : (name : List ℕ) (entry : ℕ) (sort : Sort) → meaning_of is.facts.names name ≡ Some (meanings.Entry entry)
      → ((found : Declared) → slice_get is.facts.names entry ≡ Some found → found.sort ≡ sort) → is_class_sort sort ≡ true → IsThere (meanings.Entry entry)
  meaning_there name entry sort means sorted class =
      let found = meant_first is.facts.names name entry means in
      let own : is_class_sort found.found.sort ≡ true = ap is_class_sort (sorted found.found found.there) ∙ class in
      entry_there entry found.found found.there (λ i. own i && found.first i)

  -- ---- typedefs

  -- a known name is a typedef of a type that means the same
  record IsTyped (entry : ℕ) (meaning : TypeMeaning) : Type 0 where
    rooted : is_rooted (rootedness_in is.facts.marked entry) ≡ true
    type : types.Type
    declared : declared_type is.facts.names is.facts.program entry ≡ Some type
    is_meant : fine_meaning is.facts type ≡ Some meaning

  means_known : (entry : ℕ) (meaning : TypeMeaning) → typedef_meaning is.facts.known entry ≡ Some meaning → known_meaning is.facts entry ≡ Some meaning
  means_known entry meaning so = by (slice_get is.facts.known entry) refl so
    where
      by : (o : Option (Option TypeMeaning)) → slice_get is.facts.known entry ≡ o → option_and_then (λ (found : Option TypeMeaning). found) o ≡ Some meaning
          → known_meaning is.facts entry ≡ Some meaning
      by None at so = absurd (none-some meaning so)
      by (Some found) at so =
          let are = are_facts files table given is in
          let within = slice_get_within is.facts.known entry found at in
          let told = are.means entry (let e = are.whole in omega arith) in
          same_Some (known_meaning is.facts entry) (Some meaning) (sym told ∙ (at ∙ ap (λ o. Some o) so))

  typed : (entry : ℕ) (meaning : TypeMeaning) → typedef_meaning is.facts.known entry ≡ Some meaning → IsTyped entry meaning
  typed entry meaning so =
      by (is_rooted (rootedness_in is.facts.marked entry)) refl (declared_type is.facts.names is.facts.program entry) refl (means_known entry meaning so)
    where
      by : (b : Bool) → is_rooted (rootedness_in is.facts.marked entry) ≡ b → (o : Option types.Type) → declared_type is.facts.names is.facts.program entry ≡ o
          → (if b then option_and_then (fine_meaning is.facts) o else None) ≡ Some meaning → IsTyped entry meaning
      by false rooted o declared so = absurd (none-some meaning so)
      by true rooted None declared so = absurd (none-some meaning so)
      by true rooted (Some type) declared so = record { rooted = rooted; type = type; declared = declared; is_meant = so }

  -- ---- kinds

  -- what is known of a typedef that is named
  abbrev ThereBelow : Option Meaning → Type 0
  ThereBelow named = (entry : ℕ) (meaning : TypeMeaning) → named ≡ Some (meanings.Entry entry) → typedef_meaning is.facts.known entry ≡ Some meaning
      → KindThere meaning.kind

  sort_there : (name : List ℕ) (entry : ℕ) (declared : Declared) (sort : Sort) (kind : TypeKind) → meaning_of is.facts.names name ≡ Some (meanings.Entry entry)
      → slice_get is.facts.names entry ≡ Some declared → declared.sort ≡ sort → sort_kind is.facts.known entry sort ≡ Some kind
      → ThereBelow (Some (meanings.Entry entry)) → KindThere kind
  sort_there name entry declared (sorts.Enum number) kind means there sort so below = subst KindThere (same_Some (kinds.Enum number) kind so) tt
  sort_there name entry declared sorts.Typedef kind means there sort so below = by (typedef_meaning is.facts.known entry) refl so
    where
      by : (o : Option TypeMeaning) → typedef_meaning is.facts.known entry ≡ o → option_map (λ (meaning : TypeMeaning). meaning.kind) o ≡ Some kind → KindThere kind
      by None at so = absurd (none-some kind so)
      by (Some meaning) at so = subst KindThere (same_Some meaning.kind kind so) (below entry meaning refl at)
  sort_there name entry declared sorts.Forward kind means there sort so below =
      subst KindThere (same_Some (kinds.Object (meanings.Entry entry)) kind so)
      (meaning_there name entry sorts.Forward means (λ found at. ap (λ (d : Declared). d.sort) (same_Some found declared (sym at ∙ there)) ∙ sort) refl)
  sort_there name entry declared sorts.Body kind means there sort so below =
      subst KindThere (same_Some (kinds.Object (meanings.Entry entry)) kind so)
      (meaning_there name entry sorts.Body means (λ found at. ap (λ (d : Declared). d.sort) (same_Some found declared (sym at ∙ there)) ∙ sort) refl)
  sort_there name entry declared (sorts.Member of place) kind means there sort so below = absurd (none-some kind so)
  sort_there name entry declared sorts.Global kind means there sort so below = absurd (none-some kind so)
  sort_there name entry declared sorts.Object kind means there sort so below = absurd (none-some kind so)
  sort_there name entry declared sorts.Root kind means there sort so below = absurd (none-some kind so)
  sort_there name entry declared sorts.Config kind means there sort so below = absurd (none-some kind so)

  name_there : (name : List ℕ) (o : Option Meaning) (kind : TypeKind) → meaning_of is.facts.names name ≡ o
      → option_and_then (meaning_kind is.facts.names is.facts.known) o ≡ Some kind → ThereBelow o → KindThere kind
  name_there name None kind means so below = absurd (none-some kind so)
  name_there name (Some (meanings.BuiltIn number)) kind means so below =
      subst KindThere (same_Some (kinds.Object (meanings.BuiltIn number)) kind so) (builtin_there number (few_builtin is.facts.names name number means))
  name_there name (Some (meanings.Entry entry)) kind means so below = by (slice_get is.facts.names entry) refl so
    where
      by : (o : Option Declared) → slice_get is.facts.names entry ≡ o
          → option_and_then (λ (declared : Declared). sort_kind is.facts.known entry declared.sort) o ≡ Some kind → KindThere kind
      by None there so = absurd (none-some kind so)
      by (Some declared) there so = sort_there name entry declared declared.sort kind means there refl so below

  base_below : (base : BaseType) (kind : TypeKind) → base_kind is.facts.names is.facts.known base ≡ Some kind → ThereBelow (named_by is.facts.names base)
      → KindThere kind
  base_below (bases.Named name) kind so below = name_there name.text (meaning_of is.facts.names name.text) kind refl so below
  base_below bases.Int kind so below = subst KindThere (same_Some kinds.Int kind so) tt
  base_below bases.Bool kind so below = subst KindThere (same_Some kinds.Bool kind so) tt
  base_below bases.Float kind so below = subst KindThere (same_Some kinds.Float kind so) tt
  base_below bases.Str kind so below = absurd (none-some kind so)

  type_below : (type : types.Type) (meaning : TypeMeaning) → fine_meaning is.facts type ≡ Some meaning → ThereBelow (named_by is.facts.names type.base)
      → KindThere meaning.kind
  type_below type meaning so below =
      let it = meant is.facts type meaning so in
      subst KindThere (sym (ap (λ (m : TypeMeaning). m.kind) it.is_meaning)) (base_below type.base it.kind it.is_kind below)

  known_upto : (count place entry : ℕ) (meaning : TypeMeaning) → place < count → slice_get (are_facts files table given is).order place ≡ Some entry
      → typedef_meaning is.facts.known entry ≡ Some meaning → KindThere meaning.kind
  known_upto zero place entry meaning below at so = absurd (omega arith)
  known_upto (suc count) place entry meaning below at so =
      let are = are_facts files table given is in
      let one = typed entry meaning so in
      type_below one.type meaning one.is_meant (λ parent other named told.
      let up = typed parent other told in
      let under = typedef_under is.facts.names is.facts.program entry parent one.type up.type one.declared up.declared named in
      let parents : is.facts.parents ≡ parents_of is.facts.names is.facts.program =
      are.is_parents ∙ ap (λ names. parents_of names is.facts.program) (sym are.is_names) in
      let P : List (Option ℕ) → Type 0 = λ p. StandsUnder p entry parent in
      let found = are.lineage.ordered place entry parent at (subst P (sym parents) under) in
      known_upto count found.0 parent other (let less : found.0 < place = found.1 in omega arith) found.2 told)

  pub typedef_there : (entry : ℕ) (meaning : TypeMeaning) → typedef_meaning is.facts.known entry ≡ Some meaning → KindThere meaning.kind
  typedef_there entry meaning so =
      let place = (are_facts files table given is).lineage.whole entry (rooted_is (rootedness_in is.facts.marked entry) (typed entry meaning so).rooted) in
      known_upto (suc place.0) place.0 entry meaning (omega arith) place.1 so

  -- the kind of a base is one that there is
  pub base_there : (base : BaseType) (kind : TypeKind) → base_kind is.facts.names is.facts.known base ≡ Some kind → KindThere kind
  base_there base kind so = base_below base kind so (λ entry meaning named told. typedef_there entry meaning told)

  pub kind_there : (name : List ℕ) (meaning : Meaning) (kind : TypeKind) → meaning_of is.facts.names name ≡ Some meaning
      → meaning_kind is.facts.names is.facts.known meaning ≡ Some kind → KindThere kind
  kind_there name meaning kind means so = name_there name (Some meaning) kind means so (λ entry other named told. typedef_there entry other told)
