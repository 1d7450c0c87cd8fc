-- The classes and typedefs of a program with which nothing is wrong lead up to one that stands under none.
use Rattle.std.proofs.Common.{◌≡◌, ℕ, ◌+◌, ◌<◌, Bool, true, false, ◌&&◌, List, [], ◌∷◌, ◌++◌, length, refl, sym, ◌∙◌, ap, subst, arith}
use Rattle.std.specs.Prelude.{Option, Some, None, slice_get, if◌then◌else◌}
use Rattle.std.specs.List.{flat_map}
use Rattle.std.specs.Option.{option_and_then, option_map}
use Rattle.std.proofs.lemmas.Option.{same_Some, none-some, slice_get_within}
use Rattle.eu_forest.specs.declared.lineage.Rootedness.{Rootedness}
use Rattle.eu_forest.specs.declared.lineage.Rootedness.TheVariants as how
use Rattle.eu_forest.specs.Lines.{IsOnCircle, LeadsUp, StandsSo, StandsUnder, rootedness_in}
use Rattle.eu_forest.proofs.Chains.{one_parent}
use Rattle.nddl_ast.specs.declared.declaration.Decl.{Decl}
use Rattle.nddl_ast.specs.declared.declaration.Decl.TheVariants as decls
use Rattle.nddl_ast.specs.declared.kind.TextKind.TheVariants as faults
use Rattle.nddl_ast.specs.declared.expression.BaseType.{BaseType}
use Rattle.nddl_ast.specs.declared.expression.BaseType.TheVariants as bases
use Rattle.nddl_ast.specs.declared.expression.Type as types
use Rattle.nddl_ast.specs.declared.name.Name.{Name}
use Rattle.nddl_symbols.specs.declared.place.Place.{Place}
use Rattle.nddl_symbols.specs.declared.declared.Declared.{Declared}
use Rattle.nddl_symbols.specs.declared.declared.Sort.{Sort}
use Rattle.nddl_symbols.specs.declared.declared.Sort.TheVariants as sorts
use Rattle.nddl_symbols.specs.declared.scope.Meaning.{Meaning}
use Rattle.nddl_symbols.specs.declared.scope.Meaning.TheVariants as meanings
use Rattle.nddl_symbols.specs.Finding.{faults_here}
use Rattle.nddl_symbols.specs.Names.{is_class_sort, scope_names}
use Rattle.nddl_symbols.specs.Repeats.{repeated_faults}
use Rattle.nddl_symbols.specs.Scope.{meaning_of, named_number}
use Rattle.nddl_hierarchy.specs.Ancestors.{above}
use Rattle.nddl_hierarchy.specs.Decls.{class_parent, decl_of_name, declaration_with_body, typedef_type}
use Rattle.nddl_hierarchy.specs.Facts.{Facts}
use Rattle.nddl_hierarchy.specs.Lines.{base_under, class_under, declared_place, is_circle, is_typedef_sort, parents_of, sort_under, typedef_at, typedef_of_meaning, under_meaning}
use Rattle.nddl_declarations.specs.Known.{AreFacts}
use Rattle.nddl_hierarchy.specs.Inherited.{inherited_noted, member_names}
use Rattle.nddl_declarations.specs.Classes.{class_meaning_fault, parent_faults}
use Rattle.nddl_declarations.specs.Members.{constructors_faults, member_faults}
use Rattle.nddl_declarations.specs.Faults.{all_faults, decl_faults}
use Rattle.nddl_types.specs.Classes.{is_first, is_first_class}
use Rattle.nddl_laws.proofs.Values.{no_fault}
use Rattle.nddl_laws.proofs.Circles.{body_is, circle_fine, circles_fine, class_sort_under, listed_at, no_circle, off_circle}
use Rattle.nddl_laws.proofs.Nothing.{decls_fine, none_first}
use Rattle.nddl_laws.proofs.Parents.{decl_fine, extends_class, few_builtin, meant_class}
use Rattle.nddl_laws.proofs.Rootedness.{one_rootedness}

-- ---- classes

-- the name of this number is a class
pub record IsClassEntry (names : List Declared) (entry : ℕ) : Type 0 where
  pub declared : Declared
  pub there : slice_get names entry ≡ Some declared
  pub sort : is_class_sort declared.sort ≡ true

-- what a class stands under is what it extends
pub data ClassStands (facts : Facts) (entry : ℕ) : Type 0 where
  no_parent : above facts.names facts.program entry ≡ None → slice_get facts.parents entry ≡ Some None → ClassStands facts entry
  under_builtin : (number : ℕ) → number < 4 → above facts.names facts.program entry ≡ Some (meanings.BuiltIn number)
      → slice_get facts.parents entry ≡ Some None → ClassStands facts entry
  under_class : (other : ℕ) → above facts.names facts.program entry ≡ Some (meanings.Entry other) → StandsUnder facts.parents entry other
      → IsClassEntry facts.names other
      → ((found : Declared) → slice_get facts.names other ≡ Some found → is_first_class facts.names other found ≡ true)
      → (decl : Decl) → (declared : Declared) → slice_get facts.names entry ≡ Some declared
      → declaration_with_body facts.names facts.program declared ≡ Some decl → ClassStands facts entry

-- a declaration with which nothing is wrong extends what is there
extends_something : (facts : Facts) (number : ℕ) (decl : Decl) (name : Name) → decl_faults facts number decl ≡ [] → class_parent decl ≡ Some name
    → meaning_of facts.names name.text ≡ None → ⊥
extends_something facts number (decls.Class at class parent members) name fine is means =
    let P : Option Name → Type 0 = λ parent. parent_faults facts.names number parent ≡ [] in
    let first : parent_faults facts.names number parent ≡ [] =
    none_first (parent_faults facts.names number parent)
    (repeated_faults number (inherited_noted facts parent) (member_names members)
    ++ (flat_map (member_faults facts number) members ++ constructors_faults number class false members)) fine in
    let told : faults_here number name.at (class_meaning_fault facts.names (meaning_of facts.names name.text)) ≡ [] = subst P is first in
    let none : class_meaning_fault facts.names (meaning_of facts.names name.text) ≡ None =
    no_fault number name.at (class_meaning_fault facts.names (meaning_of facts.names name.text)) told in
    let some : class_meaning_fault facts.names (meaning_of facts.names name.text) ≡ Some faults.Unknown = ap (class_meaning_fault facts.names) means in
    none-some faults.Unknown (sym none ∙ some)
extends_something facts number decl name fine is means = none-some name is

module _ (facts : Facts) (are : AreFacts (scope_names facts.program) facts.program facts) (fine : all_faults facts ≡ []) where
  parents_are : facts.parents ≡ parents_of facts.names facts.program
  parents_are = are.is_parents ∙ ap (λ names. parents_of names facts.program) (sym are.is_names)

  -- what stands at a class
  class_at : (entry : ℕ) (is : IsClassEntry facts.names entry)
      → slice_get facts.parents entry
      ≡ Some (option_and_then (class_under facts.names) (option_and_then class_parent (declaration_with_body facts.names facts.program is.declared)))
  class_at entry is =
      ap (λ parents. slice_get parents entry) parents_are
      ∙ (listed_at (λ declared. sort_under facts.names facts.program declared declared.sort) facts.names (Some (length facts.names) ∷ []) entry is.declared is.there
      ∙ ap (λ o. Some o) (class_sort_under facts.names facts.program is.declared is.declared.sort is.sort))

  above_at : (entry : ℕ) (is : IsClassEntry facts.names entry)
      → above facts.names facts.program entry
      ≡ option_and_then (λ (name : Name). meaning_of facts.names name.text) (option_and_then class_parent (declaration_with_body facts.names facts.program is.declared))
  above_at entry is =
      ap (option_and_then (λ (declared : Declared). option_and_then (λ (name : Name). meaning_of facts.names name.text)
      (option_and_then class_parent (declaration_with_body facts.names facts.program declared)))) is.there

  -- how a class stands
  pub class_stands : (entry : ℕ) → IsClassEntry facts.names entry → ClassStands facts entry
  class_stands entry is = by (declaration_with_body facts.names facts.program is.declared) refl (class_at entry is) (above_at entry is)
    where
      meant : (decl : Decl) → declaration_with_body facts.names facts.program is.declared ≡ Some decl → (name : Name) → class_parent decl ≡ Some name
          → (m : Option Meaning) → meaning_of facts.names name.text ≡ m → slice_get facts.parents entry ≡ Some (under_meaning facts.names m)
          → above facts.names facts.program entry ≡ m → ClassStands facts entry
      meant decl body name parent None means at up =
          let stands = body_is facts.names facts.program is.declared decl body in
          let right = decl_fine facts 0 facts.program stands.other.place.decl decl (decls_fine facts fine) stands.at in
          absurd (extends_something facts (0 + stands.other.place.decl) decl name right parent means)
      meant decl body name parent (Some (meanings.BuiltIn number)) means at up =
          under_builtin number (few_builtin facts.names name.text number means) up at
      meant decl body name parent (Some (meanings.Entry other)) means at up =
          let stands = body_is facts.names facts.program is.declared decl body in
          let right = decl_fine facts 0 facts.program stands.other.place.decl decl (decls_fine facts fine) stands.at in
          let class = extends_class facts (0 + stands.other.place.decl) decl name other right parent means in
          let found = meant_class facts.names name.text other means class in
          let sort = class_of found.0 (is_class_sort found.0.sort) refl found.2 in
          under_class other up (at ∙ ap (λ b. Some (if b then Some other else Some (length facts.names))) class)
          (record { declared = found.0; there = found.1; sort = sort })
          (λ one at. ap (is_first_class facts.names other) (same_Some one found.0 (sym at ∙ found.1)) ∙ found.2) decl is.declared is.there body
        where
          class_of : (declared : Declared) (b : Bool) → is_class_sort declared.sort ≡ b → is_first_class facts.names other declared ≡ true → is_class_sort declared.sort ≡ true
          class_of declared true is first = is
          class_of declared false is first =
              absurd (let e : false ≡ true = sym (ap (λ b. b && is_first facts.names other declared) is) ∙ first in cc)

      named : (decl : Decl) → declaration_with_body facts.names facts.program is.declared ≡ Some decl → (o : Option Name) → class_parent decl ≡ o
          → slice_get facts.parents entry ≡ Some (option_and_then (class_under facts.names) o)
          → above facts.names facts.program entry ≡ option_and_then (λ (name : Name). meaning_of facts.names name.text) o → ClassStands facts entry
      named decl body None parent at up = no_parent up at
      named decl body (Some name) parent at up = meant decl body name parent (meaning_of facts.names name.text) refl at up

      by : (o : Option Decl) → declaration_with_body facts.names facts.program is.declared ≡ o
          → slice_get facts.parents entry ≡ Some (option_and_then (class_under facts.names) (option_and_then class_parent o))
          → above facts.names facts.program entry ≡ option_and_then (λ (name : Name). meaning_of facts.names name.text) (option_and_then class_parent o)
          → ClassStands facts entry
      by None body at up = no_parent up at
      by (Some decl) body at up = named decl body (class_parent decl) refl at up

  no_parent_there : (entry parent : ℕ) → slice_get facts.parents entry ≡ Some None → StandsUnder facts.parents entry parent → ⊥
  no_parent_there entry parent none under =
      let e : ◌≡◌ {A = Option ℕ} None (Some parent) = same_Some None (Some parent) (sym none ∙ under) in none-some parent e

  -- a class stands under a class
  class_above : (entry parent : ℕ) → IsClassEntry facts.names entry → StandsUnder facts.parents entry parent → IsClassEntry facts.names parent
  class_above entry parent is under = elim (class_stands entry is) [
    | no_parent up at ↦ absurd (no_parent_there entry parent at under)
    | under_builtin number few up at ↦ absurd (no_parent_there entry parent at under)
    | under_class other up stands class first decl declared there body ↦
        subst (IsClassEntry facts.names) (one_parent facts.parents entry other parent stands under) class
  ]

  class_off : (entry : ℕ) → IsClassEntry facts.names entry → IsOnCircle facts.parents entry → ⊥
  class_off entry is circle = elim (class_stands entry is) [
    | no_parent up at ↦ no_parent_there entry circle.parent at circle.under
    | under_builtin number few up at ↦ no_parent_there entry circle.parent at circle.under
    | under_class other up stands class first decl declared there body ↦
        (let same : is.declared ≡ declared = same_Some is.declared declared (sym is.there ∙ there) in
        let sort : is_class_sort declared.sort ≡ true = sym (ap (λ (d : Declared). is_class_sort d.sort) same) ∙ is.sort in
        off_circle facts.names facts.program facts.parents facts.marked are.order entry declared decl are.lineage
        (slice_get_within facts.parents entry (Some other) stands) (circles_fine facts fine) there sort body circle)
  ]

  class_leads_not : (entry : ℕ) (path : List ℕ) (other : ℕ) → IsClassEntry facts.names entry → LeadsUp facts.parents entry path other → IsOnCircle facts.parents other → ⊥
  class_leads_not entry [] other is leads circle = class_off entry is (subst (IsOnCircle facts.parents) leads circle)
  class_leads_not entry (parent ∷ path) other is leads circle =
      class_leads_not parent path other (class_above entry parent is leads.0) leads.1 circle

  pub class_rooted : (entry : ℕ) → IsClassEntry facts.names entry → rootedness_in facts.marked entry ≡ Some how.Rooted
  class_rooted entry is =
      let found = are.lineage.rootedness entry (slice_get_within facts.parents entry _ (class_at entry is)) in
      found.1 ∙ ap (λ s. Some s) (by found.0 found.2)
    where
      by : (rootedness : Rootedness) → StandsSo facts.parents entry rootedness → rootedness ≡ how.Rooted
      by how.Rooted so = refl
      by how.OnCircle so = absurd (class_off entry is so)
      by how.Leading so = absurd (class_leads_not entry so.path so.other is so.leads so.circle)

  -- ---- typedefs

  pub record IsTypedefEntry (entry : ℕ) : Type 0 where
    pub declared : Declared
    pub there : slice_get facts.names entry ≡ Some declared
    pub sort : declared.sort ≡ sorts.Typedef

  typedef_at_is : (entry : ℕ) (is : IsTypedefEntry entry)
      → slice_get facts.parents entry
      ≡ Some (option_and_then (λ (type : types.Type). base_under facts.names type.base) (option_and_then typedef_type (decl_of_name facts.program is.declared)))
  typedef_at_is entry is =
      ap (λ parents. slice_get parents entry) parents_are
      ∙ (listed_at (λ declared. sort_under facts.names facts.program declared declared.sort) facts.names (Some (length facts.names) ∷ []) entry is.declared is.there
      ∙ ap (λ s. Some (sort_under facts.names facts.program is.declared s)) is.sort)

  sort_typedef : (sort : Sort) → is_typedef_sort sort ≡ true → sort ≡ sorts.Typedef
  sort_typedef sorts.Typedef is = refl
  sort_typedef sort is = absurd (let e : false ≡ true = is in cc)

  entry_typedef : (entry parent : ℕ) → typedef_at facts.names entry ≡ Some parent → IsTypedefEntry parent
  entry_typedef entry parent is = by (slice_get facts.names entry) refl is
    where
      inner : (declared : Declared) → slice_get facts.names entry ≡ Some declared → (b : Bool) → is_typedef_sort declared.sort ≡ b
          → (if b then Some entry else None) ≡ Some parent → IsTypedefEntry parent
      inner declared there false sort is = absurd (none-some parent is)
      inner declared there true sort is =
          subst IsTypedefEntry (same_Some entry parent is) (record { declared = declared; there = there; sort = sort_typedef declared.sort sort })

      by : (o : Option Declared) → slice_get facts.names entry ≡ o
          → option_and_then (λ (declared : Declared). if is_typedef_sort declared.sort then Some entry else None) o ≡ Some parent → IsTypedefEntry parent
      by None there is = absurd (none-some parent is)
      by (Some declared) there is = inner declared there (is_typedef_sort declared.sort) refl is

  meaning_typedef : (o : Option Meaning) (parent : ℕ) → typedef_of_meaning facts.names o ≡ Some parent → IsTypedefEntry parent
  meaning_typedef None parent is = absurd (none-some parent is)
  meaning_typedef (Some (meanings.BuiltIn number)) parent is = absurd (none-some parent is)
  meaning_typedef (Some (meanings.Entry entry)) parent is = entry_typedef entry parent is

  base_typedef : (base : BaseType) (parent : ℕ) → base_under facts.names base ≡ Some parent → IsTypedefEntry parent
  base_typedef (bases.Named name) parent is = meaning_typedef (meaning_of facts.names name.text) parent is
  base_typedef bases.Int parent is = absurd (none-some parent is)
  base_typedef bases.Bool parent is = absurd (none-some parent is)
  base_typedef bases.Float parent is = absurd (none-some parent is)
  base_typedef bases.Str parent is = absurd (none-some parent is)

  typedef_above : (entry parent : ℕ) → IsTypedefEntry entry → StandsUnder facts.parents entry parent → IsTypedefEntry parent
  typedef_above entry parent is under =
      by (option_and_then typedef_type (decl_of_name facts.program is.declared))
      (same_Some (option_and_then (λ (type : types.Type). base_under facts.names type.base) (option_and_then typedef_type (decl_of_name facts.program is.declared)))
      (Some parent) (sym (typedef_at_is entry is) ∙ under))
    where
      by : (o : Option types.Type) → option_and_then (λ (type : types.Type). base_under facts.names type.base) o ≡ Some parent → IsTypedefEntry parent
      by None is = absurd (none-some parent is)
      by (Some type) is = base_typedef type.base parent is

  typedef_off : (entry : ℕ) → IsTypedefEntry entry → IsOnCircle facts.parents entry → ⊥
  typedef_off entry is circle =
      let place : Option Place = option_and_then (λ (body : ℕ). option_map (λ (other : Declared). other.place) (slice_get facts.names body))
      (named_number true facts.names is.declared.name) in
      let placed : declared_place facts.names is.declared ≡ Some is.declared.place =
      ap (λ b. if b then place else Some is.declared.place) (ap is_class_sort is.sort) in
      let none = circle_fine facts.names facts.marked 0 facts.names entry is.declared (circles_fine facts fine) is.there in
      let e : 0 + entry ≡ entry = omega arith in
      let off : is_circle (rootedness_in facts.marked entry) ≡ false =
      sym (ap (λ n. is_circle (rootedness_in facts.marked n)) e)
      ∙ no_circle (declared_place facts.names is.declared) (is_circle (rootedness_in facts.marked (0 + entry))) is.declared.place placed none in
      let found = are.lineage.rootedness entry (slice_get_within facts.parents entry (Some circle.parent) circle.under) in
      let same = one_rootedness facts.parents entry found.0 how.OnCircle found.2 circle in
      let on : is_circle (rootedness_in facts.marked entry) ≡ true = ap is_circle (found.1 ∙ ap (λ s. Some s) same) in
      let never : true ≡ false = sym on ∙ off in cc

  typedef_leads_not : (entry : ℕ) (path : List ℕ) (other : ℕ) → IsTypedefEntry entry → LeadsUp facts.parents entry path other → IsOnCircle facts.parents other → ⊥
  typedef_leads_not entry [] other is leads circle = typedef_off entry is (subst (IsOnCircle facts.parents) leads circle)
  typedef_leads_not entry (parent ∷ path) other is leads circle =
      typedef_leads_not parent path other (typedef_above entry parent is leads.0) leads.1 circle

  pub typedef_rooted : (entry : ℕ) → IsTypedefEntry entry → rootedness_in facts.marked entry ≡ Some how.Rooted
  typedef_rooted entry is =
      let found = are.lineage.rootedness entry (slice_get_within facts.parents entry _ (typedef_at_is entry is)) in
      found.1 ∙ ap (λ s. Some s) (by found.0 found.2)
    where
      by : (rootedness : Rootedness) → StandsSo facts.parents entry rootedness → rootedness ≡ how.Rooted
      by how.Rooted so = refl
      by how.OnCircle so = absurd (typedef_off entry is so)
      by how.Leading so = absurd (typedef_leads_not entry so.path so.other is so.leads so.circle)
