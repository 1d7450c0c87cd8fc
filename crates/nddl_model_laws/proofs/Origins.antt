-- Where the names of a compiled model come from.
use Rattle.std.proofs.Common.{◌≡◌, ◌≢◌, ℕ, zero, suc, ◌<◌, ◌==◌, ◌⊎◌, inl, inr, Bool, true, false, List, [], ◌∷◌, length, map, refl, sym, ◌∙◌, ap, subst, arith}
use Rattle.std.specs.Prelude.{Option, Some, None, All, Contains, slice_get, if◌then◌else◌}
use Rattle.std.specs.List.{AllByRecursion, cons_option, filter_map}
use Rattle.std.specs.Option.{option_and_then, option_map}
use Rattle.std.proofs.lemmas.Bool.Decides.{Decides-eqb}
use Rattle.std.proofs.lemmas.List.Elements.{All-contains, All-contains_itself, All-from_recursion, All-weaker, recursion_from_All}
use Rattle.std.proofs.lemmas.Option.{same_Some, none-some}
use Rattle.eu_name.specs.Word.{IsName}
use Rattle.model_core.specs.declared.model.Root.{Root}
use Rattle.model_core.specs.declared.variable.Base.{Base}
use Rattle.model_core.specs.declared.variable.Base.TheVariants.{Given, Void}
use Rattle.model_core.specs.declared.variable.VarDecl.{VarDecl}
use Rattle.model_core.specs.Naming.{builtin_names}
use Rattle.model_core.proofs.Items.{item_all}
use Rattle.nddl_ast.specs.declared.declaration.Decl.{Decl}
use Rattle.nddl_ast.specs.declared.declaration.Decl.TheVariants as decls
use Rattle.nddl_symbols.specs.declared.declared.Declared.{Declared}
use Rattle.nddl_symbols.specs.declared.declared.Sort.{Sort}
use Rattle.nddl_symbols.specs.declared.declared.Sort.TheVariants as sorts
use Rattle.nddl_symbols.specs.Names.{declared_as, is_class_sort, is_global_sort, is_posting_word, names_in_decl, scope_names, sort_of_variable}
use Rattle.nddl_typeexpr.specs.declared.kind.TypeMeaning.{TypeMeaning}
use Rattle.nddl_hierarchy.specs.Facts.{Facts}
use Rattle.nddl_declarations.specs.Faults.{all_faults}
use Rattle.nddl_declarations.specs.Known.{fine_meaning}
use Rattle.nddl_construction.specs.declared.made.MadeObject.{MadeObject}
use Rattle.nddl_env.specs.Shapes.{World}
use Rattle.nddl_lower.specs.declared.slots.Wanted.{Wanted}
use Rattle.nddl_instance.specs.Globals.{declared_global, declared_globals, global_with, typed_global}
use Rattle.nddl_instance.specs.Outside.{Outsides}
use Rattle.nddl_instance.specs.Roots.{posted_root, posted_roots, root_base, root_kind, root_of_wanted, root_wanted, root_with_base}
use Rattle.nddl_laws.specs.Fine.{IsFineDecl}
use Rattle.nddl_laws.proofs.Named.{cross_so, named_so, once_so, so_not_builtin, whole}
use Rattle.nddl_laws.proofs.Apart.{AreOnce}
use Rattle.nddl_laws.proofs.Places.{declared_in}
use Rattle.nddl_model_laws.proofs.Making.{IsCalled, IsNamedObject, is_made_sort}
use Rattle.nddl_model_laws.proofs.Spelled.{full_point, has_point, is_marked, name_pointless, name_unmarked, path_unmarked}
use Rattle.nddl_model_laws.proofs.Within.{IsWithin, given_within, within_all, within_once}

-- ---- sorts by numbers

-- globals, roots, objects, and all others
abbrev pub sort_code : Sort → ℕ
sort_code sorts.Global = 0
sort_code sorts.Root = 1
sort_code sorts.Object = 2
sort_code sorts.Config = 2
sort_code sort = 3

abbrev pub of_code : ℕ → Sort → Bool
of_code code sort = sort_code sort == code

-- the names of these sorts
abbrev pub texts_of : Facts → ℕ → List (List ℕ)
texts_of facts code = filter_map (named_so (of_code code)) facts.names

pub no_class : (code : ℕ) → code < 3 → (sort : Sort) → of_code code sort ≡ true → is_class_sort sort ≡ false
no_class code few sorts.Forward is = absurd (let same : 3 ≡ code = (Decides-eqb 3 code).0 is in omega arith)
no_class code few sorts.Body is = absurd (let same : 3 ≡ code = (Decides-eqb 3 code).0 is in omega arith)
no_class code few sort is = refl

codes_differ : (one other : ℕ) → (one ≡ other → ⊥) → (sort : Sort) → of_code one sort ≡ true → of_code other sort ≡ true → ⊥
codes_differ one other differ sort is also =
    differ (sym ((Decides-eqb (sort_code sort) one).0 is) ∙ (Decides-eqb (sort_code sort) other).0 also)

global_code : (sort : Sort) → is_global_sort sort ≡ true → of_code 0 sort ≡ true
global_code sorts.Global is = refl
global_code sort is = absurd (cc)

made_code : (sort : Sort) → is_made_sort sort ≡ true → of_code 2 sort ≡ true
made_code sorts.Object is = refl
made_code sorts.Config is = refl
made_code sort is = absurd (cc)

-- ---- names in the scope

-- a name that passes is among those that do
contained : (test : Sort → Bool) (some : List Declared) (place : ℕ) (declared : Declared) → slice_get some place ≡ Some declared → test declared.sort ≡ true
    → Contains (filter_map (named_so test) some) declared.name
contained test [] place declared at passes = absurd (none-some declared at)
contained test (here ∷ more) zero declared at passes =
    by (test here.sort) (ap (λ (one : Declared). test one.sort) (same_Some here declared at) ∙ passes)
  where
    by : (b : Bool) → b ≡ true → Contains (cons_option (if b then Some here.name else None) (filter_map (named_so test) more)) declared.name
    by true is = (0, omega arith, ap (λ (one : Declared). one.name) (same_Some here declared at))
    by false is = absurd (cc)
contained test (here ∷ more) (suc place) declared at passes = by (test here.sort) (contained test more place declared at passes)
  where
    by : (b : Bool) → Contains (filter_map (named_so test) more) declared.name
        → Contains (cons_option (if b then Some here.name else None) (filter_map (named_so test) more)) declared.name
    by true rest = (suc rest.0, (let less : rest.0 < length (filter_map (named_so test) more) = rest.1 in omega arith), rest.2)
    by false rest = rest

-- the name of an object: it has no mark, and stands in the scope or has a point
pub record IsOfObject (facts : Facts) (name : List ℕ) : Type 0 where
  pub unmarked : is_marked name ≡ false
  pub own : Contains (texts_of facts 2) name ⊎ (has_point name ≡ true)

module _ (facts : Facts) (names : facts.names ≡ scope_names facts.program) (all_fine : All IsFineDecl facts.program) (fine : all_faults facts ≡ []) where
  -- each name there is a name
  pub scope_name : (entry : ℕ) (declared : Declared) → slice_get facts.names entry ≡ Some declared → IsName declared.name
  scope_name entry declared at =
      let found = declared_in facts.program entry declared (sym (ap (λ (some : List Declared). slice_get some entry) names) ∙ at) in
      found.fine (item_all IsFineDecl facts.program declared.place.decl found.decl all_fine found.there)

  kept_names : (test : Sort → Bool) (some : List Declared) → ((place : ℕ) (declared : Declared) → slice_get some place ≡ Some declared → IsName declared.name)
      → AllByRecursion IsName (filter_map (named_so test) some)
  kept_names test [] each = tt
  kept_names test (here ∷ more) each =
      by (test here.sort) (kept_names test more (λ place declared at. each (suc place) declared at))
    where
      by : (b : Bool) → AllByRecursion IsName (filter_map (named_so test) more)
          → AllByRecursion IsName (cons_option (if b then Some here.name else None) (filter_map (named_so test) more))
      by true rest = (each 0 here refl, rest)
      by false rest = rest

  pub are_names : (test : Sort → Bool) → All IsName (filter_map (named_so test) facts.names)
  are_names test = All-from_recursion IsName (filter_map (named_so test) facts.names) (kept_names test facts.names scope_name)

  -- a name of one sort is none of another
  pub no_other : (one two : Sort → Bool) → ((sort : Sort) → one sort ≡ true → is_class_sort sort ≡ false)
      → ((sort : Sort) → two sort ≡ true → is_class_sort sort ≡ false) → ((sort : Sort) → one sort ≡ true → two sort ≡ true → ⊥) → (name : List ℕ)
      → Contains (filter_map (named_so one) facts.names) name → Contains (filter_map (named_so two) facts.names) name → ⊥
  no_other one two first second apart name here there =
      let P : List ℕ → Type 0 = λ each. AllByRecursion (λ other. each ≢ other) (filter_map (named_so two) facts.names) in
      let own : P name = All-contains P (filter_map (named_so one) facts.names) name
      (All-from_recursion P (filter_map (named_so one) facts.names) (cross_so facts fine one two first second apart 0 facts.names (whole facts fine))) here in
      All-contains (λ other. name ≢ other) (filter_map (named_so two) facts.names) name
      (All-from_recursion (λ other. name ≢ other) (filter_map (named_so two) facts.names) own) there refl

  pub codes_apart : (one other : ℕ) → one < 3 → other < 3 → (one ≡ other → ⊥) → (name : List ℕ) → Contains (texts_of facts one) name
      → Contains (texts_of facts other) name → ⊥
  codes_apart one other less few differ =
      no_other (of_code one) (of_code other) (no_class one less) (no_class other few) (codes_differ one other differ)

  -- none is the language's own
  pub not_own : (test : Sort → Bool) (name : List ℕ) → Contains (filter_map (named_so test) facts.names) name → Contains builtin_names name → ⊥
  not_own test name here there =
      let P : List ℕ → Type 0 = λ each. AllByRecursion (λ word. each ≢ word) builtin_names in
      let own : P name = All-contains P (filter_map (named_so test) facts.names) name
      (All-from_recursion P (filter_map (named_so test) facts.names) (so_not_builtin facts fine test 0 facts.names (whole facts fine))) here in
      All-contains (λ word. name ≢ word) builtin_names name (All-from_recursion (λ word. name ≢ word) builtin_names own) there refl

  -- ---- globals and roots

  global_given : (world : World) (number before : ℕ) (decl : Decl) (variable : VarDecl) → declared_global world decl ≡ Some variable
      → filter_map (named_so (of_code 0)) (names_in_decl number before decl) ≡ variable.name ∷ []
  global_given world number before (decls.Variable one) variable is = outer (is_global_sort (sort_of_variable one)) refl is
    where
      inner : (o : Option TypeMeaning) → option_map (global_with world one) o ≡ Some variable → is_global_sort (sort_of_variable one) ≡ true
          → filter_map (named_so (of_code 0)) (declared_as number one.name (sort_of_variable one) ∷ []) ≡ variable.name ∷ []
      inner None given sort = absurd (none-some variable given)
      inner (Some meaning) given sort =
          ap (λ (b : Bool). cons_option (if b then Some one.name.text else None) []) (global_code (sort_of_variable one) sort)
          ∙ ap (λ (v : VarDecl). v.name ∷ []) (same_Some (global_with world one meaning) variable given)

      outer : (b : Bool) → is_global_sort (sort_of_variable one) ≡ b → (if b then typed_global world one else None) ≡ Some variable
          → filter_map (named_so (of_code 0)) (declared_as number one.name (sort_of_variable one) ∷ []) ≡ variable.name ∷ []
      outer true sort given = inner (fine_meaning world.facts one.declared) given sort
      outer false sort given = absurd (none-some variable given)
  global_given world number before decl variable is = absurd (none-some variable is)

  pub globals_within : (world : World) → IsWithin (map (λ (variable : VarDecl). variable.name) (declared_globals world facts.program)) (texts_of facts 0)
  globals_within world =
      let P : List Declared → Type 0 = λ some.
      IsWithin (map (λ (variable : VarDecl). variable.name) (declared_globals world facts.program)) (filter_map (named_so (of_code 0)) some) in
      subst P (sym names) (given_within (declared_global world) (λ (variable : VarDecl). variable.name) (of_code 0) (global_given world) 0 0 facts.program)

  label_given : (outside : Outsides) (number before : ℕ) (decl : Decl) (root : Root) → posted_root outside decl ≡ Some root
      → filter_map (named_so (of_code 1)) (names_in_decl number before decl) ≡ root.label ∷ []
  label_given outside number before (decls.Ask ask) root is = outer (is_posting_word ask.word.text) is
    where
      last : (pred : ℕ) (base : Base) → root_with_base ask pred base ≡ Some root → ask.label.text ∷ [] ≡ root.label ∷ []
      last pred Void given = absurd (none-some root given)
      last pred (Given domain) given =
          ap (λ (r : Root). r.label ∷ [])
          (same_Some (record { label = ask.label.text; kind = root_kind ask.word.text; pred = pred; object = domain }) root given)

      inner : (wanted : Wanted) (o : Option ℕ)
          → option_and_then (λ (pred : ℕ). root_with_base ask pred (root_base outside.reading.lexicon pred wanted.object)) o ≡ Some root
          → ask.label.text ∷ [] ≡ root.label ∷ []
      inner wanted None given = absurd (none-some root given)
      inner wanted (Some pred) given = last pred (root_base outside.reading.lexicon pred wanted.object) given

      outer : (b : Bool) → (if b then root_of_wanted outside.reading.lexicon ask (root_wanted outside ask.path) else None) ≡ Some root
          → filter_map (named_so (of_code 1)) (if b then declared_as number ask.label sorts.Root ∷ [] else []) ≡ root.label ∷ []
      outer true given = inner (root_wanted outside ask.path) (root_wanted outside ask.path).pred given
      outer false given = absurd (none-some root given)
  label_given outside number before decl root is = absurd (none-some root is)

  pub labels_within : (outside : Outsides) → IsWithin (map (λ (root : Root). root.label) (posted_roots outside facts.program)) (texts_of facts 1)
  labels_within outside =
      let P : List Declared → Type 0 = λ some.
      IsWithin (map (λ (root : Root). root.label) (posted_roots outside facts.program)) (filter_map (named_so (of_code 1)) some) in
      subst P (sym names) (given_within (posted_root outside) (λ (root : Root). root.label) (of_code 1) (label_given outside) 0 0 facts.program)

  -- what is within such names is one of them, and differs from all others there
  pub within_scope : (code : ℕ) (some : List (List ℕ)) → IsWithin some (texts_of facts code) → All (Contains (texts_of facts code)) some
  within_scope code some has =
      All-from_recursion (Contains (texts_of facts code)) some
      (within_all (Contains (texts_of facts code)) some (texts_of facts code) has
      (recursion_from_All (Contains (texts_of facts code)) (texts_of facts code) (All-contains_itself (texts_of facts code))))

  pub once_scope : (code : ℕ) → code < 3 → (some : List (List ℕ)) → IsWithin some (texts_of facts code) → AreOnce some
  once_scope code few some has =
      within_once some (texts_of facts code) has (once_so facts fine (of_code code) (no_class code few) 0 facts.names (whole facts fine))

  -- ---- objects

  called_own : (name : List ℕ) → IsCalled facts name → Contains (texts_of facts 2) name ⊎ (has_point name ≡ true)
  called_own name is = elim is.own [
    | inl declared ↦ inl (subst (Contains (texts_of facts 2)) declared.same
        (contained (of_code 2) facts.names declared.entry declared.declared declared.there (made_code declared.declared.sort declared.sort)))
    | inr nested ↦ inr (ap has_point nested.same ∙ full_point nested.outer nested.inner)
  ]

  called_so : (name : List ℕ) → IsCalled facts name → IsOfObject facts name
  called_so name is = record {
    unmarked = ap is_marked is.path.3 ∙ path_unmarked is.path.0 is.path.1 is.path.2;
    own = called_own name is;
  }

  pub objects_called : (some : List MadeObject) → All (IsNamedObject facts) some → All (λ (object : MadeObject). IsOfObject facts object.name) some
  objects_called some all =
      All-weaker (IsNamedObject facts) (λ (object : MadeObject). IsOfObject facts object.name) (λ object named. called_so object.name named.name) some all

  -- a name in the scope is no name behind another, and no marked one
  pub scope_plain : (test : Sort → Bool) (name : List ℕ) → Contains (filter_map (named_so test) facts.names) name
      → (has_point name ≡ false) × (is_marked name ≡ false)
  scope_plain test name there =
      let is = All-contains IsName (filter_map (named_so test) facts.names) name (are_names test) there in
      (name_pointless name is, name_unmarked name is)
