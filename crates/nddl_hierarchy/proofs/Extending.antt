-- Classes along lines that end.
use Rattle.std.proofs.Common.{◌≡◌, ℕ, zero, suc, ◌==◌, ◌||◌, ◌⊎◌, inl, inr, Bool, true, false, List, [], ◌∷◌, ◌++◌, length, map, refl, sym, ◌∙◌, ap, subst}
use Rattle.std.specs.Prelude.{Option, Some, None, slice_get, if◌then◌else◌}
use Rattle.std.specs.List.{list_any}
use Rattle.std.specs.Option.{option_and_then, option_map_or}
use Rattle.std.proofs.lemmas.Option.{same_Some}
use Rattle.eu_forest.specs.Lines.{LeadsUp}
use Rattle.nddl_ast.specs.declared.declaration.Decl.{Decl}
use Rattle.nddl_ast.specs.declared.name.Name.{Name}
use Rattle.nddl_symbols.specs.declared.declared.Declared.{Declared}
use Rattle.nddl_symbols.specs.declared.declared.Sort.{Sort}
use Rattle.nddl_symbols.specs.declared.declared.Sort.TheVariants as sorts
use Rattle.nddl_symbols.specs.declared.scope.Meaning.{Meaning}
use Rattle.nddl_symbols.specs.declared.scope.Meaning.TheVariants as meanings
use Rattle.nddl_symbols.specs.Names.{is_class_sort}
use Rattle.nddl_symbols.specs.Scope.{is_class_at, meaning_of}
use Rattle.nddl_hierarchy.specs.Ancestors.{above, is_under, means}
use Rattle.nddl_hierarchy.specs.Decls.{class_parent, declaration_with_body}
use Rattle.nddl_hierarchy.specs.Lines.{class_under, parents_of, sort_under, under_meaning}
use Rattle.eu_forest.specs.Shortcuts.{EndsAt, TellsLine, is_on_line}
use Rattle.eu_forest.proofs.Ways.{ancestry_is}

-- what a class stands under is what it extends
abbrev Stands : List Declared → Option Meaning → Option ℕ → Type 0
Stands names over under = ((over ≡ None) × (under ≡ None)) ⊎ (under ≡ under_meaning names over)

placed : {A B : Type 0} (f : A → B) (xs : List A) (more : List B) (place : ℕ) (x : A) → slice_get xs place ≡ Some x
    → slice_get (map f xs ++ more) place ≡ Some (f x)
placed f [] more place x is = cc
placed f (y ∷ xs) more zero x is = ap (λ o. Some (f o)) (same_Some y x is)
placed f (y ∷ xs) more (suc place) x is = placed f xs more place x is

behind_all : {A B : Type 0} (f : A → B) (xs : List A) (last : B) → slice_get (map f xs ++ last ∷ []) (length xs) ≡ Some last
behind_all f [] last = refl
behind_all f (x ∷ xs) last = behind_all f xs last

or_false : (b : Bool) → (b || false) ≡ b
or_false true = refl
or_false false = refl

module _ (names : List Declared) (program : List Decl) where
  named_under : (name : Option Name) → Stands names (option_and_then (λ (n : Name). meaning_of names n.text) name) (option_and_then (class_under names) name)
  named_under None = inl (refl, refl)
  named_under (Some name) = inr refl

  class_sort_under : (declared : Declared) (sort : Sort) → is_class_sort sort ≡ true
      → Stands names (option_and_then (λ (n : Name). meaning_of names n.text) (option_and_then class_parent (declaration_with_body names program declared)))
      (sort_under names program declared sort)
  class_sort_under declared sorts.Forward is = named_under (option_and_then class_parent (declaration_with_body names program declared))
  class_sort_under declared sorts.Body is = named_under (option_and_then class_parent (declaration_with_body names program declared))
  class_sort_under declared sorts.Typedef is = absurd (let e : false ≡ true = is in cc)
  class_sort_under declared (sorts.Enum number) is = absurd (let e : false ≡ true = is in cc)
  class_sort_under declared (sorts.Member of place) is = absurd (let e : false ≡ true = is in cc)
  class_sort_under declared sorts.Global is = absurd (let e : false ≡ true = is in cc)
  class_sort_under declared sorts.Object is = absurd (let e : false ≡ true = is in cc)
  class_sort_under declared sorts.Root is = absurd (let e : false ≡ true = is in cc)
  class_sort_under declared sorts.Config is = absurd (let e : false ≡ true = is in cc)

  class_stands : (entry : ℕ) → is_class_at names entry ≡ true
      → (under : Option ℕ) × (slice_get (parents_of names program) entry ≡ Some under) × Stands names (above names program entry) under
  class_stands entry is = by (slice_get names entry) refl is
    where
      by : (o : Option Declared) → slice_get names entry ≡ o → option_map_or (λ other. is_class_sort other.sort) o false ≡ true
          → (under : Option ℕ) × (slice_get (parents_of names program) entry ≡ Some under)
          × Stands names (option_and_then (λ declared. option_and_then (λ (n : Name). meaning_of names n.text)
          (option_and_then class_parent (declaration_with_body names program declared))) o) under
      by None there is = absurd (let e : false ≡ true = is in cc)
      by (Some declared) there is = (
        sort_under names program declared declared.sort,
        placed (λ d. sort_under names program d d.sort) names (Some (length names) ∷ []) entry declared there,
        class_sort_under declared declared.sort is,
      )

  -- what leads up to a root isn't nowhere
  nowhere_is : slice_get (parents_of names program) (length names) ≡ Some (Some (length names))
  nowhere_is = behind_all (λ d. sort_under names program d d.sort) names (Some (length names))

  nowhere_stays : (path : List ℕ) (root : ℕ) → LeadsUp (parents_of names program) (length names) path root → slice_get (parents_of names program) root ≡ Some None → ⊥
  nowhere_stays [] root same ends =
      let P : ℕ → Type 0 = λ n. slice_get (parents_of names program) n ≡ Some None in
      let e : ◌≡◌ {A = Option ℕ} None (Some (length names)) = same_Some None (Some (length names)) (sym (subst P same ends) ∙ nowhere_is) in cc
  nowhere_stays (parent ∷ path) root up ends =
      let e : ◌≡◌ {A = Option ℕ} (Some (length names)) (Some parent) = same_Some (Some (length names)) (Some parent) (sym nowhere_is ∙ up.0) in
      let P : ℕ → Type 0 = λ n. LeadsUp (parents_of names program) n path root in
      nowhere_stays path root (subst P (sym (same_Some (length names) parent e)) up.1) ends

  root_over : (over : Option Meaning) → Stands names over None → (over ≡ None) ⊎ ((number : ℕ) × (over ≡ Some (meanings.BuiltIn number)))
  root_over None stands = inl refl
  root_over (Some (meanings.BuiltIn number)) stands = inr (number, refl)
  root_over (Some (meanings.Entry entry)) stands = absurd (by (is_class_at names entry) (elim stands [
    | inl both ↦ absurd (let e : ◌≡◌ {A = Option Meaning} (Some (meanings.Entry entry)) None = both.0 in cc)
    | inr is ↦ is
  ]))
    where
      by : (b : Bool) → ◌≡◌ {A = Option ℕ} None (if b then Some entry else Some (length names)) → ⊥
      by true is = cc
      by false is = cc

  entry_over : (over : Option Meaning) (parent : ℕ) → Stands names over (Some parent) → (parent ≡ length names → ⊥)
      → (over ≡ Some (meanings.Entry parent)) × (is_class_at names parent ≡ true)
  entry_over over parent stands differs = by over (elim stands [
    | inl both ↦ absurd (let e : ◌≡◌ {A = Option ℕ} (Some parent) None = both.1 in cc)
    | inr is ↦ is
  ])
    where
      at : (entry : ℕ) (b : Bool) → is_class_at names entry ≡ b → Some parent ≡ (if b then Some entry else Some (length names))
          → (Some (meanings.Entry entry) ≡ Some (meanings.Entry parent)) × (is_class_at names parent ≡ true)
      at entry true class is = let same = same_Some parent entry is in (
        ap (λ n. Some (meanings.Entry n)) (sym same),
        (let P : ℕ → Type 0 = λ n. is_class_at names n ≡ true in subst P (sym same) class),
      )
      at entry false class is = absurd (differs (same_Some parent (length names) is))

      by : (over : Option Meaning) → Some parent ≡ under_meaning names over → (over ≡ Some (meanings.Entry parent)) × (is_class_at names parent ≡ true)
      by None is = absurd (differs (same_Some parent (length names) is))
      by (Some (meanings.BuiltIn number)) is = absurd (let e : ◌≡◌ {A = Option ℕ} (Some parent) None = is in cc)
      by (Some (meanings.Entry entry)) is = at entry (is_class_at names entry) refl is

  -- a class at the end of a line extends none of the program
  at_end : (entry : ℕ) → is_class_at names entry ≡ true → slice_get (parents_of names program) entry ≡ Some None → (other : ℕ) → means (meanings.Entry other) (above names program entry) ≡ false
  at_end entry class ends other =
      let found = class_stands entry class in
      let none : found.0 ≡ None = same_Some found.0 None (sym found.1 ∙ ends) in
      let P : Option ℕ → Type 0 = λ o. Stands names (above names program entry) o in
      elim (root_over (above names program entry) (subst P none found.2)) [
        | inl is ↦ ap (means (meanings.Entry other)) is
        | inr is ↦ ap (means (meanings.Entry other)) is.1
      ]

  -- a class that leads up to the end extends what it stands under, which is a class
  pub on_the_way : (entry parent : ℕ) (path : List ℕ) (root : ℕ) → is_class_at names entry ≡ true → LeadsUp (parents_of names program) entry (parent ∷ path) root
      → slice_get (parents_of names program) root ≡ Some None → (above names program entry ≡ Some (meanings.Entry parent)) × (is_class_at names parent ≡ true)
  on_the_way entry parent path root class leads ends =
      let found = class_stands entry class in
      let one : found.0 ≡ Some parent = same_Some found.0 (Some parent) (sym found.1 ∙ leads.0) in
      let P : Option ℕ → Type 0 = λ o. Stands names (above names program entry) o in
      entry_over (above names program entry) parent (subst P one found.2)
      (λ same. let Q : ℕ → Type 0 = λ n. LeadsUp (parents_of names program) n path root in nowhere_stays path root (subst Q same leads.1) ends)

  -- a class is one that it is or extends, on its way
  extends_on_way : (other entry : ℕ) (path : List ℕ) (root : ℕ) → is_class_at names entry ≡ true → LeadsUp (parents_of names program) entry path root
      → slice_get (parents_of names program) root ≡ Some None
      → list_any (λ here. other == here) (entry ∷ path) ≡ ((other == entry) || list_any (λ here. means (meanings.Entry other) (above names program here)) (entry ∷ path))
  extends_on_way other entry [] root class leads ends =
      let P : ℕ → Type 0 = λ n. slice_get (parents_of names program) n ≡ Some None in
      ap (λ b. (other == entry) || (b || false)) (sym (at_end entry class (subst P leads ends) other))
  extends_on_way other entry (parent ∷ path) root class leads ends =
      let next = on_the_way entry parent path root class leads ends in
      let rest = list_any (λ here. means (meanings.Entry other) (above names program here)) (parent ∷ path) in
      ap (λ b. (other == entry) || b) (extends_on_way other parent path root next.1 leads.1 ends)
      ∙ ap (λ b. (other == entry) || (b || rest)) (sym (ap (means (meanings.Entry other)) next.0))

  -- the built-in class that a class is under is what its root extends
  builtin_on_way : (number entry : ℕ) (path : List ℕ) (root : ℕ) → is_class_at names entry ≡ true → LeadsUp (parents_of names program) entry path root
      → slice_get (parents_of names program) root ≡ Some None
      → list_any (λ here. means (meanings.BuiltIn number) (above names program here)) (entry ∷ path) ≡ means (meanings.BuiltIn number) (above names program root)
  builtin_on_way number entry [] root class leads ends =
      or_false (means (meanings.BuiltIn number) (above names program entry)) ∙ ap (λ n. means (meanings.BuiltIn number) (above names program n)) (sym leads)
  builtin_on_way number entry (parent ∷ path) root class leads ends =
      let next = on_the_way entry parent path root class leads ends in
      let rest = list_any (λ here. means (meanings.BuiltIn number) (above names program here)) (parent ∷ path) in
      ap (λ b. b || rest) (ap (means (meanings.BuiltIn number)) next.0)
      ∙ builtin_on_way number parent path root next.1 leads.1 ends

  -- a class whose line ends is under another where that stands on the line
  pub under_entry : (other entry root : ℕ) → is_class_at names entry ≡ true → EndsAt (parents_of names program) entry root
      → is_on_line (parents_of names program) entry other ≡ is_under names program (parents_of names program) (meanings.Entry other) entry
  under_entry other entry root class ends =
      let path = ends.0.0 in
      let P : List ℕ → Type 0 = λ line.
      list_any (λ here. other == here) line ≡ ((other == entry) || list_any (λ here. means (meanings.Entry other) (above names program here)) line) in
      subst P (sym (ancestry_is (parents_of names program) entry path root ends.0.1 ends.1)) (extends_on_way other entry path root class ends.0.1 ends.1)

  -- and under a built-in one where its root extends that, or that is the class of all objects
  pub under_builtin : (number entry root : ℕ) → is_class_at names entry ≡ true → EndsAt (parents_of names program) entry root
      → ((number == 0) || means (meanings.BuiltIn number) (above names program root)) ≡ is_under names program (parents_of names program) (meanings.BuiltIn number) entry
  under_builtin number entry root class ends =
      let path = ends.0.0 in
      let P : List ℕ → Type 0 = λ line.
      ((number == 0) || means (meanings.BuiltIn number) (above names program root)) ≡ ((number == 0) || list_any (λ here. means (meanings.BuiltIn number) (above names program here)) line) in
      subst P (sym (ancestry_is (parents_of names program) entry path root ends.0.1 ends.1))
      (ap (λ b. (number == 0) || b) (sym (builtin_on_way number entry path root class ends.0.1 ends.1)))

-- the same, where the things stand under what they stand under in the program
pub entry_under : (names : List Declared) (program : List Decl) (parents : List (Option ℕ)) (other entry : ℕ) (on : Bool)
    → parents ≡ parents_of names program → is_class_at names entry ≡ true → TellsLine parents entry other on
    → on ≡ is_under names program parents (meanings.Entry other) entry
entry_under names program parents other entry on are class tells =
    let P : List (Option ℕ) → Type 0 = λ list. EndsAt list entry tells.0.0 → is_on_line list entry other ≡ is_under names program list (meanings.Entry other) entry in
    tells.1 ∙ subst P (sym are) (under_entry names program other entry tells.0.0 class) tells.0.1

pub builtin_under : (names : List Declared) (program : List Decl) (parents : List (Option ℕ)) (number entry root : ℕ)
    → parents ≡ parents_of names program → is_class_at names entry ≡ true → EndsAt parents entry root
    → ((number == 0) || means (meanings.BuiltIn number) (above names program root)) ≡ is_under names program parents (meanings.BuiltIn number) entry
builtin_under names program parents number entry root are class ends =
    let P : List (Option ℕ) → Type 0 = λ list. EndsAt list entry root
    → ((number == 0) || means (meanings.BuiltIn number) (above names program root)) ≡ is_under names program list (meanings.BuiltIn number) entry in
    subst P (sym are) (under_builtin names program number entry root class) ends
