-- How a class stands in its line, for proofs that go up a line: nothing above it, a built-in class, or a class of the files.
use Rattle.std.proofs.Common.{◌≡◌, ◌≢◌, ℕ, zero, suc, ◌<◌, List, [], ◌∷◌, ◌++◌, refl, sym, ◌∙◌, ap, subst, arith}
use Rattle.std.specs.Prelude.{Option, Some, None, All, slice_get}
use Rattle.std.specs.List.{AllByRecursion, filter_map, flat_map}
use Rattle.std.proofs.lemmas.List.{append-nil}
use Rattle.std.proofs.lemmas.Option.{same_Some, none-some}
use Rattle.eu_forest.specs.Ancestors.{ancestry}
use Rattle.eu_forest.specs.Lines.{IsRooted, LeadsUp, StandsUnder}
use Rattle.eu_forest.proofs.Ways.{ancestry_is}
use Rattle.nddl_symbols.specs.declared.scope.Meaning.TheVariants as meanings
use Rattle.nddl_symbols.specs.Names.{scope_names}
use Rattle.nddl_hierarchy.specs.Ancestors.{above}
use Rattle.nddl_hierarchy.specs.Decls.{members_of}
use Rattle.nddl_hierarchy.specs.Facts.{Facts}
use Rattle.nddl_declarations.specs.Known.{AreFacts}
use Rattle.nddl_declarations.specs.Faults.{all_faults}
use Rattle.nddl_laws.proofs.Apart.{AreApart, Item, all_both}
use Rattle.nddl_laws.proofs.Declared.{IsRightDecl}
use Rattle.nddl_laws.proofs.Down.{line_alone}
use Rattle.nddl_laws.proofs.Items.{builtin_items, class_items, given_items, items_apart, items_at, items_below, member_item, rooted_of}
use Rattle.nddl_laws.proofs.Standing.{IsClassEntry, class_rooted, class_stands, no_parent, under_builtin, under_class}

-- the fields and predicates that a class adds itself
abbrev pub own_items : Facts → ℕ → List Item
own_items facts entry = filter_map member_item (members_of facts.names facts.program entry)

-- none of the second list is called like one of the first
abbrev pub AreFree : List Item → List Item → Type 0
AreFree xs ys = AllByRecursion (λ (y : Item). AllByRecursion (λ (x : Item). x.1 ≢ y.1) xs) ys

-- a class in its line, where this is known of the class that it extends
pub data Step (facts : Facts) (rest : ℕ → Type 0) (entry : ℕ) : Type 0 where
  stands_top : IsClassEntry facts.names entry → above facts.names facts.program entry ≡ None → ancestry facts.parents entry ≡ entry ∷ []
      → class_items facts entry ≡ own_items facts entry → Step facts rest entry
  stands_over : (number : ℕ) → number < 4 → IsClassEntry facts.names entry → above facts.names facts.program entry ≡ Some (meanings.BuiltIn number)
      → ancestry facts.parents entry ≡ entry ∷ [] → class_items facts entry ≡ builtin_items number ++ own_items facts entry
      → AreFree (builtin_items number) (own_items facts entry) → Step facts rest entry
  stands_under : (other : ℕ) → IsClassEntry facts.names entry → IsClassEntry facts.names other
      → above facts.names facts.program entry ≡ Some (meanings.Entry other)
      → ancestry facts.parents entry ≡ entry ∷ ancestry facts.parents other
      → class_items facts entry ≡ class_items facts other ++ own_items facts entry
      → AreFree (class_items facts other) (own_items facts entry) → rest other → Step facts rest entry

-- a class with its line, of so many classes at most
abbrev pub Lined : Facts → ℕ → ℕ → Type 0
Lined facts zero entry = ⊥
Lined facts (suc levels) entry = Step facts (Lined facts levels) entry

-- ---- what differs

all_behind : {X : Type 0} (P : X → Type 0) (xs ys : List X) → AllByRecursion P (xs ++ ys) → AllByRecursion P ys
all_behind P [] ys all = all
all_behind P (x ∷ xs) ys all = all_behind P xs ys all.1

free_of_none : (ys : List Item) → AreFree [] ys
free_of_none [] = tt
free_of_none (y ∷ ys) = (tt, free_of_none ys)

apart_free : (xs ys : List Item) → AreApart (xs ++ ys) → AreFree xs ys
apart_free [] ys apart = free_of_none ys
apart_free (x ∷ xs) ys apart =
    all_both (λ (y : Item). x.1 ≢ y.1) (λ (y : Item). AllByRecursion (λ (z : Item). z.1 ≢ y.1) xs) ys
    (all_behind (λ (y : Item). x.1 ≢ y.1) xs ys apart.0) (apart_free xs ys apart.1)

-- ---- lines

line_over : (parents : List (Option ℕ)) (number parent : ℕ) → StandsUnder parents number parent → IsRooted parents number
    → ancestry parents number ≡ number ∷ ancestry parents parent
line_over parents number parent under rooted = by rooted.path rooted.leads
  where
    by : (path : List ℕ) → LeadsUp parents number path rooted.root → ancestry parents number ≡ number ∷ ancestry parents parent
    by [] leads =
        let P : ℕ → Type 0 = λ n. slice_get parents n ≡ Some None in
        let none = subst P leads rooted.ends in
        absurd (none-some parent (same_Some None (Some parent) (sym none ∙ under)))
    by (next ∷ path) leads =
        let same : next ≡ parent = same_Some next parent (same_Some (Some next) (Some parent) (sym leads.0 ∙ under)) in
        let P : ℕ → Type 0 = λ n. LeadsUp parents n path rooted.root in
        let up = subst P same leads.1 in
        ancestry_is parents number (next ∷ path) rooted.root leads rooted.ends
        ∙ (ap (λ n. number ∷ n ∷ path) same ∙ ap (λ (rest : List ℕ). number ∷ rest) (sym (ancestry_is parents parent path rooted.root up rooted.ends)))

module _ (facts : Facts) (are : AreFacts (scope_names facts.program) facts.program facts) (fine : all_faults facts ≡ [])
    (right : All (IsRightDecl facts) facts.program) where
  items_alone : (entry : ℕ) → slice_get facts.parents entry ≡ Some None → class_items facts entry ≡ items_at facts entry
  items_alone entry none = ap (flat_map (items_at facts)) (line_alone facts.parents entry none) ∙ append-nil (items_at facts entry)

  lined_upto : (count place entry : ℕ) → place < count → slice_get are.order place ≡ Some entry → IsClassEntry facts.names entry → Lined facts count entry
  lined_upto zero place entry below at is = absurd (omega arith)
  lined_upto (suc count) place entry below at is = elim (class_stands facts are fine entry is) [
    | no_parent up none ↦
        stands_top is up (ancestry_is facts.parents entry [] entry refl none)
        (items_alone entry none ∙ ap (λ m. given_items m ++ own_items facts entry) up)
    | under_builtin number few up none ↦
        (let items : class_items facts entry ≡ builtin_items number ++ own_items facts entry =
        items_alone entry none ∙ ap (λ m. given_items m ++ own_items facts entry) up in
        stands_over number few is up (ancestry_is facts.parents entry [] entry refl none) items
        (apart_free (builtin_items number) (own_items facts entry) (subst AreApart items (items_apart facts are fine right entry is))))
    | under_class other up stands class first decl declared there body ↦
        (let earlier = are.lineage.ordered place entry other at stands in
        let items : class_items facts entry ≡ class_items facts other ++ own_items facts entry = items_below facts are fine right entry other is up stands in
        stands_under other is class up (line_over facts.parents entry other stands (rooted_of facts are fine right entry is stands)) items
        (apart_free (class_items facts other) (own_items facts entry) (subst AreApart items (items_apart facts are fine right entry is)))
        (lined_upto count earlier.0 other (let less : earlier.0 < place = earlier.1 in omega arith) earlier.2 class))
  ]

  -- each class of a program with which nothing is wrong has a line
  pub lined : (entry : ℕ) → IsClassEntry facts.names entry → (levels : ℕ) × Lined facts levels entry
  lined entry is =
      let place = are.lineage.whole entry (class_rooted facts are fine entry is) in
      (suc place.0, lined_upto (suc place.0) place.0 entry (omega arith) place.1 is)
