-- What stands next on the lines, one thing after another along a lineage.
use Rattle.std.proofs.Common.{◌≡◌, ℕ, zero, suc, ◌+◌, ◌<◌, ◌≤◌, Bool, true, false, cond, List, [], ◌∷◌, length, length-set, map, ◌⊎◌, inl, inr, refl, sym, ◌∙◌, ap, subst, arith}
use Rattle.std.specs.Prelude.{◌||◌, Option, Some, None, slice_get, slice_set, if◌then◌else◌}
use Rattle.std.specs.List.{filter}
use Rattle.std.specs.Option.{option_and_then, option_map_or}
use Rattle.std.proofs.lemmas.Bool.{cases_lt}
use Rattle.std.proofs.lemmas.Option.{same_Some, slice_get_within}
use Rattle.eu_forest.specs.declared.lineage.Rootedness.{Rootedness}
use Rattle.eu_forest.specs.declared.lineage.Rootedness.TheVariants as how
use Rattle.eu_forest.specs.declared.walk.Mark.{Mark}
use Rattle.eu_forest.specs.Lines.{IsLineageOf, LeadsUp, ParentsComeFirst, StandsUnder, rootedness_in}
use Rattle.eu_forest.proofs.Lists.{get-set_same, get-set_other}
use Rattle.eu_forest.proofs.Marking.{equal_or_not}
use Rattle.nddl_ast.specs.declared.declaration.Decl.{Decl}
use Rattle.nddl_symbols.specs.declared.declared.Declared.{Declared}
use Rattle.nddl_symbols.specs.Scope.{meaning_of}
use Rattle.eu_forest.specs.Ancestors.{line_from, parent_in}
use Rattle.nddl_hierarchy.specs.Decls.{class_parent, decl_members, declaration_with_body}
use Rattle.nddl_hierarchy.specs.Lines.{is_rooted}
use Rattle.nddl_hierarchy.specs.Shorter.{AreShorterFor, adds_body, adds_declared, adds_members, builds, builds_body, builds_declared, has_constructor, has_named, is_builtin_class, passed_over}
use Rattle.eu_forest.proofs.Ways.{ancestry_is, line_of_none, no_parent_is, parent_is, short_way}
use Rattle.eu_forest.specs.Members.{is_marked}

-- ---- marks

marked_map : {X : Type 0} (f : X → Bool) (xs : List X) (entry : ℕ) → is_marked (map f xs) entry ≡ option_map_or f (slice_get xs entry) false
marked_map f [] entry = refl
marked_map f (x ∷ xs) zero = refl
marked_map f (x ∷ xs) (suc entry) = marked_map f xs entry

adds_at : (names : List Declared) (program : List Decl) (entry : ℕ)
    → option_map_or (adds_declared names program) (slice_get names entry) false ≡ adds_members names program entry
unfolding adds_members
adds_at names program entry = by (slice_get names entry)
  where
    of_body : (body : Option Decl) → option_map_or (adds_body names) body false
        ≡ (has_named (option_map_or decl_members body []) || is_builtin_class (option_and_then (λ name. meaning_of names name.text) (option_and_then class_parent body)))
    of_body None = refl
    of_body (Some body) = refl

    by : (slot : Option Declared) → option_map_or (adds_declared names program) slot false
        ≡ (has_named (option_map_or decl_members (option_and_then (declaration_with_body names program) slot) [])
        || is_builtin_class (option_and_then (λ declared. option_and_then (λ name. meaning_of names name.text)
        (option_and_then class_parent (declaration_with_body names program declared))) slot))
    by None = refl
    by (Some declared) = of_body (declaration_with_body names program declared)

builds_at : (names : List Declared) (program : List Decl) (entry : ℕ)
    → option_map_or (builds_declared names program) (slice_get names entry) false ≡ builds names program entry
unfolding builds
builds_at names program entry = by (slice_get names entry)
  where
    of_body : (body : Option Decl) → option_map_or builds_body body false ≡ has_constructor (option_map_or decl_members body [])
    of_body None = refl
    of_body (Some body) = refl

    by : (slot : Option Declared) → option_map_or (builds_declared names program) slot false
        ≡ has_constructor (option_map_or decl_members (option_and_then (declaration_with_body names program) slot) [])
    by None = refl
    by (Some declared) = of_body (declaration_with_body names program declared)

-- lines are shorter by any test that says the same
shorter_by : (test other : ℕ → Bool) (parents : List (Option ℕ)) (marked : List Mark) (short : List (Option ℕ))
    → ((entry : ℕ) → test entry ≡ other entry) → AreShorterFor test parents marked short → AreShorterFor other parents marked short
shorter_by test other parents marked short same shorter =
    let tests : test ≡ other = λ i entry. same entry i in
    let P : (ℕ → Bool) → Type 0 = λ some. AreShorterFor some parents marked short in
    subst P tests shorter

-- each class is marked as it is declared
pub adding_shorter : (names : List Declared) (program : List Decl) (marks : List Bool) (parents : List (Option ℕ)) (marked : List Mark)
    (short : List (Option ℕ)) → marks ≡ map (adds_declared names program) names
    → AreShorterFor (is_marked marks) parents marked short → AreShorterFor (adds_members names program) parents marked short
adding_shorter names program marks parents marked short are =
    shorter_by (is_marked marks) (adds_members names program) parents marked short
    (λ entry. ap (λ some. is_marked some entry) are ∙ (marked_map (adds_declared names program) names entry ∙ adds_at names program entry))

pub building_shorter : (names : List Declared) (program : List Decl) (marks : List Bool) (parents : List (Option ℕ)) (marked : List Mark)
    (short : List (Option ℕ)) → marks ≡ map (builds_declared names program) names
    → AreShorterFor (is_marked marks) parents marked short → AreShorterFor (builds names program) parents marked short
building_shorter names program marks parents marked short are =
    shorter_by (is_marked marks) (builds names program) parents marked short
    (λ entry. ap (λ some. is_marked some entry) are ∙ (marked_map (builds_declared names program) names entry ∙ builds_at names program entry))

-- ---- one thing after another

-- those that come first in the order, so many, have what stands next on their lines
pub record ArePassed (test : ℕ → Bool) (parents : List (Option ℕ)) (order : List ℕ) (count : ℕ) (short : List (Option ℕ)) : Type 0 where
  pub long : length short ≡ length parents
  pub passed : (place entry : ℕ) → place < count → slice_get order place ≡ Some entry
      → parent_in short entry ≡ passed_over test short (parent_in parents entry)

pub none_passed : (test : ℕ → Bool) (parents : List (Option ℕ)) (order : List ℕ) (short : List (Option ℕ)) → short ≡ parents
    → ArePassed test parents order 0 short
none_passed test parents order short same = record { long = ap length same; passed = λ place entry less is. absurd (omega arith) }

module _ (test : ℕ → Bool) (parents : List (Option ℕ)) (order : List ℕ) (ordered : ParentsComeFirst parents order) where
  -- what a thing of the order stands under comes before it
  comes_before : (place entry parent : ℕ) → slice_get order place ≡ Some entry → parent_in parents entry ≡ Some parent
      → (earlier : ℕ) × (earlier < place) × (slice_get order earlier ≡ Some parent)
  comes_before place entry parent is under = ordered place entry parent is (by (slice_get parents entry) refl under)
    where
      by : (slot : Option (Option ℕ)) → slice_get parents entry ≡ slot → option_and_then (λ (p : Option ℕ). p) slot ≡ Some parent → StandsUnder parents entry parent
      by None read e = absurd (cc)
      by (Some next) read e = read ∙ ap (λ o. Some o) e

  -- where those that come before are as they were, what is passed over is so too
  passed_same : (short other : List (Option ℕ)) (next : Option ℕ) → ((parent : ℕ) → next ≡ Some parent → parent_in other parent ≡ parent_in short parent)
      → passed_over test other next ≡ passed_over test short next
  passed_same short other None same = refl
  passed_same short other (Some parent) same = ap (λ rest. if test parent then Some parent else rest) (same parent refl)

  module _ (count entry : ℕ) (short : List (Option ℕ)) (here : slice_get order count ≡ Some entry) (inside : entry < length parents)
      (so_far : ArePassed test parents order count short) where
    abbrev next : Option ℕ
    next = passed_over test short (parent_in parents entry)

    abbrev more : List (Option ℕ)
    more = slice_set short entry next

    written : parent_in more entry ≡ next
    written = ap (option_and_then (λ (p : Option ℕ). p)) (get-set_same short entry next (let long = so_far.long in omega arith))

    -- those that were dealt with are as they were
    kept : (place other : ℕ) → place < count → slice_get order place ≡ Some other → parent_in more other ≡ parent_in short other
    kept place other less is = by (equal_or_not other entry)
      where
        by : (other ≡ entry) ⊎ (other ≡ entry → ⊥) → parent_in more other ≡ parent_in short other
        by (inl same) =
            let was = so_far.passed place other less is in
            ap (parent_in more) same ∙ (written ∙ (ap (λ n. passed_over test short (parent_in parents n)) (sym same) ∙ sym was))
        by (inr differs) = ap (option_and_then (λ (p : Option ℕ). p)) (get-set_other short entry other next differs)

    passed_here : (place other : ℕ) → place ≤ count → slice_get order place ≡ Some other
        → passed_over test more (parent_in parents other) ≡ passed_over test short (parent_in parents other)
    passed_here place other most is =
        passed_same short more (parent_in parents other) (λ parent under.
        let before = comes_before place other parent is under in kept before.0 parent (let less : before.0 < place = before.1 in omega arith) before.2)

    pub passes_on : ArePassed test parents order (count + 1) more
    passes_on = record {
      long = length-set short entry next ∙ so_far.long;
      passed = λ place other less is. by place other is (cases_lt place count) less;
    }
      where
        by : (place other : ℕ) → slice_get order place ≡ Some other → (place < count) ⊎ (count ≤ place) → place < count + 1
            → parent_in more other ≡ passed_over test more (parent_in parents other)
        by place other is (inl before) less =
            kept place other before is ∙ (so_far.passed place other before is ∙ sym (passed_here place other (omega arith) is))
        by place other is (inr most) less =
            let at : place ≡ count = omega arith in
            let same : other ≡ entry = same_Some other entry (sym is ∙ (ap (slice_get order) at ∙ here)) in
            ap (parent_in more) same
            ∙ (written ∙ (ap (λ n. passed_over test short (parent_in parents n)) (sym same) ∙ sym (passed_here place other (omega arith) is)))

  -- ---- lines

  module _ (count : ℕ) (short : List (Option ℕ)) (whole : length order ≤ count) (all : ArePassed test parents order count short) where
    here_passed : (place entry : ℕ) → slice_get order place ≡ Some entry → parent_in short entry ≡ passed_over test short (parent_in parents entry)
    here_passed place entry is =
        all.passed place entry (let less : place < length order = slice_get_within order place entry is in omega arith) is

    -- with levels enough the same things of the line pass as of the way up
    lines : (levels place number : ℕ) (path : List ℕ) (root : ℕ) → slice_get order place ≡ Some number → LeadsUp parents number path root
        → slice_get parents root ≡ Some None → length (number ∷ path) ≤ levels
        → filter test (line_from levels short (Some number)) ≡ filter test (number ∷ path)
    lines zero place number path root is leads ends enough = absurd (omega arith)
    lines (suc levels) place number [] root is leads ends enough =
        let none = no_parent_is parents number (let P : ℕ → Type 0 = λ n. slice_get parents n ≡ Some None in subst P leads ends) in
        let last = here_passed place number is ∙ ap (passed_over test short) none in
        ap (λ rest. filter test (number ∷ rest)) (ap (line_from levels short) last ∙ line_of_none short levels)
    lines (suc levels) place number (parent ∷ path) root is leads ends enough =
        ap (λ rest. cond (test number) (number ∷ rest) rest)
        (by (test parent) refl
        (lines levels before.0 parent path root before.2 leads.1 ends (omega arith))
        (lines (suc levels) before.0 parent path root before.2 leads.1 ends (omega arith)))
      where
        under : parent_in parents number ≡ Some parent
        under = parent_is parents number parent leads.0

        before : (earlier : ℕ) × (earlier < place) × (slice_get order earlier ≡ Some parent)
        before = comes_before place number parent is under

        by : (passes : Bool) → test parent ≡ passes
            → filter test (line_from levels short (Some parent)) ≡ filter test (parent ∷ path)
            → filter test (line_from (suc levels) short (Some parent)) ≡ filter test (parent ∷ path)
            → filter test (line_from levels short (parent_in short number)) ≡ filter test (parent ∷ path)
        by true passes one more =
            let next = here_passed place number is ∙ (ap (passed_over test short) under
            ∙ ap (λ b. if b then Some parent else parent_in short parent) passes) in
            ap (λ o. filter test (line_from levels short o)) next ∙ one
        by false passes one more =
            let next = here_passed place number is ∙ (ap (passed_over test short) under
            ∙ ap (λ b. if b then Some parent else parent_in short parent) passes) in
            ap (λ o. filter test (line_from levels short o)) next
            ∙ (sym (ap (λ b. cond b (parent ∷ filter test (line_from levels short (parent_in short parent)))
            (filter test (line_from levels short (parent_in short parent)))) passes) ∙ more)

    pub all_shorter : (marked : List Mark) → IsLineageOf parents marked order → AreShorterFor test parents marked short
    all_shorter marked lineage entry rooted =
        let place = lineage.whole entry (by (rootedness_in marked entry) rooted) in
        let is = lineage.sound place.0 entry place.1 in
        let way = short_way parents entry is.path is.root is.leads is.ends in
        lines (length short) place.0 entry is.path is.root place.1 is.leads is.ends (let long = all.long in omega arith)
        ∙ ap (filter test) (sym (ancestry_is parents entry is.path is.root is.leads is.ends))
      where
        by : (o : Option Rootedness) → is_rooted o ≡ true → o ≡ Some how.Rooted
        by None e = absurd (cc)
        by (Some how.Rooted) e = refl
        by (Some how.OnCircle) e = absurd (cc)
        by (Some how.Leading) e = absurd (cc)
