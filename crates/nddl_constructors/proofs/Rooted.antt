-- The built-in class that a class leads up to is what the last class of its line extends.
use Rattle.std.proofs.Common.{◌≡◌, ℕ, true, List, [], ◌∷◌, sym, ◌∙◌, ap, subst}
use Rattle.std.specs.Prelude.{Option, Some, None, slice_get}
use Rattle.eu_forest.specs.Lines.{LeadsUp}
use Rattle.nddl_ast.specs.declared.declaration.Decl.{Decl}
use Rattle.nddl_symbols.specs.declared.declared.Declared.{Declared}
use Rattle.nddl_symbols.specs.Scope.{is_class_at}
use Rattle.nddl_hierarchy.specs.Ancestors.{above}
use Rattle.eu_forest.specs.Ancestors.{ancestry}
use Rattle.nddl_hierarchy.specs.Lines.{parents_of}
use Rattle.nddl_hierarchy.proofs.Extending.{on_the_way}
use Rattle.eu_forest.proofs.Ways.{ancestry_is}
use Rattle.nddl_constructors.specs.Wants.{builtin_along, builtin_or}

module _ (names : List Declared) (program : List Decl) where
  on_way : (entry : ℕ) (path : List ℕ) (root : ℕ) → is_class_at names entry ≡ true → LeadsUp (parents_of names program) entry path root
      → slice_get (parents_of names program) root ≡ Some None → builtin_or 0 (above names program root) ≡ builtin_along names program (entry ∷ path)
  on_way entry [] root class leads ends = ap (λ n. builtin_or 0 (above names program n)) leads
  on_way entry (parent ∷ path) root class leads ends =
      let next = on_the_way names program entry parent path root class leads ends in
      on_way parent path root next.1 leads.1 ends ∙ ap (builtin_or (builtin_along names program (parent ∷ path))) (sym next.0)

-- the same, where the things stand under what they stand under in the program
pub builtin_rooted : (names : List Declared) (program : List Decl) (parents : List (Option ℕ)) (entry : ℕ) (path : List ℕ) (root : ℕ)
    → parents ≡ parents_of names program → is_class_at names entry ≡ true → LeadsUp parents entry path root
    → slice_get parents root ≡ Some None → builtin_or 0 (above names program root) ≡ builtin_along names program (ancestry parents entry)
builtin_rooted names program parents entry path root are class leads ends =
    let P : List (Option ℕ) → Type 0 = λ list. LeadsUp list entry path root in
    let Q : List (Option ℕ) → Type 0 = λ list. slice_get list root ≡ Some None in
    on_way names program entry path root class (subst P are leads) (subst Q are ends)
    ∙ ap (builtin_along names program) (sym (ancestry_is parents entry path root leads ends))
