-- Lists of names of which some are left out.
use Rattle.std.proofs.Common.{◌≡◌, ◌≢◌, ℕ, ◌+◌, ◌⊎◌, inl, inr, Bool, List, [], ◌∷◌, ◌++◌, map, refl, sym, subst}
use Rattle.std.specs.Prelude.{Option, Some, None, ⊤}
use Rattle.std.specs.List.{AllByRecursion, cons_option, filter_map}
use Rattle.std.proofs.lemmas.List.Elements.{filter_map-append}
use Rattle.nddl_ast.specs.declared.declaration.Decl.{Decl}
use Rattle.nddl_symbols.specs.declared.declared.Sort.{Sort}
use Rattle.nddl_symbols.specs.Names.{enums_in_decl, names_from, names_in_decl}
use Rattle.nddl_laws.proofs.Apart.{AreOnce}
use Rattle.nddl_laws.proofs.Named.{named_so}

-- the first list is the second one with some left out
abbrev pub IsWithin : List (List ℕ) → List (List ℕ) → Type 0
IsWithin [] all = ⊤
IsWithin (x ∷ xs) [] = ⊥
IsWithin (x ∷ xs) (y ∷ ys) = ((x ≡ y) × IsWithin xs ys) ⊎ IsWithin (x ∷ xs) ys

pub within_all : (P : List ℕ → Type 0) (some all : List (List ℕ)) → IsWithin some all → AllByRecursion P all → AllByRecursion P some
within_all P [] all has each = tt
within_all P (x ∷ xs) [] has each = absurd has
within_all P (x ∷ xs) (y ∷ ys) has each = elim has [
  | inl here ↦ (subst P (sym here.0) each.0, within_all P xs ys here.1 each.1)
  | inr later ↦ within_all P (x ∷ xs) ys later each.1
]

pub within_once : (some all : List (List ℕ)) → IsWithin some all → AreOnce all → AreOnce some
within_once [] all has once = tt
within_once (x ∷ xs) [] has once = absurd has
within_once (x ∷ xs) (y ∷ ys) has once =
    let P : List ℕ → Type 0 = λ one. AllByRecursion (λ name. one ≢ name) ys in
    elim has [
      | inl here ↦ (within_all (λ name. x ≢ name) xs ys here.1 (subst P (sym here.0) once.0), within_once xs ys here.1 once.1)
      | inr later ↦ within_once (x ∷ xs) ys later once.1
    ]

-- what is within a list is within a longer one
behind : (front some all : List (List ℕ)) → IsWithin some all → IsWithin some (front ++ all)
behind [] some all has = has
behind (y ∷ ys) [] all has = tt
behind (y ∷ ys) (x ∷ xs) all has = inr (behind ys (x ∷ xs) all has)

-- what declarations give of which each has one name of this sort
module _ {X : Type 0} (give : Decl → Option X) (name_of : X → List ℕ) (test : Sort → Bool)
    (each : (number before : ℕ) (decl : Decl) (x : X) → give decl ≡ Some x → filter_map (named_so test) (names_in_decl number before decl) ≡ name_of x ∷ []) where
  given_step : (number before : ℕ) (decl : Decl) (more : List Decl) (rest : List (List ℕ)) (o : Option X) → give decl ≡ o
      → IsWithin (map name_of (filter_map give more)) rest
      → IsWithin (map name_of (cons_option o (filter_map give more))) (filter_map (named_so test) (names_in_decl number before decl) ++ rest)
  given_step number before decl more rest None is has =
      behind (filter_map (named_so test) (names_in_decl number before decl)) (map name_of (filter_map give more)) rest has
  given_step number before decl more rest (Some x) is has =
      let P : List (List ℕ) → Type 0 = λ own. IsWithin (name_of x ∷ map name_of (filter_map give more)) (own ++ rest) in
      subst P (sym (each number before decl x is)) (inl (refl, has))

  pub given_within : (number before : ℕ) (program : List Decl)
      → IsWithin (map name_of (filter_map give program)) (filter_map (named_so test) (names_from number before program))
  given_within number before [] = tt
  given_within number before (decl ∷ more) =
      let own = names_in_decl number before decl in
      let others = names_from (number + 1) (before + enums_in_decl decl) more in
      let P : List (List ℕ) → Type 0 = λ all. IsWithin (map name_of (filter_map give (decl ∷ more))) all in
      subst P (sym (filter_map-append (named_so test) own others))
      (given_step number before decl more (filter_map (named_so test) others) (give decl) refl
      (given_within (number + 1) (before + enums_in_decl decl) more))
