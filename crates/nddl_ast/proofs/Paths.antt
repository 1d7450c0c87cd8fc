-- The parts of a path whose last name is known.
use Rattle.std.proofs.Common.{◌≡◌, List, [], ◌∷◌, ◌++◌, length, refl, ◌∙◌, ap, arith}
use Rattle.std.specs.Prelude.{Some, None}
use Rattle.nddl_ast.specs.declared.name.Name.{Name}
use Rattle.nddl_ast.specs.Path.{last_in_path, all_but_last, path_until}

pub last_behind : (first name : Name) (names rest : List Name) → names ≡ rest ++ name ∷ [] → last_in_path first names ≡ name
last_behind first name names rest is = ap (last_in_path first) is ∙ behind first rest where
  behind : (first : Name) (rest : List Name) → last_in_path first (rest ++ name ∷ []) ≡ name
  behind first [] = refl
  behind first (next ∷ rest) = behind next rest

all_before : (first name : Name) (rest : List Name) → all_but_last first (rest ++ name ∷ []) ≡ first ∷ rest
all_before first name [] = refl
all_before first name (next ∷ rest) = ap (λ more. first ∷ more) (all_before next name rest)

until : (first name : Name) (rest : List Name) → path_until first (rest ++ name ∷ []) ≡ Some (record { first = first; rest = rest })
until first name [] = refl
until first name (next ∷ rest) = ap (λ (names : List Name). Some (record { first = first; rest = names })) (all_before next name rest)

pub path_behind : (first name : Name) (names rest : List Name) → names ≡ rest ++ name ∷ [] → path_until first names ≡ Some (record { first = first; rest = rest })
path_behind first name names rest is = ap (path_until first) is ∙ until first name rest

pub no_path : (first : Name) (names : List Name) → length names ≡ 0 → (last_in_path first names ≡ first) × (path_until first names ≡ None)
no_path first [] none = (refl, refl)
no_path first (name ∷ names) none = absurd (let never : ⊥ = omega arith in never)
