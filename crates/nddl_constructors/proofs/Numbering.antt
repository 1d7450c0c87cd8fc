-- Formals by their numbers.
use Rattle.std.proofs.Common.{◌≡◌, ℕ, ◌+◌, Bool, cond, List, [], ◌∷◌, map, Option, Some, refl, sym, ap, ◌∙◌}
use Rattle.std.specs.List.{position_from}
use Rattle.std.specs.Str.{bytes_eq}
use Rattle.nddl_ast.specs.declared.declaration.Typed.{Typed}
use Rattle.eu_index.specs.Index.{Noted, noted_number}
use Rattle.nddl_hierarchy.specs.Facts.{Facts}
use Rattle.nddl_resolve.specs.declared.denoted.Seen.{Seen}
use Rattle.nddl_constructors.specs.Formals.{AreNumbered, formal_number, formal_seen, typed_number}

abbrev pub is_typed_named : List ℕ → Typed → Bool
is_typed_named name typed = bytes_eq name typed.name.text

-- the number of the first of these of this name, where the first of all has this number
abbrev number_from : ℕ → List Typed → List ℕ → Option ℕ
number_from number formals name = position_from (is_typed_named name) number formals

-- what formals mean goes by the same names
same_number : (facts : Facts) (name : List ℕ) (number : ℕ) (formals : List Typed)
    → number_from number formals name ≡ position_from (λ formal. bytes_eq name formal.name) number (map (formal_seen facts) formals)
same_number facts name number [] = refl
same_number facts name number (typed ∷ more) =
    ap (λ rest. cond (bytes_eq name typed.name.text) (Some number) rest) (same_number facts name (number + 1) more)

pub numbered : (facts : Facts) (formals : List Typed) (seen : List Seen) (numbers : Noted)
    → seen ≡ map (formal_seen facts) formals → ((name : List ℕ) → noted_number numbers name ≡ typed_number formals name)
    → AreNumbered seen numbers
numbered facts formals seen numbers seen_is noted = λ name.
    noted name ∙ (same_number facts name 0 formals ∙ ap (λ some. formal_number some name) (sym seen_is))
