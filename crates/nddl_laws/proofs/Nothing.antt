-- Where there is no fault at all, there is none in a part.
use Rattle.std.proofs.Common.{◌≡◌, List, [], ◌∷◌, ◌++◌, refl}
use Rattle.nddl_symbols.specs.Scope.{second_name_faults}
use Rattle.nddl_hierarchy.specs.Facts.{Facts}
use Rattle.nddl_hierarchy.specs.Lines.{circle_faults}
use Rattle.nddl_declarations.specs.Faults.{all_faults, decls_faults}

-- a list without items has two parts without
pub none_first : {X : Type 0} (xs ys : List X) → xs ++ ys ≡ [] → xs ≡ []
none_first [] ys none = refl
none_first (x ∷ xs) ys none = absurd (let e : x ∷ (xs ++ ys) ≡ [] = none in cc)

pub none_second : {X : Type 0} (xs ys : List X) → xs ++ ys ≡ [] → ys ≡ []
none_second [] ys none = none
none_second (x ∷ xs) ys none = absurd (let e : x ∷ (xs ++ ys) ≡ [] = none in cc)

-- nothing is wrong with any of the declarations
pub decls_fine : (facts : Facts) → all_faults facts ≡ [] → decls_faults facts 0 facts.program ≡ []
decls_fine facts fine =
    let names = second_name_faults facts.names 0 facts.names in
    let circles = circle_faults facts.names facts.marked 0 facts.names in
    none_second circles (decls_faults facts 0 facts.program) (none_second names (circles ++ decls_faults facts 0 facts.program) fine)
