-- Names that are seen, and pairs of a name and what it means.
use Rattle.std.proofs.Common.{◌≡◌, ℕ, zero, suc, List, [], ◌∷◌, ◌++◌, length, take, refl, ap, ◌∙◌}
use Rattle.std.specs.Option.{option_or}
use Rattle.std.proofs.lemmas.List.{map-append}
use Rattle.eu_index.specs.Hiding.{Meant, last_meaning, meaning_if}
use Rattle.nddl_resolve.specs.declared.denoted.Denoted.{Denoted}
use Rattle.nddl_resolve.specs.Paths.{last_seen}
use Rattle.nddl_resolve.specs.Seen.{all_seen, seen_as}

pub found_last : (name : List ℕ) (names : Meant Denoted) → last_meaning name names ≡ last_seen name (all_seen names)
found_last name [] = refl
found_last name (seen ∷ more) = ap (λ o. option_or o (meaning_if name seen)) (found_last name more)

pub seen_more : (old new : Meant Denoted) (name : List ℕ) (meant : Denoted) → new ≡ old ++ (name, meant) ∷ []
    → all_seen new ≡ all_seen old ++ seen_as name meant ∷ []
seen_more old new name meant is = ap all_seen is ∙ map-append (λ seen. seen_as seen.0 seen.1) old ((name, meant) ∷ [])

pub as_many : (names : Meant Denoted) → length names ≡ length (all_seen names)
as_many [] = refl
as_many (seen ∷ more) = ap suc (as_many more)

front : (count : ℕ) (names : Meant Denoted) → all_seen (take count names) ≡ take count (all_seen names)
front zero names = refl
front (suc count) [] = refl
front (suc count) (seen ∷ more) = ap (λ rest. seen_as seen.0 seen.1 ∷ rest) (front count more)

pub seen_front : (count : ℕ) (old new : Meant Denoted) → new ≡ take count old → all_seen new ≡ take count (all_seen old)
seen_front count old new is = ap all_seen is ∙ front count old
