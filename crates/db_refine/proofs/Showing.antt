-- What a content gives, by the numbers of its variables.
use Rattle.std.proofs.Common.{◌≡◌, ℕ, suc, zero, List, [], ◌∷◌, length, Some, inl, inr, refl, ap, subst, arith}
use Rattle.std.specs.Prelude.{Contains, AllPairs, slice_get, ◌≢◌}
use Rattle.domain_core.specs.Domain.{Domain}
use Rattle.eu_name.specs.declared.name.VarName.{VarName}
use Rattle.model_core.specs.State.{VarDomain}
use Rattle.eu_name.proofs.Members.{get_from_contains, contains_from_get, get_below, get_within}
use Rattle.eu_name.proofs.Ordered.{contains_head, contains_later, contains_cases, contains_none, ordered_head, ordered_tail, ordered_none, ordered_cons}
use Rattle.model_core.specs.Content.{paired}

-- the number of a variable and its domain
pub record Stands (names : List VarName) (domains : List Domain) (name : VarName) (domain : Domain) : Type 0 where
  pub number : ℕ
  pub named : slice_get names number ≡ Some name
  pub given : slice_get domains number ≡ Some domain

stands_later : (first : VarName) (names : List VarName) (other : Domain) (domains : List Domain) (name : VarName) (domain : Domain)
    → Stands names domains name domain → Stands (first ∷ names) (other ∷ domains) name domain
stands_later first names other domains name domain s = record { number = suc s.number; named = s.named; given = s.given }

pub stands_from : (names : List VarName) (domains : List Domain) (name : VarName) (domain : Domain)
    → Contains (paired names domains) (record { name = name; domain = domain }) → Stands names domains name domain
stands_from [] domains name domain c = absurd (contains_none _ c)
stands_from (first ∷ names) [] name domain c = absurd (contains_none _ c)
stands_from (first ∷ names) (other ∷ domains) name domain c = elim (contains_cases (record { name = first; domain = other }) (record { name = name; domain = domain }) (paired names domains) c) [
  | inl same ↦ record { number = 0; named = ap (λ (e : VarDomain). Some e.name) same; given = ap (λ (e : VarDomain). Some e.domain) same }
  | inr later ↦ stands_later first names other domains name domain (stands_from names domains name domain later)
]

pub gives_from : (names : List VarName) (domains : List Domain) (k : ℕ) (name : VarName) (domain : Domain)
    → slice_get names k ≡ Some name → slice_get domains k ≡ Some domain → Contains (paired names domains) (record { name = name; domain = domain })
gives_from [] domains k name domain p q = absurd (cc)
gives_from (first ∷ names) [] k name domain p q = absurd (cc)
gives_from (first ∷ names) (other ∷ domains) zero name domain p q =
    let named : first ≡ name = cc in
    let given : other ≡ domain = cc in
    subst (Contains (paired (first ∷ names) (other ∷ domains))) (λ i. record { name = named i; domain = given i }) (contains_head (record { name = first; domain = other }) (paired names domains))
gives_from (first ∷ names) (other ∷ domains) (suc k) name domain p q =
    contains_later (record { name = first; domain = other }) (record { name = name; domain = domain }) (paired names domains) (gives_from names domains k name domain p q)

-- a name of the content has a domain there
pub has_domain : (names : List VarName) (domains : List Domain) → length names ≡ length domains → (name : VarName) → Contains names name
    → (domain : Domain) × Contains (paired names domains) (record { name = name; domain = domain })
has_domain names domains long name c =
    let at = get_from_contains names name c in
    let below = get_below names at.0 name at.1 in
    let found = get_within domains at.0 (omega (arith, long, below)) in
    (found.0, gives_from names domains at.0 name found.0 at.1 found.1)

-- and what has a domain is a name of it
pub is_named : (names : List VarName) (domains : List Domain) (name : VarName) (domain : Domain)
    → Contains (paired names domains) (record { name = name; domain = domain }) → Contains names name
is_named names domains name domain c =
    let at = stands_from names domains name domain c in
    contains_from_get names at.number name at.named

abbrev pub Apart : VarDomain → VarDomain → Type 0
Apart one other = one.name ≢ other.name

-- where names differ, so do those of the entries
pub pairs_apart : (names : List VarName) (domains : List Domain) → AllPairs (λ one other. one ≢ other) names
    → AllPairs Apart (paired names domains)
pairs_apart [] domains once = ordered_none Apart
pairs_apart (first ∷ names) [] once = ordered_none Apart
pairs_apart (first ∷ names) (other ∷ domains) once =
    ordered_cons Apart (record { name = first; domain = other }) (paired names domains)
    (λ entry c. ordered_head (λ one other. one ≢ other) first names once entry.name (is_named names domains entry.name entry.domain c))
    (pairs_apart names domains (ordered_tail (λ one other. one ≢ other) first names once))

-- names that differ have one number each
pub number_once : (names : List VarName) → AllPairs (λ one other. one ≢ other) names → (j k : ℕ) (name : VarName)
    → slice_get names j ≡ Some name → slice_get names k ≡ Some name → j ≡ k
number_once [] once j k name p q = absurd (cc)
number_once (first ∷ names) once zero zero name p q = refl
number_once (first ∷ names) once zero (suc k) name p q =
    absurd (ordered_head (λ one other. one ≢ other) first names once name (contains_from_get names k name q) (cc))
number_once (first ∷ names) once (suc j) zero name p q =
    absurd (ordered_head (λ one other. one ≢ other) first names once name (contains_from_get names j name p) (cc))
number_once (first ∷ names) once (suc j) (suc k) name p q =
    ap suc (number_once names (ordered_tail (λ one other. one ≢ other) first names once) j k name p q)
