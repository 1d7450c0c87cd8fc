-- Lists of sites that are just those that are meant.
use Rattle.std.proofs.Common.{◌≡◌, ℕ, zero, suc, ◌<◌, List, [], ◌∷◌, ◌++◌, length, get_or, refl, sym, subst, inl, inr, arith}
use Rattle.std.specs.Prelude.{◌⊎◌, Contains}
use Rattle.std.specs.List.{AllByRecursion}
use Rattle.std.proofs.lemmas.List.Elements.{All-from_recursion, Contains-append_left, Contains-append_right}
use Rattle.nddl_symbols.specs.declared.site.Site.{Site}
use Rattle.nddl_symbols.specs.Joined.{IsInFileOrder}

-- the relation holds of each item and each later one
abbrev pub Pairs : {X : Type 0} → (X → X → Type 0) → List X → Type 0
Pairs R [] = Unit {0}
Pairs R (x ∷ xs) = AllByRecursion (R x) xs × Pairs R xs

-- the sites are those of which the property holds, each once, and those of one file in its order
pub record Fills (P : Site → Type 0) (sites : List Site) : Type 0 where
  pub only : AllByRecursion P sites
  pub each : (site : Site) → P site → Contains sites site
  pub ordered : Pairs IsInFileOrder sites

all_weaker : (P Q : Site → Type 0) → ((site : Site) → P site → Q site) → (sites : List Site) → AllByRecursion P sites → AllByRecursion Q sites
all_weaker P Q weaker [] all = tt
all_weaker P Q weaker (site ∷ sites) all = (weaker site all.0, all_weaker P Q weaker sites all.1)

all_append : (P : Site → Type 0) (one other : List Site) → AllByRecursion P one → AllByRecursion P other → AllByRecursion P (one ++ other)
all_append P [] other first second = second
all_append P (site ∷ one) other first second = (first.0, all_append P one other first.1 second)

pairs_append : (P Q : Site → Type 0) (R : Site → Site → Type 0) → ((a b : Site) → P a → Q b → R a b)
    → (one other : List Site) → AllByRecursion P one → AllByRecursion Q other → Pairs R one → Pairs R other → Pairs R (one ++ other)
pairs_append P Q R cross [] other first second p q = q
pairs_append P Q R cross (site ∷ one) other first second p q = (
  all_append (R site) one other p.0 (all_weaker Q (R site) (λ b is. cross site b first.0 is) other second),
  pairs_append P Q R cross one other first.1 second p.1 q,
)

pub pairs_all : {X : Type 0} (R : X → X → Type 0) (xs : List X) → Pairs R xs → (i j : ℕ) (d : X) → i < j → j < length xs → R (get_or xs i d) (get_or xs j d)
pairs_all R [] p i j d below within = absurd (omega arith)
pairs_all R (x ∷ xs) p zero zero d below within = absurd (omega arith)
pairs_all R (x ∷ xs) p zero (suc j) d below within = All-from_recursion (R x) xs p.0 j d (omega arith)
pairs_all R (x ∷ xs) p (suc i) zero d below within = absurd (omega arith)
pairs_all R (x ∷ xs) p (suc i) (suc j) d below within = pairs_all R xs p.1 i j d (omega arith) (omega arith)

-- of nothing that is meant
pub fills_none : (P : Site → Type 0) → ((site : Site) → P site → ⊥) → Fills P []
fills_none P none = record { only = tt; each = λ site is. absurd (none site is); ordered = tt }

-- of one site
pub fills_one : (here : Site) → Fills (λ site. site ≡ here) (here ∷ [])
fills_one here = record {
  only = (refl, tt);
  each = λ site same. let P : Site → Type 0 = λ s. Contains (here ∷ []) s in subst P (sym same) (0, omega arith, refl);
  ordered = (tt, tt);
}

-- what is meant in other words
pub fills_same : (P Q : Site → Type 0) (sites : List Site) → ((site : Site) → P site → Q site) → ((site : Site) → Q site → P site) → Fills P sites → Fills Q sites
fills_same P Q sites forth back fills = record {
  only = all_weaker P Q forth sites fills.only;
  each = λ site is. fills.each site (back site is);
  ordered = fills.ordered;
}

either : (P Q : Site → Type 0) (one other : List Site) (site : Site) → Fills P one → Fills Q other → P site ⊎ Q site → Contains (one ++ other) site
either P Q one other site first second (inl p) = Contains-append_left one other site (first.each site p)
either P Q one other site first second (inr q) = Contains-append_right one other site (second.each site q)

-- of two properties, where each site of the first comes before those of the second
pub fills_both : (P Q : Site → Type 0) (one other : List Site) → Fills P one → Fills Q other
    → ((a b : Site) → P a → Q b → IsInFileOrder a b) → Fills (λ site. P site ⊎ Q site) (one ++ other)
fills_both P Q one other first second cross = record {
  only = all_append (λ site. P site ⊎ Q site) one other (all_weaker P (λ site. P site ⊎ Q site) (λ site p. inl p) one first.only)
      (all_weaker Q (λ site. P site ⊎ Q site) (λ site q. inr q) other second.only);
  each = λ site is. either P Q one other site first second is;
  ordered = pairs_append P Q IsInFileOrder cross one other first.only second.only first.ordered second.ordered;
}
